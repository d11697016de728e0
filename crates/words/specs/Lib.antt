pub mod Fields
pub mod Layout
pub mod Table
pub mod Words
