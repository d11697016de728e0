pub mod Agreeing
pub mod Checking
pub mod Editing
pub mod Examples
pub mod Painted
pub mod Repainted
pub mod Rings
pub mod Words
