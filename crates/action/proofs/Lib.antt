pub mod Corners
pub mod Naming
pub mod Sameness
pub mod Telling
