pub mod Actions
pub mod Picture
pub mod Runs
