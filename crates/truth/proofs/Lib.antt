pub mod Arms
pub mod Bools
