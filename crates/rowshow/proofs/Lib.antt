mod Decimals
pub mod Printing
pub mod Showing
