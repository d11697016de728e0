pub mod Corners
pub mod Ends
pub mod Flags
pub mod Numbers
pub mod Same
