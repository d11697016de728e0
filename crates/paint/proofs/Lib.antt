mod Banding
mod Folds
mod Going
pub mod Held
pub mod Lists
pub mod Patching
mod Points
pub mod Rows
pub mod Stacks
mod Sweeps
pub mod Turns
