mod Calling
mod Endings
mod Four
mod Going
mod Judging
mod Keeping
pub mod Saves
mod Turns
