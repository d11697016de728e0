pub mod Flowing
mod Joining
mod Lending
mod Numbering
pub mod Places
mod Refusing
mod Running
pub mod Sizes
mod Stepping
pub mod Steps
mod Taking
