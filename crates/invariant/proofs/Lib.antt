pub mod Acting
mod Commands
mod Lists
mod Machines
pub mod Naming
mod Running
mod Settings
pub mod States
mod Steps
mod Vertices
