mod Marking
mod Runs
pub mod Settling
mod Sides
mod Walking
