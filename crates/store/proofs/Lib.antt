pub mod Back
mod Groups
