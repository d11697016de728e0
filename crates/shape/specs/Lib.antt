pub mod Cover
pub mod Lines
pub mod Meaning
pub mod OneRow
pub mod Reach
