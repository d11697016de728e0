pub mod Banding
pub mod Bools
pub mod Columns
pub mod Meaning
pub mod Means
pub mod Narrowing
mod Order
pub mod Reaching
pub mod Searching
mod Sizes
pub mod Spans
pub mod Squares
mod Weights
