pub mod Reading
pub mod Store
pub mod Writing
