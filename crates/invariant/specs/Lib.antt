pub mod Each
pub mod State
pub mod Numbers
pub mod Actions
