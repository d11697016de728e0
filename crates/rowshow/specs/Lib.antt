pub mod Show
pub mod Text
