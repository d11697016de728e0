pub mod Command
pub mod Flow
pub mod Host
pub mod Leaves
pub mod Refusal
pub mod Ring
pub mod Run
