pub mod Repaint
pub mod Rows
pub mod Sides
