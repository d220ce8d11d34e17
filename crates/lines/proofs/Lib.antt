pub mod Bounds
pub mod Classes
mod Cells
mod Adds
