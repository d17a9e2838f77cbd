pub mod Arithmetic
pub mod Cells
