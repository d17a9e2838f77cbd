pub mod Depth
pub mod Statements
