pub mod Assignments
pub mod Binary
pub mod Operands
pub mod Unary
