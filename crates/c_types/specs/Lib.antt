pub mod Arithmetic
pub mod CType
pub mod Constants
pub mod Conversions
pub mod Layouts
