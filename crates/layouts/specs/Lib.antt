pub mod Entry
pub mod IntType
pub mod Layout
pub mod Members
pub mod Table
