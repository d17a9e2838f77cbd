pub mod Block
pub mod Function
pub mod Literal
pub mod Names
pub mod Operation
pub mod Program
pub mod WellFormed
