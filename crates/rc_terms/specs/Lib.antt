pub mod Bindings
pub mod Evaluation
pub mod Names
pub mod Nodes
pub mod Numbers
pub mod Operators
pub mod Sorting
pub mod Substitution
