pub mod End
pub mod Layout
pub mod Line
pub mod Operation
pub mod Words
