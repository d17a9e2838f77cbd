pub mod Depths
pub mod TypeDepths
pub mod TypeSteps
pub mod Nested
