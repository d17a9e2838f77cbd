pub mod Depth
pub mod Kept
pub mod Void
pub mod RecordSteps
pub mod FunctionSteps
