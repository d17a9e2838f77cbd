pub mod Parts
pub mod Nests
pub mod Productions
