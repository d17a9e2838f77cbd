pub mod Depths
pub mod Scopes
pub mod Lists
pub mod Parts
pub mod Beginnings
