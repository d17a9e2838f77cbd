pub mod ItemDepths
pub mod Functions
pub mod ItemLists
