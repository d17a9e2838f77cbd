pub mod CellLemmas
pub mod EncodingLemmas
pub mod MemoryLemmas
pub mod NumberLemmas
pub mod RangeLemmas
