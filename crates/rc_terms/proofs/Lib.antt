pub mod Bits
pub mod Evaluations
pub mod Indexes
pub mod Shifts
pub mod SortedTerms
pub mod Substitutions
pub mod Widths
