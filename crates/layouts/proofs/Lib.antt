pub mod MemberLemmas
pub mod TableLemmas
