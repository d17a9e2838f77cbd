pub mod AnswerLemmas
pub mod FormLemmas
pub mod FormTree
pub mod FrontEndLemmas
pub mod ListLemmas
pub mod OutcomeLemmas
pub mod RunLemmas
pub mod TextLemmas
