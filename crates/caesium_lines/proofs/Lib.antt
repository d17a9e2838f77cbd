pub mod WordLemmas
