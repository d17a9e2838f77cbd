use Rattle.rc_terms.proofs.SortedTerms.{sort_under-substituted}
use Rattle.rc_terms.proofs.laws.substituting_keeps_sorts.Goals as goal

pub returns : goal.returns
returns c = λ names name by term sort is. sort_under-substituted names name by sort is term
