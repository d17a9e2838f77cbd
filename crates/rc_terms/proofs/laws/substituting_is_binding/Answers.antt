use Rattle.rc_terms.proofs.Substitutions.{value_of-substituted}
use Rattle.rc_terms.proofs.laws.substituting_is_binding.Goals as goal

pub returns : goal.returns
returns c = value_of-substituted
