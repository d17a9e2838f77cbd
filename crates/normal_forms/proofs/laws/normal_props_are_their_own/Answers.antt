use Rattle.normal_forms.proofs.PropositionAgain.{prop_again}
use Rattle.normal_forms.proofs.laws.normal_props_are_their_own.Goals as goal

pub returns : goal.returns
returns c names term is = prop_again names term is
