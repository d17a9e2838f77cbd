use Rattle.normal_forms.proofs.Expansions.{sum-expanded}
use Rattle.normal_forms.proofs.laws.expanding_keeps_values.Goals as goal

pub returns : goal.returns
returns c = sum-expanded
