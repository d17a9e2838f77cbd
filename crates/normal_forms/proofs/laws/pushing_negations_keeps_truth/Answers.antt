use Rattle.normal_forms.proofs.Negations.{pushed_keeps}
use Rattle.normal_forms.proofs.laws.pushing_negations_keeps_truth.Goals as goal

pub returns : goal.returns
returns c = pushed_keeps
