use Rattle.normal_forms.proofs.Judgements.{prop_holds}
use Rattle.normal_forms.proofs.laws.normal_props_keep_truth.Goals as goal

pub returns : goal.returns
returns c = prop_holds
