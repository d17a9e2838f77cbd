use Rattle.std.proofs.Common.{true}
use Rattle.normal_forms.proofs.StageLaws.{staged_value}
use Rattle.normal_forms.proofs.laws.normal_terms_keep_values.Goals as goal

pub returns : goal.returns
returns c env term = staged_value env term true
