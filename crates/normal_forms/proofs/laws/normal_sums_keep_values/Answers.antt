use Rattle.normal_forms.proofs.WholeSums.{normal_sum_keeps}
use Rattle.normal_forms.proofs.laws.normal_sums_keep_values.Goals as goal

pub returns : goal.returns
returns c = normal_sum_keeps
