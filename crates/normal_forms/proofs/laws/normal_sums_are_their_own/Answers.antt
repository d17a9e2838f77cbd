use Rattle.normal_forms.proofs.Again.{sum_again}
use Rattle.normal_forms.proofs.laws.normal_sums_are_their_own.Goals as goal

pub returns : goal.returns
returns c term = sum_again term
