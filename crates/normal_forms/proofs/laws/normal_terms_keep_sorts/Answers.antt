use Rattle.std.proofs.Common.{true}
use Rattle.normal_forms.proofs.StageLaws.{staged_sort}
use Rattle.normal_forms.proofs.laws.normal_terms_keep_sorts.Goals as goal

pub returns : goal.returns
returns c names term = staged_sort names term true
