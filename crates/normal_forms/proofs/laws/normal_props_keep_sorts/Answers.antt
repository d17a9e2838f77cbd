use Rattle.std.proofs.Common.{true, false, ◌∙◌}
use Rattle.normal_forms.specs.Negation.{pushed}
use Rattle.normal_forms.proofs.StageLaws.{staged_sort}
use Rattle.normal_forms.proofs.PushedSorts.{pushed_sort}
use Rattle.normal_forms.proofs.laws.normal_props_keep_sorts.Goals as goal

pub returns : goal.returns
returns c names term is = staged_sort names (pushed term false) true ∙ pushed_sort names term false is
