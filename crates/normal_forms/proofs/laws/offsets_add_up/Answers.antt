use Rattle.normal_forms.proofs.LocationLaws.{offset_twice}
use Rattle.normal_forms.proofs.laws.offsets_add_up.Goals as goal

pub returns : goal.returns
returns c = offset_twice
