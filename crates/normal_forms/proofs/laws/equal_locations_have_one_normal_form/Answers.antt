use Rattle.normal_forms.proofs.LocationLaws.{one_location}
use Rattle.normal_forms.proofs.laws.equal_locations_have_one_normal_form.Goals as goal

pub returns : goal.returns
returns c = one_location
