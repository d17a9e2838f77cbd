use Rattle.normal_forms.proofs.OneForm.{one_form}
use Rattle.normal_forms.proofs.laws.equal_polynomials_have_one_normal_form.Goals as goal

pub returns : goal.returns
returns c = one_form
