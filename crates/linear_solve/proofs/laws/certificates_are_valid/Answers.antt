use Rattle.linear_solve.proofs.Solving.{certificate_worth}
use Rattle.linear_solve.proofs.laws.certificates_are_valid.Goals as goal

pub returns : goal.returns
returns c rows solved no_zero answers = certificate_worth rows solved no_zero answers
