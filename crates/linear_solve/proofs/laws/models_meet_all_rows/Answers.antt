use Rattle.linear_solve.proofs.Solving.{model_worth}
use Rattle.linear_solve.proofs.laws.models_meet_all_rows.Goals as goal

pub returns : goal.returns
returns c rows solved no_zero answers = model_worth rows solved no_zero answers
