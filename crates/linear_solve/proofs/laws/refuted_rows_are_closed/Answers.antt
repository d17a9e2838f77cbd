use Rattle.linear_solve.proofs.Solving.{closed_exactly}
use Rattle.linear_solve.proofs.laws.refuted_rows_are_closed.Goals as goal

pub returns : goal.returns
returns c rows solved no_zero answers = closed_exactly rows solved no_zero answers
