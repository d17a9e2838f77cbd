use Rattle.linear_solve.proofs.Refuted.{refuted_good}
use Rattle.linear_solve.proofs.FailingLemmas.{certificate_valid}
use Rattle.linear_solve.proofs.laws.failing_rows_give_valid_certificates.Goals as goal

pub returns : goal.returns
returns c rows unknowns derived is =
    let good = refuted_good rows unknowns derived is in certificate_valid rows derived good.0 good.1
