use Rattle.linear_solve.proofs.Solving.{certificate_worth, model_worth, closed_exactly, both_ok}
use Rattle.linear_solve.proofs.solution.solve.Goals as goal

pub returns-clause-certificate : goal.returns-clause-certificate
returns-clause-certificate c =
    both_ok c.answer.result _ _ c.answer.ensures.ok c.answer.ensures.no_zero
    (λ solved answers no_zero. certificate_worth c.args.rows.now solved no_zero answers)

pub returns-clause-model : goal.returns-clause-model
returns-clause-model c =
    both_ok c.answer.result _ _ c.answer.ensures.ok c.answer.ensures.no_zero
    (λ solved answers no_zero. model_worth c.args.rows.now solved no_zero answers)

pub returns-clause-exactly : goal.returns-clause-exactly
returns-clause-exactly c =
    both_ok c.answer.result _ _ c.answer.ensures.ok c.answer.ensures.no_zero
    (λ solved answers no_zero. closed_exactly c.args.rows.now solved no_zero answers)
