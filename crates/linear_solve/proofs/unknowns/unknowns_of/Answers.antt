use Rattle.std.proofs.Common.{All, subst}
use Rattle.std.proofs.lemmas.List.{take_all}
use Rattle.linear_solve.specs.Unknowns.{HasNoZero}
use Rattle.linear_solve.proofs.unknowns.unknowns_of.Goals as goal

pub returns-clause-no_zero : goal.returns-clause-no_zero
returns-clause-no_zero c =
    subst (All HasNoZero) (take_all c.loop-row.row-index c.args.rows.now c.loop-row-test.false) c.loop-row.invariant.1
