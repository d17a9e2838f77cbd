use Rattle.std.proofs.Common.{FitsSigned, rules}
use Rattle.std.proofs.lemmas.Int.{to_z-of_z}
use Rattle.std.proofs.lemmas.Result.{err_from_is_err_and}
use mir.Syntax.{w128}
use Rattle.linear_solve.proofs.Combination.{combined_is}
use Rattle.linear_solve.proofs.derived.Derived.combined.Goals as goal

pub returns-in_err-quotients-clause-wide : goal.returns-in_err-quotients-clause-wide
returns-in_err-quotients-clause-wide c =
    let p = err_from_is_err_and c.from_residual-in_err-quotients.result c.from_residual-in_err-quotients.ensures.1 in
    rw (p.1, p.2) tt

pub returns-in_err-divided_by-clause-wide : goal.returns-in_err-divided_by-clause-wide
returns-in_err-divided_by-clause-wide c =
    let p = err_from_is_err_and c.from_residual-in_err-divided_by.result c.from_residual-in_err-divided_by.ensures.1 in
    rw (p.1, p.2) tt

pub returns-clause-ok : goal.returns-clause-ok
returns-clause-ok c =
    let left_fits : FitsSigned w128 c.args.self.now.row.constant = search rules in
    let right_fits : FitsSigned w128 c.args.right.now.row.constant = search rules in
    let constant = simp to_z-of_z at c.in_ok-constant.ensures in
    combined_is c.args.by.now c.args.self.now c.args.times.now c.args.right.now _ _ _ _ _ _ _ _ _ _
    constant c.in_ok-sums.ensures c.in_ok-shared.ensures c.in_ok-row.ensures.ok c.in_ok-shares.ensures
    c.in_ok-times.ensures c.in_ok-whole.ensures c.in_ok-common.ensures c.in_ok-quotients.ensures c.in_ok-divided_by.ensures
