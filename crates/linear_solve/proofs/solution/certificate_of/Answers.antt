use Rattle.std.proofs.Common.{FitsSigned, rules, sym, ◌∙◌}
use Rattle.std.proofs.lemmas.Int.{to_z-of_z}
use Rattle.std.proofs.lemmas.Result.{err_from_is_err_and}
use mir.Syntax.{w128}
use Rattle.linear_solve.proofs.TakenLemmas.{OnLimit-weaker}
use Rattle.linear_solve.proofs.CertificateLemmas.{lowest_is, cert_is, long_is}
use Rattle.linear_solve.proofs.solution.certificate_of.Goals as goal

pub returns-in_err-entries-clause-long : goal.returns-in_err-entries-clause-long
returns-in_err-entries-clause-long c =
    let p = err_from_is_err_and c.from_residual-in_err-entries.result c.from_residual-in_err-entries.ensures.1 in
    let fits : FitsSigned w128 c.args.failing.now.row.constant = search rules in
    let sign = simp to_z-of_z at c.direction-sign.ensures in
    let sign_fits : FitsSigned w128 c.direction-sign.result = search rules in
    let long = simp to_z-of_z at c.in_err-entries.ensures.long in
    let lowest = lowest_is c.args.failing.now c.new.result c.in_ok-shared.shared c.in_ok-lowest.lowest
    c.as_slice.result.now c.new.ensures c.in_ok-shared.ensures c.in_ok-lowest.ensures c.as_slice.ensures in
    rw (p.1, p.2) (OnLimit-weaker c.in_err-entries.field-0.0 _ _
    (λ l passes. (
      passes.0,
      sym (long_is c.args.failing.now c.direction-sign.result c.as_slice.result.now sign lowest)
          ∙ passes.1,
    ))
    long)

pub returns-clause-ok : goal.returns-clause-ok
returns-clause-ok c =
    let fits : FitsSigned w128 c.args.failing.now.row.constant = search rules in
    let sign = simp to_z-of_z at c.direction-sign.ensures in
    let sign_fits : FitsSigned w128 c.direction-sign.result = search rules in
    let made = simp to_z-of_z at c.in_ok-entries.ensures.ok in
    let lowest = lowest_is c.args.failing.now c.new.result c.in_ok-shared.shared c.in_ok-lowest.lowest
    c.as_slice.result.now c.new.ensures c.in_ok-shared.ensures c.in_ok-lowest.ensures c.as_slice.ensures in
    cert_is c.args.failing.now c.direction-sign.result c.as_slice.result.now _ _ sign lowest made c.from_vec.ensures

pub returns-clause-short : goal.returns-clause-short
returns-clause-short c =
    let fits : FitsSigned w128 c.args.failing.now.row.constant = search rules in
    let sign = simp to_z-of_z at c.direction-sign.ensures in
    let sign_fits : FitsSigned w128 c.direction-sign.result = search rules in
    let short = simp to_z-of_z at c.in_ok-entries.ensures.short in
    let lowest = lowest_is c.args.failing.now c.new.result c.in_ok-shared.shared c.in_ok-lowest.lowest
    c.as_slice.result.now c.new.ensures c.in_ok-shared.ensures c.in_ok-lowest.ensures c.as_slice.ensures in
    sym (long_is c.args.failing.now c.direction-sign.result c.as_slice.result.now sign lowest) ∙ short
