use Rattle.std.proofs.Common.{pos, T, unwrap_or, FitsSigned, sym, ap, ◌∙◌, subst, rules, arith}
use Rattle.std.proofs.lemmas.List.Sorted.{answers_always}
use Rattle.std.proofs.lemmas.Int.{to_z-of_z}
use mir.Syntax.{w128}
use Rattle.linear_certs.proofs.SortedFactors.{found_by_search, absent_by_search, get_of_view}
use Rattle.linear_certs.proofs.factors.Factors.get.Goals as goal

-- the entry that was read is the unknown's
pub returns-in-Ok : goal.returns-in-Ok
returns-in-Ok c =
    let es = c.self.inside.entries.items in
    let sorted : T _ = subst T (sym c.self.invariant.0) tt in
    let by_key = c.in-Ok.ensures.position (λ e. e.0) (answers_always _ _ _ (λ f a r g called. search rules)) in
    let found = found_by_search es c.args.unknown c.in-Ok.at c.index.result.now sorted
    (omega (arith, c.in-Ok.ensures.bound)) (rw c.deref.ensures.value at by_key) in
    let fits : FitsSigned w128 c.index.result.now.1 = search rules in
    to_z-of_z _ _ fits
    ∙ ap (λ e. e.1) c.index.ensures
    ∙ sym (ap (λ o. unwrap_or o (pos 0)) (get_of_view es _ c.args.unknown c.self.invariant.0 c.self.view_is ∙ found))

-- no entry is
pub returns-in-Err : goal.returns-in-Err
returns-in-Err c =
    let es = c.self.inside.entries.items in
    let sorted : T _ = subst T (sym c.self.invariant.0) tt in
    let by_key = c.in-Err.ensures.position (λ e. e.0) (answers_always _ _ _ (λ f a r g called. search rules)) in
    let absent = absent_by_search es c.args.unknown c.in-Err.field-0 sorted (rw c.deref.ensures.value at by_key) in
    sym (ap (λ o. unwrap_or o (pos 0)) (get_of_view es _ c.args.unknown c.self.invariant.0 c.self.view_is ∙ absent))
