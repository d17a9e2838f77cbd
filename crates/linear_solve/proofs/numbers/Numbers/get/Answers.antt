use Rattle.std.proofs.Common.{T, Some, sym, ap, ◌∙◌, subst, rules, arith}
use Rattle.std.proofs.lemmas.List.Sorted.{answers_always}
use Rattle.linear_certs.proofs.SortedFactors.{found_by_search, absent_by_search, get_of_view}
use Rattle.linear_solve.proofs.numbers.Numbers.get.Goals as goal

pub returns-in-Ok : goal.returns-in-Ok
returns-in-Ok c =
    let es = c.self.inside.entries.items in
    let sorted : T _ = subst T (sym c.self.invariant) tt in
    let by_key = c.in-Ok.ensures.position (λ e. e.0) (answers_always _ _ _ (λ f a r g called. search rules)) in
    let found = found_by_search es c.args.index c.in-Ok.at c.index.result.now sorted
    (omega (arith, c.in-Ok.ensures.bound)) (rw c.deref.ensures.value at by_key) in
    ap (λ e. Some e.1) c.index.ensures ∙ sym (get_of_view es _ c.args.index c.self.invariant c.self.view_is ∙ found)

pub returns-in-Err : goal.returns-in-Err
returns-in-Err c =
    let es = c.self.inside.entries.items in
    let sorted : T _ = subst T (sym c.self.invariant) tt in
    let by_key = c.in-Err.ensures.position (λ e. e.0) (answers_always _ _ _ (λ f a r g called. search rules)) in
    let absent = absent_by_search es c.args.index c.in-Err.field-0 sorted (rw c.deref.ensures.value at by_key) in
    sym (get_of_view es _ c.args.index c.self.invariant c.self.view_is ∙ absent)
