use Rattle.std.proofs.Common.{T, sym, ◌∙◌, subst, rules, arith}
use Rattle.std.proofs.lemmas.List.Sorted.{answers_always}
use Rattle.linear_certs.proofs.SortedFactors.{sorted_put, view_put, put_by_search, put_in_gap}
use Rattle.linear_solve.proofs.numbers.Numbers.insert.Goals as goal
use Rattle.linear_solve.proofs.numbers.Numbers.insert.Goals.{in-Large-1, in-Small-1}

-- the index is there, and gets the number
pub invariant_of-self : goal.invariant_of-self
invariant_of-self c =
    let es = c.self.inside.entries.items in
    let sorted : T _ = subst T (sym c.self.invariant) tt in
    let by_key = c.in-Ok.ensures.position (λ e. e.0) (answers_always _ _ _ (λ f a r g called. search rules)) in
    let edit = put_by_search es c.args.index c.in-Ok.at c.args.number sorted
    (omega (arith, c.in-Ok.ensures.bound)) (rw c.deref.ensures.value at by_key) in
    sorted_put es _ _ _ _ c.self.invariant c.self.view_is edit

pub invariant_of-self-in-Ok-2 : goal.invariant_of-self-in-Ok-2
invariant_of-self-in-Ok-2 c =
    let es = c.self.inside.entries.items in
    let sorted : T _ = subst T (sym c.self.invariant) tt in
    let by_key = c.in-Ok.ensures.position (λ e. e.0) (answers_always _ _ _ (λ f a r g called. search rules)) in
    let edit = put_by_search es c.args.index c.in-Ok.at c.args.number sorted
    (omega (arith, c.in-Ok.ensures.bound)) (rw c.deref.ensures.value at by_key) in
    sorted_put es _ _ _ _ c.self.invariant c.self.view_is edit

-- it is not, and goes where the search found its gap
pub invariant_of-self-in-Continue-1 : goal.invariant_of-self-in-Continue-1
invariant_of-self-in-Continue-1 c =
    let es = c.self.inside.entries.items in
    let sorted : T _ = subst T (sym c.self.invariant) tt in
    let by_key = c.in-Err.ensures.position (λ e. e.0) (answers_always _ _ _ (λ f a r g called. search rules)) in
    let edit = put_in_gap es c.args.index c.in-Err.at c.args.number sorted
    (omega (arith, c.in-Err.ensures.bound)) (rw c.deref.ensures.value at by_key) in
    rw c.in_ok-insert-in-Err.ensures.items (sorted_put es _ _ _ _ c.self.invariant c.self.view_is edit)

pub returns-in-Ok : goal.returns-in-Ok
returns-in-Ok c =
    let es = c.self.inside.entries.items in
    let sorted : T _ = subst T (sym c.self.invariant) tt in
    let by_key = c.in-Ok.ensures.position (λ e. e.0) (answers_always _ _ _ (λ f a r g called. search rules)) in
    let edit = put_by_search es c.args.index c.in-Ok.at c.args.number sorted
    (omega (arith, c.in-Ok.ensures.bound)) (rw c.deref.ensures.value at by_key) in
    elim c.match-index_mut.branch [
      | in-Large-1 w ↦ w.self-is ∙ view_put es _ _ _ _ c.self.invariant c.self.view_is edit
      | in-Small-1 w ↦ w.self-is ∙ view_put es _ _ _ _ c.self.invariant c.self.view_is edit
    ]

pub returns-in_ok-insert-in-Err : goal.returns-in_ok-insert-in-Err
returns-in_ok-insert-in-Err c =
    let es = c.self.inside.entries.items in
    let sorted : T _ = subst T (sym c.self.invariant) tt in
    let by_key = c.in-Err.ensures.position (λ e. e.0) (answers_always _ _ _ (λ f a r g called. search rules)) in
    let edit = put_in_gap es c.args.index c.in-Err.at c.args.number sorted
    (omega (arith, c.in-Err.ensures.bound)) (rw c.deref.ensures.value at by_key) in
    rw c.in_ok-insert-in-Err.ensures.items (view_put es _ _ _ _ c.self.invariant c.self.view_is edit)
