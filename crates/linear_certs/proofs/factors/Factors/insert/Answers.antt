use Rattle.std.proofs.Common.{ℕ, ℤ, pos, ◌≢◌, T, sym, subst, rules, arith}
use Rattle.std.proofs.lemmas.Int.{to_z-of_z}
use Rattle.std.proofs.lemmas.List.Elements.{All-set}
use Rattle.std.proofs.lemmas.List.Sorted.{answers_always}
use mir.Syntax.{w128}
use Rattle.linear_certs.proofs.SortedFactors.{sorted_put, view_put, put_by_search, put_in_gap, All-insert_at}
use Rattle.linear_certs.proofs.factors.Factors.insert.Goals as goal

-- the unknown is there, and gets the factor
pub invariant_of-self : goal.invariant_of-self
invariant_of-self c =
    let read = to_z-of_z w128 c.args.factor c.ranges.factor in
    let es = c.self.inside.entries.items in
    let sorted : T _ = subst T (sym c.self.invariant.0) tt in
    let by_key =
    c.in-Ok.ensures.position (λ e. e.0) (answers_always _ _ _ (λ f a r g called. search rules)) in
    let edit = put_by_search es c.args.unknown c.in-Ok.at c.args.factor sorted
    (omega (arith, c.in-Ok.ensures.bound)) (rw c.deref.ensures.value at by_key) in
    rw read (
      sorted_put es _ _ _ _ c.self.invariant.0 c.self.view_is edit,
      All-set (λ (e : ℕ × ℤ). e.1 ≢ pos 0) es _ _ c.requires c.self.invariant.1,
    )

pub returns-in-Ok-clause-ok : goal.returns-in-Ok-clause-ok
returns-in-Ok-clause-ok c =
    let read = to_z-of_z w128 c.args.factor c.ranges.factor in
    let es = c.self.inside.entries.items in
    let sorted : T _ = subst T (sym c.self.invariant.0) tt in
    let by_key =
    c.in-Ok.ensures.position (λ e. e.0) (answers_always _ _ _ (λ f a r g called. search rules)) in
    let edit = put_by_search es c.args.unknown c.in-Ok.at c.args.factor sorted
    (omega (arith, c.in-Ok.ensures.bound)) (rw c.deref.ensures.value at by_key) in
    rw read (view_put es _ _ _ _ c.self.invariant.0 c.self.view_is edit)

-- it is not, and goes where the search found its gap
pub invariant_of-self-in-Continue-1 : goal.invariant_of-self-in-Continue-1
invariant_of-self-in-Continue-1 c =
    let read = to_z-of_z w128 c.args.factor c.ranges.factor in
    let es = c.self.inside.entries.items in
    let sorted : T _ = subst T (sym c.self.invariant.0) tt in
    let by_key =
    c.in-Err.ensures.position (λ e. e.0) (answers_always _ _ _ (λ f a r g called. search rules)) in
    let edit = put_in_gap es c.args.unknown c.in-Err.at c.args.factor sorted
    (omega (arith, c.in-Err.ensures.bound)) (rw c.deref.ensures.value at by_key) in
    rw (c.in_ok-insert-in-Err.ensures.items, read) (
      sorted_put es _ _ _ _ c.self.invariant.0 c.self.view_is edit,
      All-insert_at (λ e. e.1 ≢ pos 0) es _ _ c.requires c.self.invariant.1,
    )

pub returns-in_ok-insert-in-Err-clause-ok : goal.returns-in_ok-insert-in-Err-clause-ok
returns-in_ok-insert-in-Err-clause-ok c =
    let read = to_z-of_z w128 c.args.factor c.ranges.factor in
    let es = c.self.inside.entries.items in
    let sorted : T _ = subst T (sym c.self.invariant.0) tt in
    let by_key =
    c.in-Err.ensures.position (λ e. e.0) (answers_always _ _ _ (λ f a r g called. search rules)) in
    let edit = put_in_gap es c.args.unknown c.in-Err.at c.args.factor sorted
    (omega (arith, c.in-Err.ensures.bound)) (rw c.deref.ensures.value at by_key) in
    rw (c.in_ok-insert-in-Err.ensures.items, read)
    (view_put es _ _ _ _ c.self.invariant.0 c.self.view_is edit)
