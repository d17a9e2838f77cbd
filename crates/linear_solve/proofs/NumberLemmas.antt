-- Maps of numbers that are made entry by entry, in ascending order.
use Rattle.std.proofs.Common.{◌≡◌, ◌≢◌, ℕ, zero, suc, ◌+◌, ◌<◌, ◌≤◌, Bool, true, false, T, not, List, [], ◌∷◌, ◌++◌}
use Rattle.std.proofs.Common.{length, get_or, take, filter, map, ℤ, pos, int_div, cond}
use Rattle.std.proofs.Common.{refl, sym, ap, ◌∙◌, subst, add-one, arith}
use Rattle.std.specs.declared.cmp.Ordering.{Ordering}
use Rattle.std.specs.declared.cmp.Ordering.TheVariants.{Less, Equal, Greater}
use Rattle.std.specs.Ordering.{nat_cmp, int_eq}
use Rattle.std.specs.Cmp.{nat_cmp_total, ranked}
use Rattle.std.specs.FinMap.{FinMap, empty, insert, entries, from_sorted, put, is_sorted}
use Rattle.std.specs.FinMap.{entries_sorted, entries-from_sorted, entries-insert, same_entries_map, len-entries, len-empty}
use Rattle.std.specs.Cmp.{signed_Decides}
use Rattle.std.proofs.Common.{Decides}
use Rattle.std.proofs.lemmas.List.{nil_from_length, take_more, take_all, map-append, append-nil}
use Rattle.std.proofs.lemmas.List.Elements.{filter-append}
use Rattle.linear_certs.proofs.SortedFactors.{first_below, sorted_tail}
use Rattle.linear_solve.specs.Numbers.{quotients}

pub entries-empty : entries (empty {X = ℤ} {R = nat_cmp}) ≡ []
entries-empty = nil_from_length _ (sym (len-entries _) ∙ len-empty nat_cmp ℤ)

-- each index of the entries is below a number
abbrev pub IsBelow : ℕ → List (ℕ × ℤ) → Type 0
IsBelow k [] = Unit {0}
IsBelow k (e ∷ es) = (e.0 < k) × IsBelow k es

above_is_greater : (x y : ℕ) → y < x → nat_cmp x y ≡ Greater
above_is_greater x y above = by_rank (nat_cmp x y) refl
  where
    by_rank : (r : Ordering) → nat_cmp x y ≡ r → r ≡ Greater
    by_rank Less is = let p = ranked x y Less (sym is) in absurd (omega arith)
    by_rank Equal is = let p = ranked x y Equal (sym is) in absurd (omega arith)
    by_rank Greater is = refl

put_last : (es : List (ℕ × ℤ)) (k : ℕ) (v : ℤ) → IsBelow k es → put nat_cmp k v es ≡ es ++ (k, v) ∷ []
put_last [] k v below = refl
put_last (e ∷ es) k v below =
    let order = above_is_greater k e.0 below.0 in
    rw order (ap (λ l. e ∷ l) (put_last es k v below.1))

-- an index above all is put at the end
pub entries-insert_last : (m : FinMap nat_cmp ℤ) (k : ℕ) (v : ℤ) → IsBelow k (entries m)
    → entries (insert m k v) ≡ entries m ++ (k, v) ∷ []
entries-insert_last m k v below = entries-insert nat_cmp_total m k v ∙ put_last (entries m) k v below

-- in ascending entries those before one are below it
pub below_next : (es : List (ℕ × ℤ)) → T (is_sorted nat_cmp es) → (i : ℕ) (d : ℕ × ℤ) → i < length es
    → IsBelow (get_or es i d).0 (take i es)
below_next [] sorted i d within = absurd (omega arith)
below_next (e ∷ es) sorted zero d within = tt
below_next (e ∷ es) sorted (suc i) d within =
    (first_below e es sorted i d (omega arith), below_next es (sorted_tail e es sorted) i d (omega arith))

IsBelow_kept : (k : ℕ) (b : Bool) (e : ℕ × ℤ) (es : List (ℕ × ℤ)) → e.0 < k → IsBelow k es → IsBelow k (cond b (e ∷ es) es)
IsBelow_kept k true e es below rest = (below, rest)
IsBelow_kept k false e es below rest = rest

pub IsBelow-quotients : (k : ℕ) (divisor : ℤ) (es : List (ℕ × ℤ)) → IsBelow k es → IsBelow k (quotients divisor es)
IsBelow-quotients k divisor [] below = tt
IsBelow-quotients k divisor (e ∷ es) below =
    IsBelow_kept k (not (int_eq (int_div e.1 divisor) (pos 0))) (e.0, int_div e.1 divisor) (quotients divisor es)
    below.0 (IsBelow-quotients k divisor es below.1)

abbrev divided_entry : ℤ → ℕ × ℤ → ℕ × ℤ
divided_entry divisor entry = (entry.0, int_div entry.1 divisor)

abbrev is_nonzero : ℕ × ℤ → Bool
is_nonzero entry = not (int_eq entry.1 (pos 0))

-- one quotient more
pub quotients-take : (divisor : ℤ) (es : List (ℕ × ℤ)) (i : ℕ) (d : ℕ × ℤ) → i < length es
    → quotients divisor (take (i + 1) es) ≡ quotients divisor (take i es) ++ quotients divisor (get_or es i d ∷ [])
quotients-take divisor es i d within =
    ap (quotients divisor) (take_more es i d within)
    ∙ ap (filter is_nonzero) (map-append (divided_entry divisor) (take i es) (get_or es i d ∷ []))
    ∙ filter-append is_nonzero (map (divided_entry divisor) (take i es)) (map (divided_entry divisor) (get_or es i d ∷ []))

apart_test : (x y : ℤ) (b : Bool) → x ≢ y → Decides b (x ≡ y) → b ≡ false
apart_test x y true apart decides = absurd (apart (decides.0 refl))
apart_test x y false apart decides = refl

pub no_from_apart : (x y : ℤ) → x ≢ y → int_eq x y ≡ false
no_from_apart x y apart = apart_test x y (int_eq x y) apart (signed_Decides x y)

-- a quotient that isn't 0 is kept last
pub quotient_kept : (old new : FinMap nat_cmp ℤ) (divisor : ℤ) (es : List (ℕ × ℤ)) (i k : ℕ) (q : ℤ) (d : ℕ × ℤ)
    → T (is_sorted nat_cmp es) → i < length es → entries old ≡ quotients divisor (take i es)
    → k ≡ (get_or es i d).0 → q ≡ int_div (get_or es i d).1 divisor → q ≢ pos 0 → new ≡ insert old k q
    → entries new ≡ quotients divisor (take (i + 1) es)
quotient_kept old new divisor es i k q d sorted within is is_key is_quotient positive is_new =
    let below = IsBelow-quotients _ divisor (take i es) (below_next es sorted i d within) in
    let below_key : IsBelow k (entries old) =
    subst (λ n. IsBelow n (entries old)) (sym is_key) (subst (IsBelow (get_or es i d).0) (sym is) below) in
    let test : int_eq (int_div (get_or es i d).1 divisor) (pos 0) ≡ false =
    no_from_apart _ _ (λ e. positive (is_quotient ∙ e)) in
    let last : quotients divisor (get_or es i d ∷ []) ≡ (k, q) ∷ [] =
    ap (λ b. cond (not b) (divided_entry divisor (get_or es i d) ∷ []) []) test
    ∙ (λ j. (sym is_key j, sym is_quotient j) ∷ []) in
    ap entries is_new ∙ entries-insert_last old k q below_key ∙ ap (λ l. l ++ (k, q) ∷ []) is
    ∙ ap (λ l. quotients divisor (take i es) ++ l) (sym last) ∙ sym (quotients-take divisor es i d within)

-- one that is 0 is left out
pub quotient_dropped : (old : FinMap nat_cmp ℤ) (divisor : ℤ) (es : List (ℕ × ℤ)) (i : ℕ) (q : ℤ) (d : ℕ × ℤ)
    → i < length es → entries old ≡ quotients divisor (take i es)
    → q ≡ int_div (get_or es i d).1 divisor → q ≡ pos 0 → entries old ≡ quotients divisor (take (i + 1) es)
quotient_dropped old divisor es i q d within is is_quotient none =
    let test : int_eq (int_div (get_or es i d).1 divisor) (pos 0) ≡ true =
    (signed_Decides _ _).1 (sym is_quotient ∙ none) in
    is ∙ sym (append-nil _)
    ∙ ap (λ l. quotients divisor (take i es) ++ l)
    (sym (ap (λ b. cond (not b) (divided_entry divisor (get_or es i d) ∷ []) []) test))
    ∙ sym (quotients-take divisor es i d within)

pub quotient_step : (old new : FinMap nat_cmp ℤ) (divisor : ℤ) (es : List (ℕ × ℤ)) (i k : ℕ) (q : ℤ) (d : ℕ × ℤ)
    → T (is_sorted nat_cmp es) → i < length es → entries old ≡ quotients divisor (take i es)
    → k ≡ (get_or es i d).0 → q ≡ int_div (get_or es i d).1 divisor
    → (q ≢ pos 0 → new ≡ insert old k q) → (q ≡ pos 0 → new ≡ old)
    → entries new ≡ quotients divisor (take (i + 1) es)
quotient_step old new divisor es i k q d sorted within is is_key is_quotient kept dropped =
    elim (int_eq q (pos 0)) as (λ b. Decides b (q ≡ pos 0) → entries new ≡ quotients divisor (take (i + 1) es)) [
      | true ↦ λ decides.
          ap entries (dropped (decides.0 refl))
          ∙ quotient_dropped old divisor es i q d within is is_quotient (decides.0 refl)
      | false ↦ λ decides.
          let apart : q ≢ pos 0 = λ e. let clash : false ≡ true = decides.1 e in cc in
          quotient_kept old new divisor es i k q d sorted within is is_key is_quotient apart (kept apart)
    ] (signed_Decides q (pos 0))

-- a map whose entries are a list is the map of that list
pub from_entries_list : (m : FinMap nat_cmp ℤ) (es : List (ℕ × ℤ)) → entries m ≡ es → m ≡ from_sorted es
from_entries_list m es is =
    same_entries_map m (from_sorted es)
    (is ∙ sym (entries-from_sorted nat_cmp es (subst (λ l. T (is_sorted nat_cmp l)) is (entries_sorted m))))

-- a map of the first few quotients
quotients_map : (divisor : ℤ) (es : List (ℕ × ℤ)) (i : ℕ) → T (is_sorted nat_cmp es) → i ≤ length es
    → (m : FinMap nat_cmp ℤ) × (entries m ≡ quotients divisor (take i es))
quotients_map divisor es zero sorted within = (empty, entries-empty)
quotients_map divisor es (suc i) sorted within =
    let before = quotients_map divisor es i sorted (omega arith) in
    let d : ℕ × ℤ = (0, pos 0) in
    let inside : i < length es = omega arith in
    let q = int_div (get_or es i d).1 divisor in
    elim (int_eq q (pos 0)) as (λ b. Decides b (q ≡ pos 0)
    → (m : FinMap nat_cmp ℤ) × (entries m ≡ quotients divisor (take (suc i) es))) [
      | true ↦ λ decides. (
        before.0,
        rw add-one at (quotient_dropped before.0 divisor es i q d inside before.1 refl (decides.0 refl)),
      )
      | false ↦ λ decides.
          let apart : q ≢ pos 0 = λ e. let clash : false ≡ true = decides.1 e in cc in
          let next = insert before.0 (get_or es i d).0 q in (
            next,
            rw add-one at (quotient_kept before.0 next divisor es i _ q d sorted inside before.1 refl refl apart refl),
          )
    ] (signed_Decides q (pos 0))

pub entries-quotients : (divisor : ℤ) (es : List (ℕ × ℤ)) → T (is_sorted nat_cmp es)
    → entries (from_sorted {R = nat_cmp} (quotients divisor es)) ≡ quotients divisor es
entries-quotients divisor es sorted =
    let whole = quotients_map divisor es (length es) sorted (omega arith) in
    let is = whole.1 ∙ ap (quotients divisor) (take_all (length es) es (omega arith)) in
    entries-from_sorted nat_cmp (quotients divisor es) (subst (λ l. T (is_sorted nat_cmp l)) is (entries_sorted whole.0))
