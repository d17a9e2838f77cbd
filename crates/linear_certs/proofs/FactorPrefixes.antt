-- Look-ups in the first few of a list of factors, one more at a time.
use Rattle.std.proofs.Common.{◌≡◌, ◌≢◌, ℕ, zero, suc, ◌+◌, ◌<◌, true, false, T, cond, List, [], ◌∷◌, length}
use Rattle.std.proofs.Common.{get_or, take, Some, None, unwrap_or}
use Rattle.std.proofs.Common.{ℤ, pos, refl, sym, ap, ◌∙◌, add-one, arith}
use Rattle.std.specs.Ordering.{nat_cmp, eq_by_cmp}
use Rattle.std.specs.FinMap.{find, is_sorted}
use Rattle.linear_certs.proofs.SortedFactors.{factor_in, sorted_tail, first_below, tied_same, find_at, same_tied}

-- the next unknown is not among those before it
pub find_before : (es : List (ℕ × ℤ)) → T (is_sorted nat_cmp es) → (i : ℕ) (d : ℕ × ℤ) → i < length es
    → find nat_cmp (get_or es i d).0 (take i es) ≡ None
find_before [] sorted i d within = absurd (omega arith)
find_before (x ∷ es) sorted zero d within = refl
find_before (x ∷ es) sorted (suc i) d within =
    let below = first_below x es sorted i d (omega arith) in
    let k = (get_or es i d).0 in
    elim (eq_by_cmp nat_cmp k x.0) as (λ b. eq_by_cmp nat_cmp k x.0 ≡ b
    → cond b (Some x.1) (find nat_cmp k (take i es)) ≡ None) [
      | true ↦ λ tied. let same = tied_same k x.0 tied in absurd (omega arith)
      | false ↦ λ _. find_before es (sorted_tail x es sorted) i d (omega arith)
    ] refl

-- one more
pub find_more : (es : List (ℕ × ℤ)) → T (is_sorted nat_cmp es) → (i : ℕ) (d : ℕ × ℤ) → i < length es → (q : ℕ)
    → find nat_cmp q (take (suc i) es) ≡ cond (eq_by_cmp nat_cmp q (get_or es i d).0) (Some (get_or es i d).1)
    (find nat_cmp q (take i es))
find_more [] sorted i d within q = absurd (omega arith)
find_more (x ∷ es) sorted zero d within q = refl
find_more (x ∷ es) sorted (suc i) d within q =
    let below = first_below x es sorted i d (omega arith) in
    let e = get_or es i d in
    let more = find_more es (sorted_tail x es sorted) i d (omega arith) q in
    elim (eq_by_cmp nat_cmp q x.0) as (λ b. eq_by_cmp nat_cmp q x.0 ≡ b
    → cond b (Some x.1) (find nat_cmp q (take (suc i) es)) ≡ cond (eq_by_cmp nat_cmp q e.0) (Some e.1)
    (cond b (Some x.1) (find nat_cmp q (take i es)))) [
      | true ↦ λ tied. ap (λ b. cond b (Some e.1) (Some x.1))
          (sym (apart_tied q e.0 (let same = tied_same q x.0 tied in λ equal. omega arith)))
      | false ↦ λ _. more
    ] refl
  where
    apart_tied : (x y : ℕ) → x ≢ y → eq_by_cmp nat_cmp x y ≡ false
    apart_tied x y apart =
        elim (eq_by_cmp nat_cmp x y) as (λ b. eq_by_cmp nat_cmp x y ≡ b
        → b ≡ false) [ true ↦ λ tied. absurd (apart (tied_same x y tied)) | false ↦ λ _. refl ] refl

pub factor_before : (es : List (ℕ × ℤ)) → T (is_sorted nat_cmp es) → (i : ℕ) (d : ℕ × ℤ) → i < length es
    → factor_in (get_or es i d).0 (take i es) ≡ pos 0
factor_before es sorted i d within = ap (λ o. unwrap_or o (pos 0)) (find_before es sorted i d within)

pub factor_at : (es : List (ℕ × ℤ)) → T (is_sorted nat_cmp es) → (i : ℕ) (d : ℕ × ℤ) → i < length es
    → factor_in (get_or es i d).0 es ≡ (get_or es i d).1
factor_at es sorted i d within = ap (λ o. unwrap_or o (pos 0)) (find_at es sorted i d within)

pub factor_here : (es : List (ℕ × ℤ)) → T (is_sorted nat_cmp es) → (i : ℕ) (d : ℕ × ℤ) → i < length es
    → factor_in (get_or es i d).0 (take (i + 1) es) ≡ (get_or es i d).1
factor_here es sorted i d within =
    rw (add-one) (ap (λ o. unwrap_or o (pos 0)) (find_more es sorted i d within (get_or es i d).0
    ∙ ap (λ b. cond b (Some (get_or es i d).1) (find nat_cmp (get_or es i d).0 (take i es)))
    (same_tied (get_or es i d).0)))

pub factor_elsewhere : (es : List (ℕ × ℤ)) → T (is_sorted nat_cmp es) → (i : ℕ) (d : ℕ × ℤ) → i < length es → (q : ℕ)
    → q ≢ (get_or es i d).0 → factor_in q (take (i + 1) es) ≡ factor_in q (take i es)
factor_elsewhere es sorted i d within q apart =
    rw (add-one) (ap (λ o. unwrap_or o (pos 0)) (find_more es sorted i d within q
    ∙ elim (eq_by_cmp nat_cmp q (get_or es i d).0) as (λ b. eq_by_cmp nat_cmp q (get_or es i d).0 ≡ b
    → cond b (Some (get_or es i d).1) (find nat_cmp q (take i es)) ≡ find nat_cmp q (take i es)) [
      | true ↦ λ tied. absurd (apart (tied_same q (get_or es i d).0 tied))
      | false ↦ λ _. refl
    ] refl))
