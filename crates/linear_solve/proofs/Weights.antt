-- Sums of entries, each times a weight of its index.
use Rattle.std.proofs.Common.{◌≡◌, ℕ, ◌<◌, Bool, true, false, T, cond, not, List, [], ◌∷◌}
use Rattle.std.proofs.Common.{Some, None, unwrap_or, ℤ, pos, ◌+ℤ◌, ◌*ℤ◌, int_div, refl, sym, ap, ◌∙◌}
use Rattle.std.proofs.Common.{arith, Decides}
use Rattle.std.specs.declared.cmp.Ordering.{Ordering}
use Rattle.std.specs.declared.cmp.Ordering.TheVariants.{Less, Equal, Greater}
use Rattle.std.specs.Ordering.{nat_cmp, int_eq, is_eq, eq_by_cmp}
use Rattle.std.specs.Cmp.{nat_cmp_total, ranked, signed_Decides}
use Rattle.std.specs.FinMap.{FinMap, empty, entries, find, put, is_sorted}
use Rattle.std.specs.FinMap.{entries_sorted, entries-insert, get-entries}
use Rattle.std.proofs.lemmas.Int.{ints}
use lib.IntN.{+ℤ_idl, +ℤ_idr, +ℤ_comm, +ℤ_assoc, *ℤ-zero, zero-*ℤ}
use Rattle.linear_certs.proofs.Integers.{mul_add, add_mul, mul_assoc}
use Rattle.linear_certs.proofs.SortedFactors.{factor_in, factor_in-cons, find_absent, first_below, sorted_tail}
use Rattle.linear_solve.specs.Numbers.{number_at, plus_at, plus_multiple, quotients}
use Rattle.linear_solve.specs.Derived.{sums_of}
use Rattle.linear_solve.proofs.Sums.{weighted_sum}
use Rattle.linear_solve.proofs.NumberLemmas.{entries-empty}

-- an index below the first is not there
absent_below : (e : ℕ × ℤ) (es : List (ℕ × ℤ)) (k : ℕ) → T (is_sorted nat_cmp (e ∷ es)) → k < e.0
    → find nat_cmp k es ≡ None
absent_below e es k sorted below =
    find_absent k es (λ i d within same. let above = first_below e es sorted i d within in omega arith)

swap_last : (a b c : ℤ) → (a +ℤ b) +ℤ c ≡ (a +ℤ c) +ℤ b
swap_last a b c = omega (arith, ints)

-- a number more at an index
put_plus : (weight : ℕ → ℤ) (es : List (ℕ × ℤ)) → T (is_sorted nat_cmp es) → (k : ℕ) (n : ℤ)
    → weighted_sum weight (put nat_cmp k (factor_in k es +ℤ n) es) ≡ weighted_sum weight es +ℤ n *ℤ weight k
put_plus weight [] sorted k n =
    +ℤ_idr _ ∙ ap (λ z. z *ℤ weight k) (+ℤ_idl n) ∙ sym (+ℤ_idl _)
put_plus weight (e ∷ es) sorted k n =
    by_rank (nat_cmp k e.0) refl (put_plus weight es (sorted_tail e es sorted) k n)
  where
    by_rank : (r : Ordering) → nat_cmp k e.0 ≡ r
        → weighted_sum weight (put nat_cmp k (factor_in k es +ℤ n) es) ≡ weighted_sum weight es +ℤ n *ℤ weight k
        → weighted_sum weight (put nat_cmp k (factor_in k (e ∷ es) +ℤ n) (e ∷ es))
        ≡ weighted_sum weight (e ∷ es) +ℤ n *ℤ weight k
    by_rank Less is rest =
        let below : k < e.0 = ranked k e.0 Less (sym is) in
        rw (is, absent_below e es k sorted below)
        (ap (λ z. z *ℤ weight k +ℤ (e.1 *ℤ weight e.0 +ℤ weighted_sum weight es)) (+ℤ_idl n)
        ∙ +ℤ_comm (n *ℤ weight k) (e.1 *ℤ weight e.0 +ℤ weighted_sum weight es))
    by_rank Equal is rest =
        let same : k ≡ e.0 = ranked k e.0 Equal (sym is) in
        rw is
        (ap (λ z. z +ℤ weighted_sum weight es) (add_mul e.1 n (weight e.0))
        ∙ ap (λ j. (e.1 *ℤ weight e.0 +ℤ n *ℤ weight j) +ℤ weighted_sum weight es) (sym same)
        ∙ swap_last (e.1 *ℤ weight e.0) (n *ℤ weight k) (weighted_sum weight es))
    by_rank Greater is rest =
        let skip : factor_in k (e ∷ es) ≡ factor_in k es =
        ap (λ r. unwrap_or (cond (is_eq r) (Some e.1) (find nat_cmp k es)) (pos 0)) is in
        ap (λ f. weighted_sum weight (put nat_cmp k (f +ℤ n) (e ∷ es))) skip
        ∙ rw is
        (ap (λ z. e.1 *ℤ weight e.0 +ℤ z) rest
        ∙ sym (+ℤ_assoc (e.1 *ℤ weight e.0) (weighted_sum weight es) (n *ℤ weight k)))

pub weighted_sum-plus_at : (weight : ℕ → ℤ) (m : FinMap nat_cmp ℤ) (k : ℕ) (n : ℤ)
    → weighted_sum weight (entries (plus_at m k n)) ≡ weighted_sum weight (entries m) +ℤ n *ℤ weight k
weighted_sum-plus_at weight m k n =
    ap (weighted_sum weight) (entries-insert nat_cmp_total m k (number_at m k +ℤ n))
    ∙ ap (λ o. weighted_sum weight (put nat_cmp k (unwrap_or o (pos 0) +ℤ n) (entries m))) (get-entries m k)
    ∙ put_plus weight (entries m) (entries_sorted m) k n

pub weighted_sum-plus_multiple : (weight : ℕ → ℤ) (by : ℤ) (es : List (ℕ × ℤ)) (m : FinMap nat_cmp ℤ)
    → weighted_sum weight (entries (plus_multiple by es m))
    ≡ weighted_sum weight (entries m) +ℤ by *ℤ weighted_sum weight es
weighted_sum-plus_multiple weight by [] m =
    sym (ap (λ z. weighted_sum weight (entries m) +ℤ z) (*ℤ-zero by) ∙ +ℤ_idr _)
weighted_sum-plus_multiple weight by (e ∷ es) m =
    weighted_sum-plus_multiple weight by es (plus_at m e.0 (by *ℤ e.1))
    ∙ ap (λ z. z +ℤ by *ℤ weighted_sum weight es) (weighted_sum-plus_at weight m e.0 (by *ℤ e.1))
    ∙ +ℤ_assoc (weighted_sum weight (entries m)) (by *ℤ e.1 *ℤ weight e.0) (by *ℤ weighted_sum weight es)
    ∙ ap (λ z. weighted_sum weight (entries m) +ℤ (z +ℤ by *ℤ weighted_sum weight es)) (mul_assoc by e.1 (weight e.0))
    ∙ ap (λ z. weighted_sum weight (entries m) +ℤ z) (sym (mul_add by (e.1 *ℤ weight e.0) (weighted_sum weight es)))

pub weighted_sum-sums_of : (weight : ℕ → ℤ) (by : ℤ) (left : List (ℕ × ℤ)) (times : ℤ) (right : List (ℕ × ℤ))
    → weighted_sum weight (entries (sums_of by left times right))
    ≡ by *ℤ weighted_sum weight left +ℤ times *ℤ weighted_sum weight right
weighted_sum-sums_of weight by left times right =
    weighted_sum-plus_multiple weight times right (plus_multiple by left empty)
    ∙ ap (λ z. z +ℤ times *ℤ weighted_sum weight right)
    (weighted_sum-plus_multiple weight by left empty
    ∙ ap (λ l. weighted_sum weight l +ℤ by *ℤ weighted_sum weight left) entries-empty ∙ +ℤ_idl _)

-- a number that is a quotient times the divisor
abbrev pub IsExact : ℤ → ℤ → Type 0
IsExact divisor z = int_div z divisor *ℤ divisor ≡ z

abbrev pub AreExact : ℤ → List (ℕ × ℤ) → Type 0
AreExact divisor [] = Unit {0}
AreExact divisor (e ∷ es) = IsExact divisor e.1 × AreExact divisor es

mul_comm : (a b : ℤ) → a *ℤ b ≡ b *ℤ a
mul_comm a b = omega (arith, ints)

one_quotient : (weight : ℤ) (divisor q z : ℤ) → q *ℤ divisor ≡ z → (q *ℤ weight) *ℤ divisor ≡ z *ℤ weight
one_quotient weight divisor q z exact =
    mul_assoc q weight divisor ∙ ap (λ y. q *ℤ y) (mul_comm weight divisor) ∙ sym (mul_assoc q divisor weight)
    ∙ ap (λ y. y *ℤ weight) exact

-- exact quotients, times the divisor
pub weighted_sum-quotients : (weight : ℕ → ℤ) (divisor : ℤ) (es : List (ℕ × ℤ)) → AreExact divisor es
    → weighted_sum weight (quotients divisor es) *ℤ divisor ≡ weighted_sum weight es
weighted_sum-quotients weight divisor [] exact = zero-*ℤ divisor
weighted_sum-quotients weight divisor (e ∷ es) exact =
    by_test (int_eq q (pos 0)) (signed_Decides q (pos 0))
    (weighted_sum-quotients weight divisor es exact.1)
  where
    q : ℤ
    q = int_div e.1 divisor

    by_test : (b : Bool) → Decides b (q ≡ pos 0)
        → weighted_sum weight (quotients divisor es) *ℤ divisor ≡ weighted_sum weight es
        → weighted_sum weight (cond (not b) ((e.0, q) ∷ quotients divisor es) (quotients divisor es)) *ℤ divisor
        ≡ e.1 *ℤ weight e.0 +ℤ weighted_sum weight es
    by_test true decides rest =
        let none : e.1 ≡ pos 0 = sym exact.0 ∙ ap (λ z. z *ℤ divisor) (decides.0 refl) ∙ zero-*ℤ divisor in
        rest ∙ sym (ap (λ z. z *ℤ weight e.0 +ℤ weighted_sum weight es) none
        ∙ ap (λ z. z +ℤ weighted_sum weight es) (zero-*ℤ (weight e.0)) ∙ +ℤ_idl _)
    by_test false decides rest =
        add_mul (q *ℤ weight e.0) (weighted_sum weight (quotients divisor es)) divisor
        ∙ (λ i. one_quotient (weight e.0) divisor q e.1 exact.0 i +ℤ rest i)

-- the weight of one index alone
abbrev pub only : ℕ → ℕ → ℤ
only index k = cond (eq_by_cmp nat_cmp index k) (pos 1) (pos 0)

pub factor_in-only : (es : List (ℕ × ℤ)) → T (is_sorted nat_cmp es) → (u : ℕ)
    → factor_in u es ≡ weighted_sum (only u) es
factor_in-only [] sorted u = refl
factor_in-only (e ∷ es) sorted u =
    factor_in-cons e es sorted u
    ∙ (λ i. alone_only (eq_by_cmp nat_cmp u e.0) i +ℤ factor_in-only es (sorted_tail e es sorted) u i)
  where
    alone_only : (b : Bool) → cond b e.1 (pos 0) ≡ e.1 *ℤ cond b (pos 1) (pos 0)
    alone_only true = omega (arith, ints)
    alone_only false = sym (*ℤ-zero e.1)
