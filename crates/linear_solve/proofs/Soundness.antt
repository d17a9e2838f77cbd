-- Each row of the elimination is what its multipliers of the given rows add up to.
use Rattle.std.proofs.Common.{◌≡◌, ℕ, zero, suc, List, Some}
use Rattle.std.proofs.Common.{slice_get, unwrap_or, ℤ, pos, ◌+ℤ◌, ◌*ℤ◌, ◌<ℤ◌, int_div, sym, ap, ◌∙◌, subst, arith}
use Rattle.std.specs.Option.{option_map_or}
use Rattle.std.specs.Ordering.{nat_cmp}
use Rattle.std.specs.FinMap.{FinMap, empty, get, entries, from_sorted}
use Rattle.std.specs.FinMap.{entries_sorted, entries-insert, get-entries}
use Rattle.std.specs.Cmp.{nat_cmp_total}
use Rattle.std.proofs.Common.{negsuc, ◌-ℤ◌}
use Rattle.std.specs.FinMap.{put}
use Rattle.std.proofs.lemmas.Int.{ints, by_lt_z}
use lib.IntN.{+ℤ_idr, *ℤ_comm, zero-*ℤ}
use Rattle.linear_certs.specs.declared.row.Row.{Row}
use Rattle.linear_certs.specs.Certificate.{Column, constants, factors, number_in}
use Rattle.linear_certs.proofs.Integers.{mul_add, add_mul, mul_assoc, mul_swap}
use Rattle.linear_solve.specs.declared.derived.Derived.{Derived}
use Rattle.linear_solve.specs.Numbers.{shared_divisor, quotients}
use Rattle.linear_solve.specs.Derived.{given, combined, sums_of}
use Rattle.linear_solve.proofs.NumberLemmas.{entries-empty, entries-quotients}
use Rattle.linear_solve.proofs.Sums.{weighted_sum, row_number, IsSum}
use Rattle.linear_solve.proofs.Weights.{weighted_sum-sums_of, weighted_sum-quotients, only, factor_in-only}
use Rattle.linear_solve.proofs.Weights.{IsExact, AreExact}
use Rattle.linear_solve.proofs.DivisorLemmas.{shared_exact, shared_positive}

-- a row's number in a column of factors, as a weighted sum
pub by_weight : (u : ℕ) (m : FinMap nat_cmp ℤ) → unwrap_or (get m u) (pos 0) ≡ weighted_sum (only u) (entries m)
by_weight u m = ap (λ o. unwrap_or o (pos 0)) (get-entries m u) ∙ factor_in-only (entries m) (entries_sorted m) u

-- the numbers of a combined row, times the divisor
pub combined_number : (column : Column) (by : ℤ) (left : Derived) (times : ℤ) (right : Derived)
    → let constant = by *ℤ left.row.constant +ℤ times *ℤ right.row.constant in
    let sums = entries (sums_of by (entries left.row.factors) times (entries right.row.factors)) in
    number_in column (combined by left times right).row *ℤ shared_divisor constant sums
    ≡ by *ℤ number_in column left.row +ℤ times *ℤ number_in column right.row
combined_number constants by left times right =
    let constant = by *ℤ left.row.constant +ℤ times *ℤ right.row.constant in
    let sums = entries (sums_of by (entries left.row.factors) times (entries right.row.factors)) in
    (shared_exact constant sums).0
combined_number (factors u) by left times right =
    let constant = by *ℤ left.row.constant +ℤ times *ℤ right.row.constant in
    let map = sums_of by (entries left.row.factors) times (entries right.row.factors) in
    let shared = shared_divisor constant (entries map) in
    ap (λ z. z *ℤ shared) (by_weight u (from_sorted (quotients shared (entries map)))
    ∙ ap (weighted_sum (only u)) (entries-quotients shared (entries map) (entries_sorted map)))
    ∙ weighted_sum-quotients (only u) shared (entries map) (shared_exact constant (entries map)).1
    ∙ weighted_sum-sums_of (only u) by (entries left.row.factors) times (entries right.row.factors)
    ∙ sym (λ i. by *ℤ by_weight u left.row.factors i +ℤ times *ℤ by_weight u right.row.factors i)

left_part : (p q b x : ℤ) → (p *ℤ q) *ℤ (b *ℤ x) ≡ (b *ℤ q) *ℤ (p *ℤ x)
left_part p q b x =
    mul_assoc p q (b *ℤ x) ∙ ap (λ z. p *ℤ z) (mul_swap q b x) ∙ mul_swap p b (q *ℤ x)
    ∙ ap (λ z. b *ℤ z) (mul_swap p q x) ∙ sym (mul_assoc b q (p *ℤ x))

right_part : (p q t y : ℤ) → (p *ℤ q) *ℤ (t *ℤ y) ≡ (t *ℤ p) *ℤ (q *ℤ y)
right_part p q t y =
    mul_assoc p q (t *ℤ y) ∙ ap (λ z. p *ℤ z) (mul_swap q t y) ∙ mul_swap p t (q *ℤ y)
    ∙ sym (mul_assoc t p (q *ℤ y))

pub pos_product : (a b : ℤ) → pos 0 <ℤ a → pos 0 <ℤ b → pos 0 <ℤ (a *ℤ b)
pos_product (pos zero) b left right = absurd (omega (arith, ints))
pos_product (negsuc a) b left right = absurd (omega (arith, ints))
pos_product (pos (suc a)) (pos zero) left right = absurd (omega (arith, ints))
pos_product (pos (suc a)) (negsuc b) left right = absurd (omega (arith, ints))
pos_product (pos (suc a)) (pos (suc b)) left right = omega (arith, ints)

pub less_times : (a b c : ℤ) → pos 0 <ℤ c → a <ℤ b → (a *ℤ c) <ℤ (b *ℤ c)
less_times a b c positive less =
    let gap = b -ℤ a in
    let above : pos 0 <ℤ gap = omega (arith, ints) in
    let product = pos_product gap c above positive in
    let whole : gap +ℤ a ≡ b = omega (arith, ints) in
    let split = add_mul gap a c in
    let same = ap (λ z. z *ℤ c) whole in
    omega (arith, ints)

pub cancel : (x y c : ℤ) → pos 0 <ℤ c → x *ℤ c ≡ y *ℤ c → x ≡ y
cancel x y c positive is =
    by_lt_z x y
    (λ less. absurd (let apart = less_times x y c positive less in omega (arith, ints)))
    (λ at_least. by_lt_z y x
    (λ above. absurd (let apart = less_times y x c positive above in omega (arith, ints)))
    (λ at_most. omega (arith, ints)))

pub pos_factor : (a c : ℤ) → pos 0 <ℤ c → pos 0 <ℤ (a *ℤ c) → pos 0 <ℤ a
pos_factor a c positive product =
    by_lt_z (pos 0) a (λ above. above)
    (λ not_above. by_lt_z a (pos 0)
    (λ below. absurd (let apart = less_times a (pos 0) c positive below in let none = zero-*ℤ c in omega (arith, ints)))
    (λ least. absurd (let none : a ≡ pos 0 = omega (arith, ints) in
    let same = ap (λ z. z *ℤ c) none in let zero_product = zero-*ℤ c in omega (arith, ints))))

-- the chain of equations by which a combination stays a sum, with the common divisor c to be cancelled
chain : (p q b t s c x y num d w left right total : ℤ) → num *ℤ s ≡ b *ℤ x +ℤ t *ℤ y
    → d *ℤ c ≡ (p *ℤ q) *ℤ s → w *ℤ c ≡ total → total ≡ (b *ℤ q) *ℤ left +ℤ (t *ℤ p) *ℤ right
    → p *ℤ x ≡ left → q *ℤ y ≡ right → (d *ℤ num) *ℤ c ≡ w *ℤ c
chain p q b t s c x y num d w left right total is_num is_d is_w is_total is_left is_right =
    ap (λ z. z *ℤ c) (*ℤ_comm d num) ∙ mul_assoc num d c ∙ ap (λ z. num *ℤ z) is_d
    ∙ mul_swap num (p *ℤ q) s ∙ ap (λ z. (p *ℤ q) *ℤ z) is_num
    ∙ mul_add (p *ℤ q) (b *ℤ x) (t *ℤ y)
    ∙ (λ i. left_part p q b x i +ℤ right_part p q t y i)
    ∙ (λ i. (b *ℤ q) *ℤ is_left i +ℤ (t *ℤ p) *ℤ is_right i)
    ∙ sym is_total ∙ sym is_w

pub combined_sum : (rows : List Row) (by : ℤ) (left : Derived) (times : ℤ) (right : Derived) → IsSum rows left
    → IsSum rows right → IsSum rows (combined by left times right)
combined_sum rows by left times right is_left is_right =
    record {
      positive = pos_factor (int_div whole common) common common_positive
          (subst (λ z. pos 0 <ℤ z) (sym exact.0)
          (pos_product (left.divisor *ℤ right.divisor) shared
          (pos_product left.divisor right.divisor is_left.positive is_right.positive) (shared_positive constant sums)));
      sums = λ column. cancel _ _ common common_positive
          (chain left.divisor right.divisor by times shared common (number_in column left.row)
          (number_in column right.row) _ (int_div whole common) _ _ _ _
          (combined_number column by left times right) exact.0
          (ap (λ l. weighted_sum (row_number column rows) l *ℤ common)
          (entries-quotients common shares (entries_sorted share_map))
          ∙ weighted_sum-quotients (row_number column rows) common shares exact.1)
          (weighted_sum-sums_of (row_number column rows) (by *ℤ right.divisor) (entries left.multipliers)
          (times *ℤ left.divisor) (entries right.multipliers))
          (is_left.sums column) (is_right.sums column));
    }
  where
    constant : ℤ
    constant = by *ℤ left.row.constant +ℤ times *ℤ right.row.constant

    sums : List (ℕ × ℤ)
    sums = entries (sums_of by (entries left.row.factors) times (entries right.row.factors))

    shared : ℤ
    shared = shared_divisor constant sums

    share_map : FinMap nat_cmp ℤ
    share_map = sums_of (by *ℤ right.divisor) (entries left.multipliers) (times *ℤ left.divisor) (entries right.multipliers)

    shares : List (ℕ × ℤ)
    shares = entries share_map

    whole : ℤ
    whole = left.divisor *ℤ right.divisor *ℤ shared

    common : ℤ
    common = shared_divisor whole shares

    common_positive : pos 0 <ℤ common
    common_positive = shared_positive whole shares

    exact : IsExact common whole × AreExact common shares
    exact = shared_exact whole shares

pub given_sum : (rows : List Row) (i : ℕ) (row : Row) → slice_get rows i ≡ Some row → IsSum rows (given i row)
given_sum rows i row here =
    record {
      positive = omega (arith, ints);
      sums = λ column.
          one_times (number_in column row)
          ∙ sym (ap (weighted_sum (row_number column rows)) (entries-insert nat_cmp_total (empty {R = nat_cmp}) i (pos 1))
          ∙ ap (λ l. weighted_sum (row_number column rows) (put nat_cmp i (pos 1) l)) entries-empty
          ∙ +ℤ_idr _
          ∙ ap (λ o. pos 1 *ℤ option_map_or (λ row. number_in column row) o (pos 0)) here
          ∙ one_times (number_in column row));
    }
  where
    one_times : (z : ℤ) → pos 1 *ℤ z ≡ z
    one_times z = omega (arith, ints)
