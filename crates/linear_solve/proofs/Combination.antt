-- What the parts of a combination come to.
use Rattle.std.proofs.Common.{◌≡◌, zero, suc, Bool, false, IsTrue, ◌↔◌, ℤ, pos, negsuc, neg_ℤ, ◌+ℤ◌, ◌*ℤ◌, ◌<ℤ◌, int_div, int_lt}
use Rattle.std.proofs.Common.{if◌then◌else◌, refl, sym, ap, ◌∙◌, arith}
use Rattle.std.proofs.Common.{◌≤ℤ◌}
use Rattle.std.proofs.lemmas.Int.{ints, by_lt_z}
use Rattle.std.specs.Ordering.{nat_cmp}
use Rattle.std.specs.FinMap.{FinMap, entries, from_sorted}
use Rattle.linear_certs.specs.declared.row.Row.{Row}
use Rattle.linear_solve.specs.declared.derived.Derived.{Derived}
use Rattle.linear_solve.specs.Numbers.{shared_divisor, quotients}
use Rattle.linear_solve.specs.Derived.{row_of_sums, sums_of, combined, other_multiple}

pub combined_is : (by : ℤ) (left : Derived) (times : ℤ) (right : Derived) (constant : ℤ) (sums : FinMap nat_cmp ℤ)
    (shared : ℤ) (row : Row) (shares : FinMap nat_cmp ℤ) (product whole common : ℤ) (multipliers : FinMap nat_cmp ℤ)
    (divisor : ℤ)
    → constant ≡ by *ℤ left.row.constant +ℤ times *ℤ right.row.constant
    → sums ≡ sums_of by (entries left.row.factors) times (entries right.row.factors)
    → shared ≡ shared_divisor constant (entries sums)
    → row ≡ row_of_sums left.row.kind constant (entries sums) shared
    → shares ≡ sums_of (by *ℤ right.divisor) (entries left.multipliers) (times *ℤ left.divisor) (entries right.multipliers)
    → product ≡ left.divisor *ℤ right.divisor → whole ≡ product *ℤ shared
    → common ≡ shared_divisor whole (entries shares)
    → multipliers ≡ from_sorted (quotients common (entries shares)) → divisor ≡ int_div whole common
    → ◌≡◌ {A = Derived} (record { row = row; multipliers = multipliers; divisor = divisor }) (combined by left times right)
combined_is by left times right constant sums shared row shares product whole common multipliers divisor
    is_constant is_sums is_shared is_row is_shares is_product is_whole is_common is_multipliers is_divisor =
    let shared_path = is_shared ∙ (λ i. shared_divisor (is_constant i) (entries (is_sums i))) in
    let whole_path = is_whole ∙ (λ i. is_product i *ℤ shared_path i) in
    let common_path = is_common ∙ (λ i. shared_divisor (whole_path i) (entries (is_shares i))) in
    let row_path = is_row ∙ (λ i. row_of_sums left.row.kind (is_constant i) (entries (is_sums i)) (shared_path i)) in
    let multiplier_path = is_multipliers ∙ (λ i. from_sorted (quotients (common_path i) (entries (is_shares i)))) in
    let divisor_path = is_divisor ∙ (λ i. int_div (whole_path i) (common_path i)) in
    λ i. record { row = row_path i; multipliers = multiplier_path i; divisor = divisor_path i }

pub wide_row : (by : ℤ) (left : Derived) (times : ℤ) (right : Derived) (constant : ℤ) (sums : FinMap nat_cmp ℤ)
    (shared : ℤ)
    → constant ≡ by *ℤ left.row.constant +ℤ times *ℤ right.row.constant
    → sums ≡ sums_of by (entries left.row.factors) times (entries right.row.factors)
    → shared ≡ shared_divisor constant (entries sums)
    → row_of_sums left.row.kind constant (entries sums) shared ≡ (combined by left times right).row
wide_row by left times right constant sums shared is_constant is_sums is_shared =
    let shared_path = is_shared ∙ (λ i. shared_divisor (is_constant i) (entries (is_sums i))) in
    λ i. row_of_sums left.row.kind (is_constant i) (entries (is_sums i)) (shared_path i)

minus_one : (z : ℤ) → z *ℤ negsuc 0 ≡ neg_ℤ z
minus_one (pos zero) = refl
minus_one (pos (suc n)) = omega (arith, ints)
minus_one (negsuc n) = omega (arith, ints)

not_under : (a b : ℤ) → a ≤ℤ b → int_lt b a ≡ false
not_under a b h = grind (arith, ints)

not_below : (b : Bool) (z : ℤ) → IsTrue b ↔ (z <ℤ pos 0) → b ≡ false → int_lt z (pos 0) ≡ false
not_below b z is off =
    by_lt_z z (pos 0) (λ below. absurd (let yes = is.1 below in cc)) (λ least. not_under (pos 0) z least)

pub negated_multiple : (b : Bool) (factor own minus multiple : ℤ) → IsTrue b ↔ (factor <ℤ pos 0) → b ≡ false
    → minus ≡ negsuc 0 → multiple ≡ own *ℤ minus → multiple ≡ other_multiple factor own
negated_multiple b factor own minus multiple is off is_minus is_multiple =
    is_multiple ∙ (λ i. own *ℤ is_minus i) ∙ minus_one own
    ∙ ap (λ b. if b then own else neg_ℤ own) (sym (not_below b factor is off))
