-- A running sum while a multiple of a row is added to it, factor by factor.
use Rattle.std.proofs.Common.{◌≡◌, ◌≢◌, ℕ, ◌+◌, ◌<◌, ◌≤◌, ◌^◌, T, List, length, get_or, take, unsigned_abs, unwrap_or}
use Rattle.std.proofs.Common.{ℤ, pos, ◌+ℤ◌, ◌*ℤ◌, sym, ap, ◌∙◌, subst, ⊎_elim}
use Rattle.std.specs.Ordering.{nat_cmp}
use Rattle.std.specs.FinMap.{is_sorted, entries, get-entries}
use Rattle.std.specs.BTreeMap.{BTreeMap}
use Rattle.std.proofs.lemmas.List.{take_all}
use Rattle.std.proofs.lemmas.Bool.{cases_eq}
use lib.IntN.{+ℤ_idr, *ℤ-zero}
use Rattle.linear_certs.specs.declared.sum.Sum.{Sum}
use Rattle.linear_certs.specs.declared.row.Row.{Row}
use Rattle.linear_certs.specs.Certificate.{Column, constants, factors, number_in, IsWide}
use Rattle.linear_certs.specs.Sum.{running_factor, running_number, number_plus}
use Rattle.linear_certs.proofs.SortedFactors.{factor_in}
use Rattle.linear_certs.proofs.FactorPrefixes.{factor_before, factor_at, factor_here, factor_elsewhere}

-- the sum has the row's constant and its first few factors, each multiplied, and none of its numbers is wide
pub record HasFactors (old new : Sum) (multiplier : ℤ) (row : Row) (es : List (ℕ × ℤ)) (count : ℕ) : Type 0 where
  pub constant : new.constant ≡ number_plus old multiplier row constants
  pub narrow_constant : unsigned_abs new.constant ≤ 2 ^ 120
  pub factors : (u : ℕ)
      → running_factor new.factors u ≡ running_factor old.factors u +ℤ multiplier *ℤ factor_in u (take count es)
  pub narrow_factors : (u : ℕ) → unsigned_abs (running_factor new.factors u) ≤ 2 ^ 120

-- with the constant added, and no factor yet
pub start_factors : (old : Sum) (multiplier : ℤ) (row : Row) (es : List (ℕ × ℤ)) (constant : ℤ)
    → constant ≡ old.constant +ℤ multiplier *ℤ row.constant → unsigned_abs constant ≤ 2 ^ 120
    → ((u : ℕ) → unsigned_abs (running_factor old.factors u) ≤ 2 ^ 120)
    → HasFactors old (record old { constant = constant }) multiplier row es 0
start_factors old multiplier row es constant is narrow narrow_factors =
    record {
      constant = is;
      narrow_constant = narrow;
      factors = λ u. sym (ap (λ p. running_factor old.factors u +ℤ p) (*ℤ-zero multiplier)
          ∙ +ℤ_idr (running_factor old.factors u));
      narrow_factors = narrow_factors;
    }

-- the next unknown has its old number still
pub old_factor : (old now : Sum) (multiplier : ℤ) (row : Row) (es : List (ℕ × ℤ)) (i : ℕ) (d : ℕ × ℤ)
    → T (is_sorted nat_cmp es) → i < length es
    → HasFactors old now multiplier row es i
    → running_factor now.factors (get_or es i d).0 ≡ running_factor old.factors (get_or es i d).0
old_factor old now multiplier row es i d sorted within has =
    let k = (get_or es i d).0 in
    has.factors k ∙ ap (λ f. running_factor old.factors k +ℤ multiplier *ℤ f) (factor_before es sorted i d within)
    ∙ ap (λ p. running_factor old.factors k +ℤ p) (*ℤ-zero multiplier) ∙ +ℤ_idr (running_factor old.factors k)

-- one factor more
pub more_factors : (old now : Sum) (multiplier : ℤ) (row : Row) (es : List (ℕ × ℤ)) (i : ℕ) (d : ℕ × ℤ)
    (sums : BTreeMap ℕ ℤ)
    → T (is_sorted nat_cmp es) → i < length es → HasFactors old now multiplier row es i
    → running_factor sums (get_or es i d).0
    ≡ running_factor now.factors (get_or es i d).0 +ℤ multiplier *ℤ (get_or es i d).1
    → unsigned_abs (running_factor sums (get_or es i d).0) ≤ 2 ^ 120
    → ((other : ℕ) → other ≢ (get_or es i d).0 → running_factor sums other ≡ running_factor now.factors other)
    → HasFactors old (record now { factors = sums }) multiplier row es (i + 1)
more_factors old now multiplier row es i d sums sorted within has here narrow others =
    let e = get_or es i d in
    let k = e.0 in
    let next = take (i + 1) es in
    record {
      constant = has.constant;
      narrow_constant = has.narrow_constant;
      factors = λ u. ⊎_elim
          (λ (same : u ≡ k).
          subst (λ q. running_factor sums q ≡ running_factor old.factors q +ℤ multiplier *ℤ factor_in q next)
          (sym same)
          (here ∙ ap (λ n. n +ℤ multiplier *ℤ e.1) (old_factor old now multiplier row es i d sorted within has)
          ∙ ap (λ f. running_factor old.factors k +ℤ multiplier *ℤ f)
          (sym (factor_here es sorted i d within))))
          (λ (apart : u ≢ k).
          others u apart ∙ has.factors u
          ∙ ap (λ f. running_factor old.factors u +ℤ multiplier *ℤ f)
          (sym (factor_elsewhere es sorted i d within u apart)))
          (cases_eq u k);
      narrow_factors = λ u. ⊎_elim
          (λ (same : u ≡ k). subst (λ q. unsigned_abs (running_factor sums q) ≤ 2 ^ 120) (sym same) narrow)
          (λ (apart : u ≢ k). subst (λ n. unsigned_abs n ≤ 2 ^ 120) (sym (others u apart)) (has.narrow_factors u))
          (cases_eq u k);
    }

-- all factors
pub all_factors : (old now : Sum) (multiplier : ℤ) (row : Row) (es : List (ℕ × ℤ)) (count : ℕ)
    → es ≡ entries row.factors → length es ≤ count
    → HasFactors old now multiplier row es count → (column : Column)
    → running_number column now ≡ number_plus old multiplier row column
all_factors old now multiplier row es count is whole has constants = has.constant
all_factors old now multiplier row es count is whole has (factors u) =
    has.factors u
    ∙ ap (λ f. running_factor old.factors u +ℤ multiplier *ℤ f)
    (ap (factor_in u) (take_all count es whole ∙ is)
    ∙ ap (λ o. unwrap_or o (pos 0)) (sym (get-entries row.factors u)))

-- where the next number is too wide, the whole row's is
pub wide_factor : (old now : Sum) (multiplier : ℤ) (row : Row) (es : List (ℕ × ℤ)) (i : ℕ) (d : ℕ × ℤ)
    → T (is_sorted nat_cmp es) → es ≡ entries row.factors → i < length es
    → HasFactors old now multiplier row es i
    → IsWide (running_factor now.factors (get_or es i d).0 +ℤ multiplier *ℤ (get_or es i d).1)
    → (column : Column) × IsWide (number_plus old multiplier row column)
wide_factor old now multiplier row es i d sorted is within has wide =
    let e = get_or es i d in
    let k = e.0 in
    let same : e.1 ≡ number_in (factors k) row =
    sym (factor_at es sorted i d within) ∙ ap (factor_in k) is
    ∙ ap (λ o. unwrap_or o (pos 0)) (sym (get-entries row.factors k)) in (
      factors k,
      subst IsWide
          (ap (λ n. n +ℤ multiplier *ℤ e.1) (old_factor old now multiplier row es i d sorted within has)
          ∙ ap (λ f. running_factor old.factors k +ℤ multiplier *ℤ f) same)
          wide,
    )
