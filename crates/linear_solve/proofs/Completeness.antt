-- One unknown more: fractions that meet all rows of the level below meet those of a level, with the unknown's value.
use Rattle.std.proofs.Common.{◌≡◌, ℕ, ◌+◌, ◌==◌, Bool, true, false, T, not, cond, ◌&&◌, ◌||◌, if◌then◌else◌, ◌⊎◌, inl, inr, ⊎_elim}
use Rattle.std.proofs.Common.{List, [], ◌∷◌, ◌++◌, map, filter, find, fold, Option, Some, None, Result, Ok, unwrap_or}
use Rattle.std.proofs.Common.{ℤ, pos, negsuc, neg_ℤ, ◌+ℤ◌, ◌*ℤ◌, ◌<ℤ◌, ◌≤ℤ◌, int_lt, int_le, nat_le, refl, sym, ap, ◌∙◌, subst}
use Rattle.std.proofs.Common.{arith}
use Rattle.std.specs.List.{flat_map, list_any}
use Rattle.std.specs.Ordering.{int_eq}
use Rattle.std.specs.Cmp.{signed_Decides}
use Rattle.std.specs.FinMap.{entries}
use Rattle.std.proofs.lemmas.Bool.Decides.{Decides-eqb}
use Rattle.std.proofs.lemmas.Int.{ints, by_lt_z}
use lib.IntN.{+ℤ_idr, +ℤ_comm, *ℤ_comm, zero-*ℤ, *ℤ-zero}
use Rattle.linear_certs.specs.declared.row.RowKind.{RowKind}
use Rattle.linear_certs.specs.declared.row.RowKind.TheVariants.{Inequality, Equation}
use Rattle.linear_certs.specs.Certificate.{Says}
use Rattle.linear_solve.specs.declared.derived.Derived.{Derived}
use Rattle.linear_solve.specs.declared.limit.Limit.{Limit}
use Rattle.linear_solve.specs.declared.fraction.Fraction.{Fraction}
use Rattle.linear_solve.specs.declared.model.UnknownValue.{UnknownValue}
use Rattle.linear_solve.specs.declared.model.Side.{Side}
use Rattle.linear_solve.specs.declared.model.Side.TheVariants.{Lower, Upper}
use Rattle.linear_solve.specs.Derived.{factor_of, has_unknown, own_multiple, other_multiple, sums_of, cleared}
use Rattle.linear_solve.specs.Limits.{is_wide_row, row_limit}
use Rattle.linear_solve.specs.Levels.{Taken, passed, failing, kept, taken, taken_counted, says_truly, is_equation, same_kind}
use Rattle.linear_solve.specs.Levels.{same_factors, same_row, without_first_equation, cleared_by, paired, formed, formed_by}
use Rattle.linear_solve.specs.Levels.{positive_rows, negative_rows, rows_with, rows_without}
use Rattle.linear_solve.specs.Fractions.{whole}
use Rattle.linear_solve.specs.Models.{and_then, bound_of, sets_bound, is_better, better_of, best_of, best_bound}
use Rattle.linear_solve.specs.Models.{else_least, value_by}
use Rattle.linear_solve.proofs.Sums.{weighted_sum}
use Rattle.linear_solve.proofs.TakenLemmas.{fold-failing, fold-passed}
use Rattle.linear_solve.proofs.DivisorLemmas.{shared_positive}
use Rattle.linear_solve.proofs.Soundness.{pos_product}
use Rattle.linear_solve.proofs.Signs.{product_least, zero_factor}
use Rattle.linear_certs.proofs.Integers.{mul_assoc}
use Rattle.linear_solve.proofs.Refuted.{Each, each_kept, both, found_each, inequality_kind}
use Rattle.linear_solve.proofs.Refuted.{none_each, each_filter, not_true, positive_own}
use Rattle.linear_solve.proofs.Products.{chosen, says_scaled, greater_holds, less_holds, self_cleared, above_own, below_own}
use Rattle.linear_solve.proofs.Products.{above_other, below_other, above_neg, times_one}
use Rattle.linear_solve.proofs.Points.{sum_here, divisor_in, combined_here, Stands, AllStand, bound_stands, then_inverted}

-- the row holds at these numerators over a denominator
abbrev pub Met : (ℕ → ℤ) → ℤ → Derived → Type 0
Met num d r = Says r.row.kind (sum_here num d r.row)

-- ---- lists

pub each_append : (P : Derived → Type 0) (xs ys : List Derived) → Each P (xs ++ ys) → Each P xs × Each P ys
each_append P [] ys all = (tt, all)
each_append P (x ∷ xs) ys all = let rest = each_append P xs ys all.1 in ((all.0, rest.0), rest.1)

parted_if : (P : Derived → Type 0) (b : Bool) (d : Derived) (ds tested others : List Derived)
    → (Each P tested → Each P others → Each P ds)
    → Each P (cond b (d ∷ tested) tested) → Each P (cond (not b) (d ∷ others) others) → Each P (d ∷ ds)
parted_if P true d ds tested others rest first second = (first.0, rest first.1 second)
parted_if P false d ds tested others rest first second = (second.0, rest first second.1)

each_parted : (P : Derived → Type 0) (test : Derived → Bool) (ds : List Derived) → Each P (filter test ds)
    → Each P (filter (λ d. not (test d)) ds) → Each P ds
each_parted P test [] first second = tt
each_parted P test (d ∷ ds) first second =
    parted_if P (test d) d ds (filter test ds) (filter (λ d. not (test d)) ds) (each_parted P test ds) first second

pub each_weaker : (P Q : Derived → Type 0) (ds : List Derived) → ((d : Derived) → P d → Q d) → Each P ds → Each Q ds
each_weaker P Q [] more all = tt
each_weaker P Q (d ∷ ds) more all = (more d all.0, each_weaker P Q ds more all.1)

each_map : (P : Derived → Type 0) (form : Derived → Derived) (ds : List Derived) → Each P (map form ds)
    → Each (λ d. P (form d)) ds
each_map P form [] all = tt
each_map P form (d ∷ ds) all = (all.0, each_map P form ds all.1)

each_flat : (P : Derived → Type 0) (group : Derived → List Derived) (ds : List Derived) → Each P (flat_map group ds)
    → Each (λ d. Each P (group d)) ds
each_flat P group [] all = tt
each_flat P group (d ∷ ds) all =
    let parts = each_append P (group d) (flat_map group ds) all in (parts.0, each_flat P group ds parts.1)

each_test : (test : Derived → Bool) (ds : List Derived) → Each (λ d. test d ≡ true) (filter test ds)
each_test test [] = tt
each_test test (d ∷ ds) = each_kept (λ d. test d ≡ true) (test d) d (filter test ds) (λ passes. passes) (each_test test ds)

-- the first equation, and the others
each_by_equation : (P : Derived → Type 0) (ds : List Derived) (e : Derived) → find is_equation ds ≡ Some e → P e
    → Each P (without_first_equation ds) → Each P ds
each_by_equation P [] e is here others = tt
each_by_equation P (d ∷ ds) e is here others =
    elim (is_equation d) as (λ b. cond b (Some d) (find is_equation ds) ≡ Some e
    → Each P (cond b ds (d ∷ without_first_equation ds)) → Each P (d ∷ ds)) [
      | true ↦ λ found others. let same : e ≡ d = cc in (subst P same here, others)
      | false ↦ λ found others. (others.0, each_by_equation P ds e found here others.1)
    ] is others

-- ---- rows that are taken hold where those that are kept do

pub and_both : (a b : Bool) → a && b ≡ true → (a ≡ true) × (b ≡ true)
and_both true b e = (refl, e)
and_both false b e = absurd (cc)

pub or_either : (a b : Bool) → a || b ≡ true → (a ≡ true) ⊎ (b ≡ true)
or_either true b e = inl refl
or_either false b e = inr e

pub kinds_same : (k l : RowKind) → same_kind k l ≡ true → k ≡ l
kinds_same Inequality Inequality e = refl
kinds_same Inequality Equation e = absurd (cc)
kinds_same Equation Inequality e = absurd (cc)
kinds_same Equation Equation e = refl

pub factors_same : (xs ys : List (ℕ × ℤ)) → same_factors xs ys ≡ true → xs ≡ ys
factors_same [] [] e = refl
factors_same [] (y ∷ ys) e = absurd (cc)
factors_same (x ∷ xs) [] e = absurd (cc)
factors_same (x ∷ xs) (y ∷ ys) e =
    let parts = and_both ((x.0 == y.0) && int_eq x.1 y.1) (same_factors xs ys) e in
    let first = and_both (x.0 == y.0) (int_eq x.1 y.1) parts.0 in
    let index = (Decides-eqb x.0 y.0).0 first.0 in
    let number = (signed_Decides x.1 y.1).0 first.1 in
    (λ i. (index i, number i) ∷ factors_same xs ys parts.1 i)

rows_same : (num : ℕ → ℤ) (d : ℤ) (x y : Derived) → same_row x.row y.row ≡ true → Met num d x → Met num d y
rows_same num d x y e met =
    let parts = and_both (same_kind x.row.kind y.row.kind && int_eq x.row.constant y.row.constant)
    (same_factors (entries x.row.factors) (entries y.row.factors)) e in
    let more = and_both (same_kind x.row.kind y.row.kind) (int_eq x.row.constant y.row.constant) parts.0 in
    let kind = kinds_same x.row.kind y.row.kind more.0 in
    let constant = (signed_Decides x.row.constant y.row.constant).0 more.1 in
    let same = factors_same (entries x.row.factors) (entries y.row.factors) parts.1 in
    subst (λ k. Says k (sum_here num d y.row)) kind
    (subst (λ s. Says x.row.kind s) (λ i. d *ℤ constant i +ℤ weighted_sum num (same i)) met)

any_met : (num : ℕ → ℤ) (d : ℤ) (r : Derived) (ds : List Derived)
    → list_any (λ other. same_row other.row r.row) ds ≡ true → Each (Met num d) ds → Met num d r
any_met num d r [] e all = absurd (cc)
any_met num d r (other ∷ ds) e all =
    ⊎_elim (λ same. rows_same num d other r same all.0) (λ later. any_met num d r ds later all.1)
    (or_either (same_row other.row r.row) (list_any (λ other. same_row other.row r.row) ds) e)

constant_holds : (kind : RowKind) (c d : ℤ) → pos 0 <ℤ d → says_truly kind c ≡ true → Says kind (d *ℤ c)
constant_holds Inequality c d positive truly =
    product_least d c positive (by_lt_z c (pos 0)
    (λ below. absurd (let clash : int_le (pos 0) c ≡ false = is_false c below in cc)) (λ least. least))
  where
    is_false : (c : ℤ) → c <ℤ pos 0 → int_le (pos 0) c ≡ false
    is_false (pos n) below = absurd (omega (arith, ints))
    is_false (negsuc n) below = refl
constant_holds Equation c d positive truly =
    ap (λ z. d *ℤ z) ((signed_Decides c (pos 0)).0 truly) ∙ *ℤ-zero d

-- what a test leads to
pub taken_if : {G : Type 0} (b : Bool) (s t : Taken) (ds : List Derived) (count : ℕ) → (if b then s else t) ≡ kept ds count
    → (b ≡ true → s ≡ kept ds count → G) → (b ≡ false → t ≡ kept ds count → G) → G
taken_if true s t ds count is first second = first refl is
taken_if false s t ds count is first second = second refl is

counted_met : (num : ℕ → ℤ) (d : ℤ) (ds : List Derived) (count : ℕ) (r : Derived) (es : List (ℕ × ℤ)) (next : List Derived)
    (counted : ℕ) → pos 0 <ℤ d → entries r.row.factors ≡ es → taken_counted ds count r es ≡ kept next counted
    → Each (Met num d) next → Each (Met num d) ds × Met num d r
counted_met num d ds count r [] next counted positive none is all =
    taken_if (says_truly r.row.kind r.row.constant) (kept ds count) (failing r) next counted is
    (λ truly e.
    let same : next ≡ ds = cc in (
      subst (Each (Met num d)) same all,
      subst (λ s. Says r.row.kind s)
          (sym (ap (λ l. d *ℤ r.row.constant +ℤ weighted_sum num l) none ∙ +ℤ_idr (d *ℤ r.row.constant)))
          (constant_holds r.row.kind r.row.constant d positive truly),
    ))
    (λ untrue e. absurd (cc))
counted_met num d ds count r (f ∷ es) next counted positive some is all =
    taken_if (list_any (λ other. same_row other.row r.row) ds) (kept ds count) (kept (ds ++ r ∷ []) count) next counted is
    (λ repeated e.
    let same : next ≡ ds = cc in
    let held = subst (Each (Met num d)) same all in (held, any_met num d r ds repeated held))
    (λ fresh e.
    let same : next ≡ ds ++ r ∷ [] = cc in
    let parts = each_append (Met num d) ds (r ∷ []) (subst (Each (Met num d)) same all) in (parts.0, parts.1.0))

taken_met : (num : ℕ → ℤ) (d : ℤ) (ds : List Derived) (count : ℕ) (r : Derived) (next : List Derived) (counted : ℕ)
    → pos 0 <ℤ d → taken (kept ds count) r ≡ kept next counted → Each (Met num d) next
    → Each (Met num d) ds × Met num d r
taken_met num d ds count r next counted positive is all =
    taken_if (is_wide_row r.row) _ _ next counted is (λ _ e. absurd (cc))
    (λ _ e. taken_if (nat_le row_limit count) _ _ next counted e (λ _ e. absurd (cc))
    (λ _ e. counted_met num d ds (count + 1) r (entries r.row.factors) next counted positive refl e all))

pub fold_met : (num : ℕ → ℤ) (d : ℤ) (ds : List Derived) (count : ℕ) (rows next : List Derived) (counted : ℕ)
    → pos 0 <ℤ d → fold taken (kept ds count) rows ≡ kept next counted → Each (Met num d) next
    → Each (Met num d) ds × Each (Met num d) rows
fold_met num d ds count [] next counted positive is all =
    let same : next ≡ ds = cc in (subst (Each (Met num d)) same all, tt)
fold_met num d ds count (r ∷ rows) next counted positive is all =
    elim (taken (kept ds count) r) as (λ t. taken (kept ds count) r ≡ t → fold taken t rows ≡ kept next counted
    → Each (Met num d) ds × Each (Met num d) (r ∷ rows)) [
      | passed l ↦ λ here rest. absurd (let stays = fold-passed l rows in cc)
      | failing f ↦ λ here rest. absurd (let stays = fold-failing f rows in cc)
      | kept more now ↦ λ here rest.
          let later = fold_met num d more now rows next counted positive rest all in
          let first = taken_met num d ds count r more now positive here later.0 in
          (first.0, (first.1, later.1))
    ] refl is

-- ---- the value by an equation

-- what a row says at an unknown's value v, of its sum without it
abbrev pub MetAt : (ℕ → ℤ) → ℤ → ℕ → Fraction → Derived → Type 0
MetAt num d u v r =
    Says r.row.kind (sum_here num d r.row *ℤ v.denominator +ℤ factor_of u r *ℤ (v.numerator *ℤ d))

-- v is where the row's sum is 0
abbrev pub IsRoot : (ℕ → ℤ) → ℤ → ℕ → Derived → Fraction → Type 0
IsRoot num d u r v =
    Stands v (other_multiple (factor_of u r) (sum_here num d r.row)) (own_multiple (factor_of u r) *ℤ d)

own_above : (u : ℕ) (r : Derived) → has_unknown u r ≡ true → pos 0 <ℤ own_multiple (factor_of u r)
own_above u r has = positive_own (factor_of u r) (not_true _ has)

-- a row that was cleared by the one whose root is chosen
cleared_met : (num : ℕ → ℤ) (d : ℤ) (u : ℕ) (r e : Derived) (v : Fraction) → has_unknown u e ≡ true → IsRoot num d u e v
    → Met num d (cleared u r e) → MetAt num d u v r
cleared_met num d u r e v has root met =
    let f = factor_of u e in
    let by = own_multiple f in
    let times = other_multiple f (factor_of u r) in
    let shared = divisor_in by r times e in
    let shared_above = shared_positive (by *ℤ r.row.constant +ℤ times *ℤ e.row.constant)
    (entries (sums_of by (entries r.row.factors) times (entries e.row.factors))) in
    let sum = sum_here num d (cleared u r e).row in
    let sums = combined_here num d by r times e in
    says_scaled r.row.kind by (v.denominator *ℤ shared)
    (sum_here num d r.row *ℤ v.denominator +ℤ factor_of u r *ℤ (v.numerator *ℤ d)) sum (own_above u e has)
    (pos_product v.denominator shared root.positive shared_above)
    (chosen f (factor_of u r) (sum_here num d e.row) (sum_here num d r.row) v.numerator v.denominator d root.same
    ∙ ap (λ z. v.denominator *ℤ z) (sym sums ∙ *ℤ_comm sum shared) ∙ sym (mul_assoc v.denominator shared sum))
    met

-- the row itself
root_sum : (num : ℕ → ℤ) (d : ℤ) (u : ℕ) (e : Derived) (v : Fraction) → pos 0 <ℤ own_multiple (factor_of u e)
    → IsRoot num d u e v → sum_here num d e.row *ℤ v.denominator +ℤ factor_of u e *ℤ (v.numerator *ℤ d) ≡ pos 0
root_sum num d u e v own root =
    let f = factor_of u e in
    zero_factor (sum_here num d e.row *ℤ v.denominator +ℤ f *ℤ (v.numerator *ℤ d)) (own_multiple f) own
    (*ℤ_comm (sum_here num d e.row *ℤ v.denominator +ℤ f *ℤ (v.numerator *ℤ d)) (own_multiple f)
    ∙ chosen f f (sum_here num d e.row) (sum_here num d e.row) v.numerator v.denominator d root.same
    ∙ ap (λ z. v.denominator *ℤ z) (self_cleared f (sum_here num d e.row)) ∙ *ℤ-zero v.denominator)

zero_least : (z : ℤ) → z ≡ pos 0 → pos 0 ≤ℤ z
zero_least z is = subst (λ s. pos 0 ≤ℤ s) (sym is) (omega (arith, ints))

zero_says : (kind : RowKind) (z : ℤ) → z ≡ pos 0 → Says kind z
zero_says Inequality z is = subst (λ s. pos 0 ≤ℤ s) (sym is) (omega (arith, ints))
zero_says Equation z is = is

root_met : (num : ℕ → ℤ) (d : ℤ) (u : ℕ) (e : Derived) (v : Fraction) → has_unknown u e ≡ true → IsRoot num d u e v
    → MetAt num d u v e
root_met num d u e v has root = zero_says e.row.kind _ (root_sum num d u e v (own_above u e has) root)

equation_met : (num : ℕ → ℤ) (d : ℤ) (u : ℕ) (e : Derived) (v : Fraction) (ds : List Derived) → has_unknown u e ≡ true
    → IsRoot num d u e v → Each (Met num d) (cleared_by u e ds) → Each (MetAt num d u v) ds
equation_met num d u e v ds has root met =
    each_weaker (λ r. Met num d (cleared u r e)) (MetAt num d u v) ds
    (λ r here. cleared_met num d u r e v has root here) (each_map (Met num d) (λ r. cleared u r e) ds met)

-- ---- the value by bounds

-- an inequality with the sign of a side
pub record Fits (side : Side) (u : ℕ) (r : Derived) : Type 0 where
  pub kind : r.row.kind ≡ Inequality
  pub sets : sets_bound side u r ≡ true

-- the inequality holds at the value
abbrev pub AtLeast : (ℕ → ℤ) → ℤ → ℕ → Fraction → Derived → Type 0
AtLeast num d u v r = pos 0 ≤ℤ (sum_here num d r.row *ℤ v.denominator +ℤ factor_of u r *ℤ (v.numerator *ℤ d))

not_below : (x y : ℤ) → int_lt x y ≡ false → y ≤ℤ x
not_below x y is = by_lt_z x y (λ less. absurd (subst T is less.lt)) (λ least. least)

is_less : (x y : ℤ) → int_lt x y ≡ true → x ≤ℤ y
is_less x y is = let less : x <ℤ y = record { lt = subst T (sym is) tt } in omega (arith, ints)

above_zero : (f : ℤ) → int_lt (pos 0) f ≡ true → pos 0 <ℤ f
above_zero f is = record { lt = subst T (sym is) tt }

below_zero : (f : ℤ) → int_lt f (pos 0) ≡ true → f <ℤ pos 0
below_zero f is = record { lt = subst T (sym is) tt }

fits_has : (side : Side) (u : ℕ) (r : Derived) → sets_bound side u r ≡ true → pos 0 <ℤ own_multiple (factor_of u r)
fits_has Lower u r sets =
    let above = above_zero (factor_of u r) sets in subst (λ z. pos 0 <ℤ z) (sym (above_own (factor_of u r) above)) above
fits_has Upper u r sets =
    let below = below_zero (factor_of u r) sets in
    subst (λ z. pos 0 <ℤ z) (sym (below_own (factor_of u r) below)) (above_neg (factor_of u r) below)

-- the better of two values keeps what holds at the other
better_keeps : (side : Side) (num : ℕ → ℤ) (d : ℤ) (u : ℕ) (best bound : Fraction) (r : Derived) → pos 0 <ℤ d
    → pos 0 <ℤ best.denominator → pos 0 <ℤ bound.denominator → sets_bound side u r ≡ true
    → is_better side bound best ≡ true → AtLeast num d u best r → AtLeast num d u bound r
better_keeps Lower num d u best bound r positive best_above bound_above sets better holds =
    greater_holds (factor_of u r) (sum_here num d r.row) best.numerator best.denominator bound.numerator bound.denominator
    d (above_zero (factor_of u r) sets) positive best_above bound_above (is_less _ _ better) holds
better_keeps Upper num d u best bound r positive best_above bound_above sets better holds =
    less_holds (factor_of u r) (sum_here num d r.row) best.numerator best.denominator bound.numerator bound.denominator
    d (below_zero (factor_of u r) sets) positive best_above bound_above (is_less _ _ better) holds

worse_keeps : (side : Side) (num : ℕ → ℤ) (d : ℤ) (u : ℕ) (best bound : Fraction) (r : Derived) → pos 0 <ℤ d
    → pos 0 <ℤ best.denominator → pos 0 <ℤ bound.denominator → sets_bound side u r ≡ true
    → is_better side bound best ≡ false → AtLeast num d u bound r → AtLeast num d u best r
worse_keeps Lower num d u best bound r positive best_above bound_above sets worse holds =
    greater_holds (factor_of u r) (sum_here num d r.row) bound.numerator bound.denominator best.numerator best.denominator
    d (above_zero (factor_of u r) sets) positive bound_above best_above (not_below _ _ worse) holds
worse_keeps Upper num d u best bound r positive best_above bound_above sets worse holds =
    less_holds (factor_of u r) (sum_here num d r.row) bound.numerator bound.denominator best.numerator best.denominator
    d (below_zero (factor_of u r) sets) positive bound_above best_above (not_below _ _ worse) holds

-- what is known of the best of bounds
pub record IsBest (side : Side) (num : ℕ → ℤ) (d : ℤ) (u : ℕ) (P : Derived → Type 0) (start : Option Fraction)
    (rows : List Derived) (v : Fraction) : Type 0 where
  pub positive : pos 0 <ℤ v.denominator
  pub keeps : (first : Fraction) → start ≡ Some first → (r : Derived) → sets_bound side u r ≡ true
      → AtLeast num d u first r → AtLeast num d u v r
  pub hold : Each (AtLeast num d u v) rows
  pub from : (start ≡ Some v) ⊎ ((r : Derived) × P r × (sets_bound side u r ≡ true) × IsRoot num d u r v)

-- the better of a bound and another
record IsNext (side : Side) (num : ℕ → ℤ) (d : ℤ) (u : ℕ) (start : Option Fraction) (r : Derived) (bound v : Fraction)
    : Type 0 where
  positive : pos 0 <ℤ v.denominator
  keeps : (first : Fraction) → start ≡ Some first → (other : Derived) → sets_bound side u other ≡ true
      → AtLeast num d u first other → AtLeast num d u v other
  here : AtLeast num d u v r
  from : (start ≡ Some v) ⊎ (v ≡ bound)

start_above : (start : Option Fraction) → ((first : Fraction) → start ≡ Some first → pos 0 <ℤ first.denominator)
    → (first : Fraction) → start ≡ Some first → pos 0 <ℤ first.denominator
start_above start above first is = above first is

next_better : (side : Side) (num : ℕ → ℤ) (d : ℤ) (u : ℕ) (start : Option Fraction) (r : Derived) (bound : Fraction)
    → pos 0 <ℤ d → sets_bound side u r ≡ true
    → ((first : Fraction) → start ≡ Some first → pos 0 <ℤ first.denominator)
    → pos 0 <ℤ bound.denominator → AtLeast num d u bound r → IsNext side num d u start r bound (better_of side start bound)
next_better side num d u None r bound positive sets above bound_above holds =
    record {
      positive = bound_above;
      keeps = λ first is. absurd (cc);
      here = holds;
      from = inr refl;
    }
next_better side num d u (Some best) r bound positive sets above bound_above holds =
    elim (is_better side bound best) as (λ b. is_better side bound best ≡ b
    → IsNext side num d u (Some best) r bound (if b then bound else best)) [
      | true ↦ λ better. record {
        positive = bound_above;
        keeps = λ first is other fits at.
            let same : first ≡ best = cc in
            better_keeps side num d u best bound other positive (above best refl) bound_above fits better
            (subst (λ f. AtLeast num d u f other) same at);
        here = holds;
        from = inr refl;
      }
      | false ↦ λ worse. record {
        positive = above best refl;
        keeps = λ first is other fits at.
            let same : first ≡ best = cc in subst (λ f. AtLeast num d u f other) same at;
        here = worse_keeps side num d u best bound r positive (above best refl) bound_above sets worse holds;
        from = inl refl;
      }
    ] refl

some_above : (v first : Fraction) → pos 0 <ℤ v.denominator → ◌≡◌ {A = Option Fraction} (Some v) (Some first)
    → pos 0 <ℤ first.denominator
some_above v first positive is = let same : v ≡ first = cc in subst (λ (f : Fraction). pos 0 <ℤ f.denominator) same positive

best_more : (side : Side) (num : ℕ → ℤ) (d : ℤ) (u : ℕ) (P : Derived → Type 0) (start : Option Fraction) (r : Derived)
    (rows : List Derived) (bound v w : Fraction) → P r → sets_bound side u r ≡ true → IsRoot num d u r bound
    → IsNext side num d u start r bound v → IsBest side num d u P (Some v) rows w → IsBest side num d u P start (r ∷ rows) w
best_more side num d u P start r rows bound v w p sets root next best =
    record {
      positive = best.positive;
      keeps = λ first is other fits at. best.keeps v refl other fits (next.keeps first is other fits at);
      hold = (best.keeps v refl r sets next.here, best.hold);
      from = ⊎_elim
          (λ is. let same : v ≡ w = cc in
          ⊎_elim (λ first. inl (first ∙ ap Some same))
          (λ made. inr (r, p, sets, subst (IsRoot num d u r) (sym made ∙ same) root)) next.from)
          (λ found. inr found) best.from;
    }

-- where there is a best bound, it is one; where there is none, there are no rows
best_known : (side : Side) (values : List UnknownValue) (num : ℕ → ℤ) (d : ℤ) (u : ℕ) (P : Derived → Type 0)
    (start : Option Fraction) (rows : List Derived) (result : Option Fraction) → pos 0 <ℤ d → AllStand values num d
    → ((first : Fraction) → start ≡ Some first → pos 0 <ℤ first.denominator)
    → Each (λ r. P r × Fits side u r) rows → best_of side values u start rows ≡ Ok result
    → ((result ≡ None) × (start ≡ None) × (rows ≡ [])) ⊎ ((v : Fraction) × (result ≡ Some v) × IsBest side num d u P start rows v)
best_known side values num d u P None [] result positive stand above all is =
    let same : result ≡ None = cc in inl (same, refl, refl)
best_known side values num d u P (Some best) [] result positive stand above all is =
    let same : result ≡ Some best = cc in
    inr (
      best,
      same,
      record {
        positive = above best refl;
        keeps = λ first is r fits at. let one : first ≡ best = cc in subst (λ f. AtLeast num d u f r) one at;
        hold = tt;
        from = inl refl;
      },
    )
best_known side values num d u P start (r ∷ rows) result positive stand above all is =
    let split = then_inverted (bound_of values u r) (λ bound. best_of side values u (Some (better_of side start bound)) rows)
    result is in
    let bound = split.0 in
    let own = fits_has side u r all.0.1.sets in
    let root = bound_stands values num d stand u r bound own split.1 in
    let zero = root_sum num d u r bound own root in
    let next = next_better side num d u start r bound positive all.0.1.sets above root.positive (zero_least _ zero) in
    let v = better_of side start bound in
    ⊎_elim
    (λ none. absurd (let clash = none.1 in cc))
    (λ known. inr (known.0, known.1, best_more side num d u P start r rows bound v known.0 all.0.0 all.0.1.sets root next known.2))
    (best_known side values num d u P (Some v) rows result positive stand (λ first is. some_above v first next.positive is)
    all.1 split.2)

-- a row with a negative factor, where the value is the bound of one with a positive factor
pair_met : (num : ℕ → ℤ) (d : ℤ) (u : ℕ) (r n : Derived) (v : Fraction) → sets_bound Lower u r ≡ true
    → r.row.kind ≡ Inequality → sets_bound Upper u n ≡ true → IsRoot num d u r v → Met num d (cleared u r n)
    → AtLeast num d u v n
pair_met num d u r n v r_sets kind n_sets root met =
    let f = factor_of u r in
    let g = factor_of u n in
    let above = above_zero f r_sets in
    let below = below_zero g n_sets in
    let by = own_multiple g in
    let times = other_multiple g f in
    let shared = divisor_in by r times n in
    let shared_above = shared_positive (by *ℤ r.row.constant +ℤ times *ℤ n.row.constant)
    (entries (sums_of by (entries r.row.factors) times (entries n.row.factors))) in
    let sum = sum_here num d (cleared u r n).row in
    let r_sum = sum_here num d r.row in
    let n_sum = sum_here num d n.row in
    let same : own_multiple f *ℤ n_sum +ℤ other_multiple f g *ℤ r_sum ≡ by *ℤ r_sum +ℤ times *ℤ n_sum =
    (λ i. above_own f above i *ℤ n_sum +ℤ above_other f g above i *ℤ r_sum)
    ∙ +ℤ_comm (f *ℤ n_sum) (neg_ℤ g *ℤ r_sum)
    ∙ sym (λ i. below_own g below i *ℤ r_sum +ℤ below_other g f below i *ℤ n_sum) in
    says_scaled Inequality (own_multiple f) (v.denominator *ℤ shared)
    (n_sum *ℤ v.denominator +ℤ g *ℤ (v.numerator *ℤ d)) sum (fits_has Lower u r r_sets)
    (pos_product v.denominator shared root.positive shared_above)
    (chosen f g r_sum n_sum v.numerator v.denominator d root.same
    ∙ ap (λ z. v.denominator *ℤ z) (same ∙ sym (combined_here num d by r times n) ∙ *ℤ_comm sum shared)
    ∙ sym (mul_assoc v.denominator shared sum))
    (subst (λ k. Says k sum) kind met)

sign_if : (P : Derived → Type 0) (b c : Bool) (r : Derived) (ds above below : List Derived)
    → (b ≡ false → c ≡ false → ⊥) → (Each P above → Each P below → Each P ds)
    → Each P (cond b (r ∷ above) above) → Each P (cond c (r ∷ below) below) → Each P (r ∷ ds)
sign_if P true true r ds above below signed rest first second = (first.0, rest first.1 second.1)
sign_if P true false r ds above below signed rest first second = (first.0, rest first.1 second)
sign_if P false true r ds above below signed rest first second = (second.0, rest first second.1)
sign_if P false false r ds above below signed rest first second = absurd (signed refl refl)

has_sign : (u : ℕ) (r : Derived) → has_unknown u r ≡ true → int_lt (pos 0) (factor_of u r) ≡ false
    → int_lt (factor_of u r) (pos 0) ≡ false → ⊥
has_sign u r has not_above not_under =
    let most = not_below (pos 0) (factor_of u r) not_above in
    let least = not_below (factor_of u r) (pos 0) not_under in
    let none : factor_of u r ≡ pos 0 = omega (arith, ints) in
    let clash : true ≡ false = sym ((signed_Decides (factor_of u r) (pos 0)).1 none) ∙ not_true _ has in cc

by_sign : (P : Derived → Type 0) (u : ℕ) (ds : List Derived) → Each (λ r. has_unknown u r ≡ true) ds
    → Each P (positive_rows u ds) → Each P (negative_rows u ds) → Each P ds
by_sign P u [] has above below = tt
by_sign P u (r ∷ ds) has above below =
    sign_if P (int_lt (pos 0) (factor_of u r)) (int_lt (factor_of u r) (pos 0)) r ds (positive_rows u ds) (negative_rows u ds)
    (has_sign u r has.0) (by_sign P u ds has.1) above below

-- inequalities that hold at a value are met there
all_met : (num : ℕ → ℤ) (d : ℤ) (u : ℕ) (v : Fraction) (ds : List Derived) → Each (λ r. r.row.kind ≡ Inequality) ds
    → Each (AtLeast num d u v) ds → Each (MetAt num d u v) ds
all_met num d u v [] kinds hold = tt
all_met num d u v (r ∷ ds) kinds hold = (
  subst (λ k. Says k (sum_here num d r.row *ℤ v.denominator +ℤ factor_of u r *ℤ (v.numerator *ℤ d))) (sym kinds.0) hold.0,
  all_met num d u v ds kinds.1 hold.1,
)

fits_of : (side : Side) (u : ℕ) (P : Derived → Type 0) (ds : List Derived) → Each P ds
    → Each (λ r. (r.row.kind ≡ Inequality) × (sets_bound side u r ≡ true)) ds → Each (λ r. P r × Fits side u r) ds
fits_of side u P [] all fits = tt
fits_of side u P (r ∷ ds) all fits =
    ((all.0, record { kind = fits.0.0; sets = fits.0.1 }), fits_of side u P ds all.1 fits.1)

each_unit : (ds : List Derived) → Each (λ _. Unit {0}) ds
each_unit [] = tt
each_unit (d ∷ ds) = (tt, each_unit ds)

-- a value, and the rows that are met there
record IsGoodValue (num : ℕ → ℤ) (d : ℤ) (u : ℕ) (ds : List Derived) (v : Fraction) : Type 0 where
  pub positive : pos 0 <ℤ v.denominator
  pub met : Each (MetAt num d u v) ds

-- what is known of rows without an equation
record AreBounds (num : ℕ → ℤ) (d : ℤ) (u : ℕ) (ds : List Derived) : Type 0 where
  has : Each (λ r. has_unknown u r ≡ true) ds
  kinds : Each (λ r. r.row.kind ≡ Inequality) ds
  paired : Each (λ r. Each (λ n. Met num d (cleared u r n)) (negative_rows u ds)) (positive_rows u ds)

side_fits : (side : Side) (u : ℕ) (ds : List Derived) → Each (λ r. r.row.kind ≡ Inequality) ds
    → Each (λ r. (r.row.kind ≡ Inequality) × (sets_bound side u r ≡ true)) (filter (sets_bound side u) ds)
side_fits side u ds kinds = each_filter (λ r. r.row.kind ≡ Inequality) (sets_bound side u) ds kinds

pairs_hold : (num : ℕ → ℤ) (d : ℤ) (u : ℕ) (r : Derived) (v : Fraction) (ns : List Derived) → sets_bound Lower u r ≡ true
    → r.row.kind ≡ Inequality → IsRoot num d u r v → Each (λ n. Met num d (cleared u r n)) ns
    → Each (λ n. (n.row.kind ≡ Inequality) × (sets_bound Upper u n ≡ true)) ns → Each (AtLeast num d u v) ns
pairs_hold num d u r v [] sets kind root met fits = tt
pairs_hold num d u r v (n ∷ ns) sets kind root met fits =
    (pair_met num d u r n v sets kind fits.0.1 root met.0, pairs_hold num d u r v ns sets kind root met.1 fits.1)

bounds_met : (num : ℕ → ℤ) (d : ℤ) (u : ℕ) (v : Fraction) (ds : List Derived) → AreBounds num d u ds
    → pos 0 <ℤ v.denominator → Each (AtLeast num d u v) (positive_rows u ds) → Each (AtLeast num d u v) (negative_rows u ds)
    → IsGoodValue num d u ds v
bounds_met num d u v ds bounds positive above below =
    record { positive = positive; met = all_met num d u v ds bounds.kinds (by_sign (AtLeast num d u v) u ds bounds.has above below) }

none_hold : (P : Derived → Type 0) (ds : List Derived) → ds ≡ [] → Each P ds
none_hold P ds none = subst (Each P) (sym none) tt

no_start : (first : Fraction) → ◌≡◌ {A = Option Fraction} None (Some first) → pos 0 <ℤ first.denominator
no_start first is = absurd (cc)

-- where no row sets a lower bound
least_met : (values : List UnknownValue) (num : ℕ → ℤ) (d : ℤ) (u : ℕ) (ds : List Derived) (v : Fraction)
    → pos 0 <ℤ d → AllStand values num d → AreBounds num d u ds → positive_rows u ds ≡ []
    → else_least values u ds None ≡ Ok v → IsGoodValue num d u ds v
least_met values num d u ds v positive stand bounds none is =
    let split = then_inverted (best_bound Upper values u ds) (λ least. Ok (unwrap_or least (whole (pos 0)))) v is in
    ⊎_elim
    (λ empty.
    let zero : whole (pos 0) ≡ v = sym (ap (λ o. unwrap_or o (whole (pos 0))) empty.0) ∙ ok_same split.2 in
    bounds_met num d u v ds bounds (subst (λ (f : Fraction). pos 0 <ℤ f.denominator) zero (omega (arith, ints)))
    (none_hold (AtLeast num d u v) (positive_rows u ds) none)
    (none_hold (AtLeast num d u v) (negative_rows u ds) empty.2))
    (λ known.
    let same : known.0 ≡ v = sym (ap (λ o. unwrap_or o (whole (pos 0))) known.1) ∙ ok_same split.2 in
    let best = subst (IsBest Upper num d u (λ _. Unit {0}) None (negative_rows u ds)) same known.2 in
    bounds_met num d u v ds bounds best.positive
    (none_hold (AtLeast num d u v) (positive_rows u ds) none) best.hold)
    (best_known Upper values num d u (λ _. Unit {0}) None (negative_rows u ds) split.0 positive stand no_start
    (fits_of Upper u (λ _. Unit {0}) (negative_rows u ds) (each_unit (negative_rows u ds)) (side_fits Upper u ds bounds.kinds))
    split.1)
  where
    ok_same : {a b : Fraction} → ◌≡◌ {A = Result Fraction Limit} (Ok a) (Ok b) → a ≡ b
    ok_same is = cc

greatest_met : (values : List UnknownValue) (num : ℕ → ℤ) (d : ℤ) (u : ℕ) (ds : List Derived) (v : Fraction)
    → pos 0 <ℤ d → AllStand values num d → AreBounds num d u ds
    → and_then (best_bound Lower values u ds) (else_least values u ds) ≡ Ok v → IsGoodValue num d u ds v
greatest_met values num d u ds v positive stand bounds is =
    let split = then_inverted (best_bound Lower values u ds) (else_least values u ds) v is in
    let P = λ (r : Derived). (r.row.kind ≡ Inequality) × Each (λ n. Met num d (cleared u r n)) (negative_rows u ds) in
    let fits = side_fits Lower u ds bounds.kinds in
    ⊎_elim
    (λ empty. least_met values num d u ds v positive stand bounds empty.2 (ap (else_least values u ds) (sym empty.0) ∙ split.2))
    (λ known.
    let same : known.0 ≡ v = ok_same (ap (else_least values u ds) (sym known.1) ∙ split.2) in
    let best = subst (IsBest Lower num d u P None (positive_rows u ds)) same known.2 in
    ⊎_elim (λ clash. absurd (cc))
    (λ found. bounds_met num d u v ds bounds best.positive best.hold
    (pairs_hold num d u found.0 v (negative_rows u ds) found.2 found.1.0 found.3 found.1.1
    (side_fits Upper u ds bounds.kinds)))
    best.from)
    (best_known Lower values num d u P None (positive_rows u ds) split.0 positive stand no_start
    (fits_of Lower u P (positive_rows u ds)
    (both (λ r. r.row.kind ≡ Inequality) (λ r. Each (λ n. Met num d (cleared u r n)) (negative_rows u ds)) (positive_rows u ds)
    (each_weaker (λ r. (r.row.kind ≡ Inequality) × (sets_bound Lower u r ≡ true)) (λ r. r.row.kind ≡ Inequality)
    (positive_rows u ds) (λ r h. h.0) fits) bounds.paired)
    fits)
    split.1)
  where
    ok_same : {a b : Fraction} → ◌≡◌ {A = Result Fraction Limit} (Ok a) (Ok b) → a ≡ b
    ok_same is = cc

-- the rows with an unknown are met at the value that is chosen
with_met : (values : List UnknownValue) (num : ℕ → ℤ) (d : ℤ) (u : ℕ) (ds : List Derived) (v : Fraction)
    → pos 0 <ℤ d → AllStand values num d → Each (λ r. has_unknown u r ≡ true) ds → Each (Met num d) (formed u ds)
    → value_by values u ds (find is_equation ds) ≡ Ok v → IsGoodValue num d u ds v
with_met values num d u ds v positive stand has met is = by_find (find is_equation ds) refl met is
  where
    by_find : (o : Option Derived) → find is_equation ds ≡ o → Each (Met num d) (formed_by u ds o)
        → value_by values u ds o ≡ Ok v → IsGoodValue num d u ds v
    by_find (Some e) found met is =
        let e_has = (found_each (λ r. has_unknown u r ≡ true) ds e found has).0 in
        let root = bound_stands values num d stand u e v (own_above u e e_has) is in
        record {
          positive = root.positive;
          met = each_by_equation (MetAt num d u v) ds e found (root_met num d u e v e_has root)
              (equation_met num d u e v (without_first_equation ds) e_has root met);
        }
    by_find None found met is =
        let kinds = each_weaker (λ r. is_equation r ≡ false) (λ r. r.row.kind ≡ Inequality) ds inequality_kind (none_each ds found) in
        let groups = each_flat (Met num d) (λ row. paired u row (negative_rows u ds)) (positive_rows u ds) met in
        greatest_met values num d u ds v positive stand
        (record {
          has = has;
          kinds = kinds;
          paired = each_weaker (λ r. Each (Met num d) (paired u r (negative_rows u ds)))
              (λ r. Each (λ n. Met num d (cleared u r n)) (negative_rows u ds)) (positive_rows u ds)
              (λ r group. each_map (Met num d) (λ n. cleared u r n) (negative_rows u ds) group) groups;
        })
        is

-- the rows without it
apart_met : (num : ℕ → ℤ) (d : ℤ) (u : ℕ) (v : Fraction) (r : Derived) → pos 0 <ℤ v.denominator
    → not (has_unknown u r) ≡ true → Met num d r → MetAt num d u v r
apart_met num d u v r positive apart met =
    let f = factor_of u r in
    let sum = sum_here num d r.row in
    let none : f ≡ pos 0 = (signed_Decides f (pos 0)).0 (not_not (int_eq f (pos 0)) apart) in
    let alone : sum *ℤ v.denominator +ℤ f *ℤ (v.numerator *ℤ d) ≡ v.denominator *ℤ sum =
    ap (λ z. sum *ℤ v.denominator +ℤ z *ℤ (v.numerator *ℤ d)) none
    ∙ ap (λ z. sum *ℤ v.denominator +ℤ z) (zero-*ℤ (v.numerator *ℤ d)) ∙ +ℤ_idr (sum *ℤ v.denominator)
    ∙ *ℤ_comm sum v.denominator in
    let whole_sum = sum *ℤ v.denominator +ℤ f *ℤ (v.numerator *ℤ d) in
    says_scaled r.row.kind (pos 1) v.denominator whole_sum sum
    (omega (arith, ints)) positive (*ℤ_comm (pos 1) whole_sum ∙ times_one whole_sum ∙ alone) met
  where
    not_not : (b : Bool) → not (not b) ≡ true → b ≡ true
    not_not true e = refl
    not_not false e = absurd (cc)

-- one level
pub level_met : (values : List UnknownValue) (num : ℕ → ℤ) (d : ℤ) (u : ℕ) (rows : List Derived) (count : ℕ)
    (next : List Derived) (counted : ℕ) (v : Fraction) → pos 0 <ℤ d → AllStand values num d
    → fold taken (kept (rows_without u rows) count) (formed u (rows_with u rows)) ≡ kept next counted
    → Each (Met num d) next → value_by values u (rows_with u rows) (find is_equation (rows_with u rows)) ≡ Ok v
    → (pos 0 <ℤ v.denominator) × Each (MetAt num d u v) rows
level_met values num d u rows count next counted v positive stand is all is_value =
    let parts = fold_met num d (rows_without u rows) count (formed u (rows_with u rows)) next counted positive is all in
    let good = with_met values num d u (rows_with u rows) v positive stand (each_test (has_unknown u) rows) parts.1 is_value in
    let others = both (λ r. not (has_unknown u r) ≡ true) (Met num d) (rows_without u rows)
    (each_test (λ r. not (has_unknown u r)) rows) parts.0 in (
      good.positive,
      each_parted (MetAt num d u v) (has_unknown u) rows good.met
          (each_weaker (λ r. (not (has_unknown u r) ≡ true) × Met num d r) (MetAt num d u v) (rows_without u rows)
          (λ r h. apart_met num d u v r good.positive h.0 h.1) others),
    )
