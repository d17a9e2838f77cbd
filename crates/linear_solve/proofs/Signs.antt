-- The signs of multipliers: what comes from an inequality makes no equation, and is multiplied by positive numbers.
use Rattle.std.proofs.Common.{◌≡◌, ℕ, Bool, true, false, List, Option, Some, None, slice_get, unwrap_or, cond}
use Rattle.std.proofs.Common.{ℤ, pos, ◌+ℤ◌, ◌*ℤ◌, ◌<ℤ◌, ◌≤ℤ◌, refl, sym, ap, ◌∙◌, subst, arith}
use Rattle.std.specs.Ordering.{nat_cmp, eq_by_cmp}
use Rattle.std.specs.FinMap.{FinMap, empty, insert, get, entries, from_sorted, entries_sorted, get-insert, get-empty}
use Rattle.std.specs.Cmp.{nat_cmp_total}
use Rattle.linear_certs.proofs.SortedFactors.{tied_same}
use Rattle.std.proofs.lemmas.Int.{ints, by_lt_z}
use Rattle.std.proofs.Common.{◌⊎◌, inl, inr}
use lib.IntN.{zero-*ℤ, *ℤ-zero, +ℤ_idr}
use Rattle.linear_certs.specs.declared.row.Row.{Row}
use Rattle.linear_certs.specs.declared.row.RowKind.{RowKind}
use Rattle.linear_certs.specs.declared.row.RowKind.TheVariants.{Inequality, Equation}
use Rattle.linear_solve.specs.declared.derived.Derived.{Derived}
use Rattle.linear_solve.specs.Numbers.{number_at, shared_divisor, quotients}
use Rattle.linear_solve.specs.Derived.{given, combined, sums_of}
use Rattle.linear_solve.proofs.Sums.{weighted_sum}
use Rattle.linear_solve.proofs.NumberLemmas.{entries-quotients}
use Rattle.linear_solve.proofs.Weights.{weighted_sum-sums_of, weighted_sum-quotients, only}
use Rattle.linear_solve.proofs.DivisorLemmas.{shared_exact, shared_positive}
use Rattle.linear_solve.proofs.Soundness.{by_weight, pos_product, less_times, cancel}

-- a multiplier of a given row of one kind, in a row of another
abbrev pub FitsKind : RowKind → RowKind → ℤ → Type 0
FitsKind Equation kind multiplier = Unit {0}
FitsKind Inequality Inequality multiplier = pos 0 ≤ℤ multiplier
FitsKind Inequality Equation multiplier = multiplier ≡ pos 0

-- of a given row, or of none
abbrev pub FitsRow : Option Row → RowKind → ℤ → Type 0
FitsRow None kind multiplier = multiplier ≡ pos 0
FitsRow (Some row) kind multiplier = FitsKind row.kind kind multiplier

pub record HasSigns (rows : List Row) (d : Derived) : Type 0 where
  pub fits : (i : ℕ) → FitsRow (slice_get rows i) d.row.kind (number_at d.multipliers i)

-- the multipliers and the divisor of a combination before they are in lowest terms
abbrev shares_of : ℤ → Derived → ℤ → Derived → FinMap nat_cmp ℤ
shares_of by left times right =
    sums_of (by *ℤ right.divisor) (entries left.multipliers) (times *ℤ left.divisor) (entries right.multipliers)

abbrev whole_of : ℤ → Derived → ℤ → Derived → ℤ
whole_of by left times right =
    left.divisor *ℤ right.divisor *ℤ shared_divisor (by *ℤ left.row.constant +ℤ times *ℤ right.row.constant)
    (entries (sums_of by (entries left.row.factors) times (entries right.row.factors)))

-- a multiplier after a combination, times the common divisor
combined_multiplier : (by : ℤ) (left : Derived) (times : ℤ) (right : Derived) (i : ℕ)
    → number_at (combined by left times right).multipliers i
    *ℤ shared_divisor (whole_of by left times right) (entries (shares_of by left times right))
    ≡ (by *ℤ right.divisor) *ℤ number_at left.multipliers i +ℤ (times *ℤ left.divisor) *ℤ number_at right.multipliers i
combined_multiplier by left times right i =
    let shares = shares_of by left times right in
    let common = shared_divisor (whole_of by left times right) (entries shares) in
    ap (λ z. z *ℤ common) (by_weight i (from_sorted (quotients common (entries shares)))
    ∙ ap (weighted_sum (only i)) (entries-quotients common (entries shares) (entries_sorted shares)))
    ∙ weighted_sum-quotients (only i) common (entries shares)
    (shared_exact (whole_of by left times right) (entries shares)).1
    ∙ weighted_sum-sums_of (only i) (by *ℤ right.divisor) (entries left.multipliers) (times *ℤ left.divisor)
    (entries right.multipliers)
    ∙ sym (λ j. (by *ℤ right.divisor) *ℤ by_weight i left.multipliers j
    +ℤ (times *ℤ left.divisor) *ℤ by_weight i right.multipliers j)

-- a factor of a number that is not negative, or is 0
pub not_negative : (m c total : ℤ) → pos 0 <ℤ c → m *ℤ c ≡ total → pos 0 ≤ℤ total → pos 0 ≤ℤ m
not_negative m c total positive is least =
    by_lt_z m (pos 0)
    (λ below. absurd (let negative = negative_product m c positive below in omega (arith, ints)))
    (λ above. above)
  where
    negative_product : (m c : ℤ) → pos 0 <ℤ c → m <ℤ pos 0 → (m *ℤ c) <ℤ pos 0
    negative_product m c positive below =
        let product = less_times m (pos 0) c positive below in let none = zero-*ℤ c in omega (arith, ints)

pub zero_factor : (m c : ℤ) → pos 0 <ℤ c → m *ℤ c ≡ pos 0 → m ≡ pos 0
zero_factor m c positive is = cancel m (pos 0) c positive (is ∙ sym (zero-*ℤ c))

pub product_least : (a b : ℤ) → pos 0 <ℤ a → pos 0 ≤ℤ b → pos 0 ≤ℤ (a *ℤ b)
product_least a b positive least =
    by_lt_z (pos 0) b
    (λ above. let product = pos_product a b positive above in omega (arith, ints))
    (λ most. let none : b ≡ pos 0 = omega (arith, ints) in
    let same = ap (λ z. a *ℤ z) none in let zero_product = *ℤ-zero a in omega (arith, ints))

map_case : {K L : Type 0} (times d : ℤ) → pos 0 <ℤ d → K ⊎ (L × (pos 0 <ℤ times)) → K ⊎ (L × (pos 0 <ℤ (times *ℤ d)))
map_case times d positive (inl k) = inl k
map_case times d positive (inr h) = inr (h.0, pos_product times d h.1 positive)

both_zero : (m c by x times y : ℤ) → pos 0 <ℤ c → m *ℤ c ≡ by *ℤ x +ℤ times *ℤ y → x ≡ pos 0 → y ≡ pos 0 → m ≡ pos 0
both_zero m c by x times y positive is left right =
    zero_factor m c positive
    (is ∙ (λ i. by *ℤ left i +ℤ times *ℤ right i) ∙ (λ i. *ℤ-zero by i +ℤ *ℤ-zero times i))

left_alone : (m c by x times y : ℤ) → m *ℤ c ≡ by *ℤ x +ℤ times *ℤ y → y ≡ pos 0 → m *ℤ c ≡ by *ℤ x
left_alone m c by x times y is right =
    is ∙ ap (λ z. by *ℤ x +ℤ times *ℤ z) right ∙ ap (λ z. by *ℤ x +ℤ z) (*ℤ-zero times) ∙ +ℤ_idr _

fits_combined : (o : Option Row) (left right : RowKind) (x y m by times c : ℤ) → pos 0 <ℤ by → pos 0 <ℤ c
    → (right ≡ Equation) ⊎ ((left ≡ Inequality) × (pos 0 <ℤ times))
    → m *ℤ c ≡ by *ℤ x +ℤ times *ℤ y → FitsRow o left x → FitsRow o right y → FitsRow o left m
fits_combined None left right x y m by times c positive common case is fits_x fits_y =
    both_zero m c by x times y common is fits_x fits_y
fits_combined (Some row) left right x y m by times c positive common case is fits_x fits_y =
    fits_kind row.kind left right case fits_x fits_y
  where
    fits_kind : (given left right : RowKind) → (right ≡ Equation) ⊎ ((left ≡ Inequality) × (pos 0 <ℤ times))
        → FitsKind given left x → FitsKind given right y → FitsKind given left m
    fits_kind Equation left right case fits_x fits_y = tt
    fits_kind Inequality Inequality Equation case fits_x fits_y =
        not_negative m c (by *ℤ x) common (left_alone m c by x times y is fits_y) (product_least by x positive fits_x)
    fits_kind Inequality Equation Equation case fits_x fits_y = both_zero m c by x times y common is fits_x fits_y
    fits_kind Inequality Inequality Inequality (inl same) fits_x fits_y = absurd (cc)
    fits_kind Inequality Inequality Inequality (inr h) fits_x fits_y =
        let first = product_least by x positive fits_x in
        let second = product_least times y h.1 fits_y in
        not_negative m c (by *ℤ x +ℤ times *ℤ y) common is (omega (arith, ints))
    fits_kind Inequality Equation Inequality (inl same) fits_x fits_y = absurd (cc)
    fits_kind Inequality Equation Inequality (inr h) fits_x fits_y = absurd (let clash = h.0 in cc)

-- a combination by a positive number and, of an inequality, by a positive one too
pub combined_signs : (rows : List Row) (by : ℤ) (left : Derived) (times : ℤ) (right : Derived)
    → pos 0 <ℤ by → pos 0 <ℤ left.divisor → pos 0 <ℤ right.divisor
    → (right.row.kind ≡ Equation) ⊎ ((left.row.kind ≡ Inequality) × (pos 0 <ℤ times))
    → HasSigns rows left → HasSigns rows right → HasSigns rows (combined by left times right)
combined_signs rows by left times right positive left_positive right_positive case left_signs right_signs =
    record {
      fits = λ i. fits_combined (slice_get rows i) left.row.kind right.row.kind (number_at left.multipliers i)
          (number_at right.multipliers i) _ (by *ℤ right.divisor) (times *ℤ left.divisor) _
          (pos_product by right.divisor positive right_positive)
          (shared_positive (whole_of by left times right) (entries (shares_of by left times right)))
          (map_case times left.divisor left_positive case)
          (combined_multiplier by left times right i) (left_signs.fits i) (right_signs.fits i);
    }

own_kind : (kind : RowKind) → FitsKind kind kind (pos 1)
own_kind Inequality = omega (arith, ints)
own_kind Equation = tt

zero_kind : (given kind : RowKind) → FitsKind given kind (pos 0)
zero_kind Equation kind = tt
zero_kind Inequality Inequality = omega (arith, ints)
zero_kind Inequality Equation = refl

zero_fits : (o : Option Row) (kind : RowKind) → FitsRow o kind (pos 0)
zero_fits None kind = refl
zero_fits (Some row) kind = zero_kind row.kind kind

-- a given row alone
pub given_signs : (rows : List Row) (i : ℕ) (row : Row) → slice_get rows i ≡ Some row → HasSigns rows (given i row)
given_signs rows i row here =
    record { fits = λ k. fits_given k (eq_by_cmp nat_cmp k i) refl }
  where
    fits_given : (k : ℕ) (b : Bool) → eq_by_cmp nat_cmp k i ≡ b
        → FitsRow (slice_get rows k) row.kind (number_at (insert (empty {R = nat_cmp}) i (pos 1)) k)
    fits_given k true tied =
        let same : k ≡ i = tied_same k i tied in
        let one : number_at (insert (empty {R = nat_cmp}) i (pos 1)) k ≡ pos 1 =
        ap (λ o. unwrap_or o (pos 0)) (get-insert nat_cmp_total (empty {R = nat_cmp}) i (pos 1) k
        ∙ ap (λ b. cond b (Some (pos 1)) (get (empty {R = nat_cmp}) k)) tied) in
        subst (λ o. FitsRow o row.kind (number_at (insert (empty {R = nat_cmp}) i (pos 1)) k))
        (sym (ap (slice_get rows) same ∙ here))
        (subst (FitsKind row.kind row.kind) (sym one) (own_kind row.kind))
    fits_given k false apart =
        let none : number_at (insert (empty {R = nat_cmp}) i (pos 1)) k ≡ pos 0 =
        ap (λ o. unwrap_or o (pos 0)) (get-insert nat_cmp_total (empty {R = nat_cmp}) i (pos 1) k
        ∙ ap (λ b. cond b (Some (pos 1)) (get (empty {R = nat_cmp}) k)) apart ∙ get-empty nat_cmp k) in
        subst (FitsRow (slice_get rows k) row.kind) (sym none) (zero_fits (slice_get rows k) row.kind)
