-- The certificate of a failing row is valid.
use Rattle.std.proofs.Common.{◌≡◌, ◌≢◌, ℕ, zero, suc, ◌+◌, ◌<◌, Bool, true, false, T, not, cond, List, [], ◌∷◌, map, length}
use Rattle.std.proofs.Common.{get_or, Option, Some, None, slice_get, unwrap_or, All, IsSomeAnd, ℤ, pos, negsuc, ◌+ℤ◌, ◌*ℤ◌}
use Rattle.std.proofs.Common.{◌<ℤ◌, ◌≤ℤ◌, int_div, int_lt, refl, sym, ap, ◌∙◌, subst, add-one, arith, Decides}
use Rattle.std.proofs.Common.{◌⊎◌, ⊎_elim, inl, inr, if◌then◌else◌}
use Rattle.std.specs.Option.{option_map_or}
use Rattle.std.specs.Ordering.{nat_cmp, int_eq}
use Rattle.std.specs.Cmp.{signed_Decides}
use Rattle.std.specs.List.Sorted.{IsStrictlyIncreasing}
use Rattle.std.specs.FinMap.{entries, from_sorted, is_sorted, entries_sorted, get-entries}
use Rattle.std.proofs.lemmas.Int.{ints, by_lt_z}
use Rattle.std.proofs.lemmas.List.{length-map}
use Rattle.std.proofs.lemmas.List.Elements.{All-nil, All-cons, All-map}
use lib.IntN.{zero-*ℤ, *ℤ-zero, *ℤ_comm}
use Rattle.rc_terms.specs.declared.cert.CertEntry.{CertEntry}
use Rattle.linear_certs.specs.declared.row.Row.{Row}
use Rattle.linear_certs.specs.declared.row.RowKind.{RowKind}
use Rattle.linear_certs.specs.declared.row.RowKind.TheVariants.{Inequality, Equation}
use Rattle.linear_certs.specs.Certificate.{Column, constants, factors, number_in, sum_in, MayMultiply}
use Rattle.linear_certs.specs.Certificate.{MultipliesRow, IsValid}
use Rattle.linear_certs.proofs.Integers.{mul_add, mul_assoc, mul_swap}
use Rattle.linear_certs.proofs.SortedFactors.{factor_in, first_below, sorted_tail}
use Rattle.linear_certs.proofs.FactorPrefixes.{factor_at}
use Rattle.linear_solve.specs.declared.derived.Derived.{Derived}
use Rattle.linear_solve.specs.Numbers.{shared_divisor, quotients}
use Rattle.linear_solve.specs.Levels.{says_truly}
use Rattle.linear_solve.proofs.Sums.{weighted_sum, row_number}
use Rattle.linear_solve.specs.Failing.{direction, lowest_multipliers, certificate_of}
use Rattle.linear_solve.proofs.NumberLemmas.{entries-quotients}
use Rattle.linear_solve.proofs.Weights.{weighted_sum-quotients, AreExact}
use Rattle.linear_solve.proofs.DivisorLemmas.{shared_exact, shared_positive}
use Rattle.linear_solve.proofs.Soundness.{cancel, less_times, pos_product}
use Rattle.linear_solve.proofs.Signs.{FitsKind, FitsRow}
use Rattle.linear_solve.proofs.Refuted.{IsGood, Fails}

abbrev entry_of : ℤ → ℕ × ℤ → CertEntry
entry_of sign entry = record { row = entry.0; multiplier = sign *ℤ entry.1 }

one_multiple : (o : Option Row) (column : Column) (sign q : ℤ)
    → option_map_or (λ row. (sign *ℤ q) *ℤ number_in column row) o (pos 0)
    ≡ sign *ℤ (q *ℤ option_map_or (λ row. number_in column row) o (pos 0))
one_multiple None column sign q = sym (ap (λ z. sign *ℤ z) (*ℤ-zero q) ∙ *ℤ-zero sign)
one_multiple (Some row) column sign q = mul_assoc sign q (number_in column row)

-- what the certificate's entries add up to
sum_in-entries : (column : Column) (rows : List Row) (sign : ℤ) (qs : List (ℕ × ℤ))
    → sum_in column rows (map (entry_of sign) qs) ≡ sign *ℤ weighted_sum (row_number column rows) qs
sum_in-entries column rows sign [] = sym (*ℤ-zero sign)
sum_in-entries column rows sign (q ∷ qs) =
    (λ i. one_multiple (slice_get rows q.0) column sign q.1 i +ℤ sum_in-entries column rows sign qs i)
    ∙ sym (mul_add sign (q.1 *ℤ row_number column rows q.0) (weighted_sum (row_number column rows) qs))

-- the weighted sum of the lowest multipliers, times what they were divided by
lowest_sum : (rows : List Row) (d : Derived) (column : Column) → IsGood rows d
    → weighted_sum (row_number column rows) (lowest_multipliers d) *ℤ shared_divisor (pos 0) (entries d.multipliers)
    ≡ d.divisor *ℤ number_in column d.row
lowest_sum rows d column good =
    weighted_sum-quotients (row_number column rows) _ (entries d.multipliers)
    (shared_exact (pos 0) (entries d.multipliers)).1
    ∙ sym (good.sum.sums column)

-- the rows ascend
rises : (es : List (ℕ × ℤ)) → T (is_sorted nat_cmp es) → (k : ℕ) (d : ℕ × ℤ) → k + 1 < length es
    → (get_or es k d).0 < (get_or es (k + 1) d).0
rises [] sorted k d within = absurd (omega arith)
rises (e ∷ es) sorted zero d within = first_below e es sorted 0 d (omega arith)
rises (e ∷ es) sorted (suc k) d within =
    let rest = rises es (sorted_tail e es sorted) k d (omega arith) in
    rw add-one (rw add-one at rest)

sorted_lowest : (d : Derived) → T (is_sorted nat_cmp (lowest_multipliers d))
sorted_lowest d =
    let es = entries d.multipliers in
    subst (λ l. T (is_sorted nat_cmp l))
    (entries-quotients (shared_divisor (pos 0) es) es (entries_sorted d.multipliers))
    (entries_sorted (from_sorted {R = nat_cmp} (quotients (shared_divisor (pos 0) es) es)))

ascending_rows : (sign : ℤ) (qs : List (ℕ × ℤ)) → T (is_sorted nat_cmp qs)
    → IsStrictlyIncreasing (map (λ entry. entry.row) (map (entry_of sign) qs))
ascending_rows sign qs sorted k within =
    let rows = length-map (map (entry_of sign) qs) (λ (entry : CertEntry). entry.row) in
    let same = length-map qs (entry_of sign) in
    let d : ℕ × ℤ = (0, pos 0) in
    let low : k < length qs = omega arith in
    let high : k + 1 < length qs = omega arith in
    rw (row_at sign qs k d low, row_at sign qs (k + 1) d high) (rises qs sorted k d high)
  where
    row_at : (sign : ℤ) (qs : List (ℕ × ℤ)) (k : ℕ) (d : ℕ × ℤ) → k < length qs
        → get_or (map (λ entry. entry.row) (map (entry_of sign) qs)) k 0 ≡ (get_or qs k d).0
    row_at sign [] k d within = absurd (omega arith)
    row_at sign (q ∷ qs) zero d within = refl
    row_at sign (q ∷ qs) (suc k) d within = row_at sign qs k d (omega arith)

-- ---- signs

-- the sign is positive for an inequality that fails, and never 0
direction_cases : (c : ℤ) → ((direction c ≡ pos 1) × (c ≤ℤ pos 0)) ⊎ ((direction c ≡ negsuc 0) × (pos 0 <ℤ c))
direction_cases c = by_test (int_lt (pos 0) c) refl
  where
    by_test : (b : Bool) → int_lt (pos 0) c ≡ b
        → ((direction c ≡ pos 1) × (c ≤ℤ pos 0)) ⊎ ((direction c ≡ negsuc 0) × (pos 0 <ℤ c))
    by_test true is = inr (ap (λ b. if b then negsuc 0 else pos 1) is, record { lt = subst T (sym is) tt })
    by_test false is =
        inl (
          ap (λ b. if b then negsuc 0 else pos 1) is,
          by_lt_z (pos 0) c (λ above. absurd (subst T is above.lt)) (λ most. most),
        )

-- a failing constant, with its sign
pub failing_constant : (kind : RowKind) (c : ℤ) → says_truly kind c ≡ false → (direction c *ℤ c) <ℤ pos 0
failing_constant kind c untrue =
    ⊎_elim
    (λ h. rw h.0 (let one : pos 1 *ℤ c ≡ c = omega (arith, ints) in
    let below = failing_below kind c untrue h.1 in omega (arith, ints)))
    (λ h. rw h.0 (let minus : negsuc 0 *ℤ c +ℤ c ≡ pos 0 = omega (arith, ints) in
    let above = h.1 in omega (arith, ints)))
    (direction_cases c)
  where
    failing_below : (kind : RowKind) (c : ℤ) → says_truly kind c ≡ false → c ≤ℤ pos 0 → c <ℤ pos 0
    failing_below Inequality c untrue most = by_lt_z c (pos 0) (λ below. below)
        (λ least. absurd (subst T untrue least.le))
    failing_below Equation c untrue most = by_lt_z c (pos 0) (λ below. below)
        (λ least. absurd (let same : c ≡ pos 0 = omega (arith, ints) in
        let clash : true ≡ false = sym ((signed_Decides c (pos 0)).1 same) ∙ untrue in cc))

inequality_direction : (c : ℤ) → says_truly Inequality c ≡ false → direction c ≡ pos 1
inequality_direction c untrue =
    ⊎_elim (λ h. h.0)
    (λ h. absurd (let above = h.1 in let least : pos 0 ≤ℤ c = omega (arith, ints) in subst T untrue least.le))
    (direction_cases c)

-- ---- each entry may be multiplied so

-- a property of each quotient that isn't 0
all_quotients : (P : ℕ × ℤ → Type 0) (g : ℤ) (es : List (ℕ × ℤ))
    → ((i : ℕ) (d : ℕ × ℤ) → i < length es → int_div (get_or es i d).1 g ≢ pos 0
    → P ((get_or es i d).0, int_div (get_or es i d).1 g))
    → All P (quotients g es)
all_quotients P g [] each = All-nil P
all_quotients P g (e ∷ es) each =
    kept_if (int_eq (int_div e.1 g) (pos 0)) (signed_Decides (int_div e.1 g) (pos 0))
    (all_quotients P g es (λ i d within apart. each (suc i) d (omega arith) apart))
  where
    kept_if : (b : Bool) → Decides b (int_div e.1 g ≡ pos 0) → All P (quotients g es)
        → All P (cond (not b) ((e.0, int_div e.1 g) ∷ quotients g es) (quotients g es))
    kept_if true decides rest = rest
    kept_if false decides rest =
        All-cons P (e.0, int_div e.1 g) (quotients g es)
        (each 0 e (omega arith) (λ same. let clash : false ≡ true = decides.1 same in cc)) rest

exact_at : (g : ℤ) (es : List (ℕ × ℤ)) (i : ℕ) (d : ℕ × ℤ) → i < length es → AreExact g es
    → int_div (get_or es i d).1 g *ℤ g ≡ (get_or es i d).1
exact_at g [] i d within exact = absurd (omega arith)
exact_at g (e ∷ es) zero d within exact = exact.0
exact_at g (e ∷ es) (suc i) d within exact = exact_at g es i d (omega arith) exact.1

-- a quotient that isn't 0, of a multiplier that fits
may_multiply : (o : Option Row) (kind : RowKind) (c multiplier q g : ℤ) → says_truly kind c ≡ false → pos 0 <ℤ g
    → q *ℤ g ≡ multiplier → q ≢ pos 0 → FitsRow o kind multiplier
    → IsSomeAnd o (λ row. MayMultiply (direction c *ℤ q) row.kind)
may_multiply None kind c multiplier q g untrue positive is apart fits =
    absurd (apart (cancel q (pos 0) g positive (is ∙ fits ∙ sym (zero-*ℤ g))))
may_multiply (Some row) kind c multiplier q g untrue positive is apart fits =
    by_kind row.kind kind untrue fits
  where
    not_zero : direction c *ℤ q ≢ pos 0
    not_zero none =
        ⊎_elim
        (λ h. apart (let one : pos 1 *ℤ q ≡ q = omega (arith, ints) in
        sym one ∙ ap (λ z. z *ℤ q) (sym h.0) ∙ none))
        (λ h. apart (let minus : negsuc 0 *ℤ q +ℤ q ≡ pos 0 = omega (arith, ints) in
        let turned : negsuc 0 *ℤ q ≡ pos 0 = ap (λ z. z *ℤ q) (sym h.0) ∙ none in omega (arith, ints)))
        (direction_cases c)

    by_kind : (given kind : RowKind) → says_truly kind c ≡ false → FitsKind given kind multiplier
        → MayMultiply (direction c *ℤ q) given
    by_kind Equation kind untrue fits = not_zero
    by_kind Inequality Inequality untrue fits =
        let one : pos 1 *ℤ q ≡ q = omega (arith, ints) in
        let sign = ap (λ z. z *ℤ q) (inequality_direction c untrue) ∙ one in
        let above : pos 0 <ℤ q = by_lt_z (pos 0) q (λ above. above)
        (λ most. absurd (by_lt_z q (pos 0)
        (λ below. let product = less_times q (pos 0) g positive below in let none = zero-*ℤ g in
        let least = subst (λ z. pos 0 ≤ℤ z) (sym is) fits in omega (arith, ints))
        (λ least. apart (omega (arith, ints))))) in
        subst (λ z. pos 0 <ℤ z) (sym sign) above
    by_kind Inequality Equation untrue fits =
        absurd (apart (cancel q (pos 0) g positive (is ∙ fits ∙ sym (zero-*ℤ g))))

multiplied : (rows : List Row) (d : Derived) → IsGood rows d → Fails d
    → All (MultipliesRow rows) (map (entry_of (direction d.row.constant)) (lowest_multipliers d))
multiplied rows d good fails =
    let es = entries d.multipliers in
    let g = shared_divisor (pos 0) es in
    All-map (MultipliesRow rows) (entry_of (direction d.row.constant)) (lowest_multipliers d)
    (all_quotients (λ e. MultipliesRow rows (entry_of (direction d.row.constant) e)) g es
    (λ i default within apart.
    let e = get_or es i default in
    let fits = subst (FitsRow (slice_get rows e.0) d.row.kind)
    (ap (λ o. unwrap_or o (pos 0)) (get-entries d.multipliers e.0)
    ∙ factor_at es (entries_sorted d.multipliers) i default within)
    (good.signs.fits e.0) in
    may_multiply (slice_get rows e.0) d.row.kind d.row.constant e.1 (int_div e.1 g) g fails.untrue
    (shared_positive (pos 0) es) (exact_at g es i default within (shared_exact (pos 0) es).1) apart fits))

-- a number that is negative, as a factor of a negative product
negative_factor : (w g total sign : ℤ) → pos 0 <ℤ g → w *ℤ g ≡ total → (sign *ℤ total) <ℤ pos 0 → (sign *ℤ w) <ℤ pos 0
negative_factor w g total sign positive is below =
    by_lt_z (sign *ℤ w) (pos 0) (λ negative. negative)
    (λ least. absurd (
    let product : (sign *ℤ w) *ℤ g ≡ sign *ℤ total = mul_assoc sign w g ∙ ap (λ z. sign *ℤ z) is in
    let not_negative = least_product (sign *ℤ w) g positive least in omega (arith, ints)))
  where
    least_product : (a b : ℤ) → pos 0 <ℤ b → pos 0 ≤ℤ a → pos 0 ≤ℤ (a *ℤ b)
    least_product a b positive least =
        by_lt_z (pos 0) a (λ above. let product = pos_product a b above positive in omega (arith, ints))
        (λ most. let none : a ≡ pos 0 = omega (arith, ints) in
        let same = ap (λ z. z *ℤ b) none in let zero_product = zero-*ℤ b in omega (arith, ints))

pub certificate_valid : (rows : List Row) (d : Derived) → IsGood rows d → Fails d → IsValid rows (certificate_of d)
certificate_valid rows d good fails =
    record {
      ascending = ascending_rows (direction d.row.constant) (lowest_multipliers d) (sorted_lowest d);
      multiplied = multiplied rows d good fails;
      no_unknown = λ u.
          sum_in-entries (factors u) rows (direction d.row.constant) (lowest_multipliers d)
          ∙ ap (λ z. direction d.row.constant *ℤ z)
          (cancel _ (pos 0) g positive (lowest_sum rows d (factors u) good
          ∙ ap (λ z. d.divisor *ℤ z) (no_factor u) ∙ *ℤ-zero d.divisor ∙ sym (zero-*ℤ g)))
          ∙ *ℤ-zero (direction d.row.constant);
      negative =
          subst (λ z. z <ℤ pos 0)
          (sym (sum_in-entries constants rows (direction d.row.constant) (lowest_multipliers d)))
          (negative_factor _ g (d.divisor *ℤ d.row.constant) (direction d.row.constant) positive
          (lowest_sum rows d constants good)
          (subst (λ z. z <ℤ pos 0) (sym (mul_swap (direction d.row.constant) d.divisor d.row.constant))
          (negative_times d.divisor (direction d.row.constant *ℤ d.row.constant) good.sum.positive
          (failing_constant d.row.kind d.row.constant fails.untrue))));
    }
  where
    g : ℤ
    g = shared_divisor (pos 0) (entries d.multipliers)

    positive : pos 0 <ℤ g
    positive = shared_positive (pos 0) (entries d.multipliers)

    no_factor : (u : ℕ) → number_in (factors u) d.row ≡ pos 0
    no_factor u = ap (λ o. unwrap_or o (pos 0)) (get-entries d.row.factors u)
        ∙ ap (λ l. factor_in u l) fails.none

    negative_times : (a b : ℤ) → pos 0 <ℤ a → b <ℤ pos 0 → (a *ℤ b) <ℤ pos 0
    negative_times a b above below =
        let product = less_times b (pos 0) a above below in
        let none = zero-*ℤ a in
        let turned = *ℤ_comm a b in omega (arith, ints)
