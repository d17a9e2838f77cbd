-- Why no fractions meet all rows of a valid certificate: the rows, multiplied and added up, are at least 0 there, and
-- unknown by unknown they are a negative constant.
use Rattle.std.proofs.Common.{◌≡◌, ℕ, zero, suc, ◌+◌, ◌<◌, ◌≤◌, T, List, [], ◌∷◌, Option, Some, None}
use Rattle.std.proofs.Common.{unwrap_or, slice_get, All, IfSome, IsSomeAnd}
use Rattle.std.proofs.Common.{ℤ, pos, negsuc, ◌+ℤ◌, ◌*ℤ◌, ◌≤ℤ◌, ◌<ℤ◌, sym, ap, ◌∙◌, subst, arith}
use Rattle.std.specs.Option.{option_map_or}
use Rattle.std.specs.Ordering.{nat_cmp}
use Rattle.std.specs.FinMap.{entries, is_sorted, get-entries, entries_sorted}
use Rattle.std.proofs.lemmas.Int.{ints}
use Rattle.std.proofs.lemmas.List.Elements.{All-head, All-tail}
use lib.IntN.{+ℤ_idl, *ℤ-zero, zero-*ℤ}
use Rattle.rc_terms.specs.declared.cert.Cert.{Cert}
use Rattle.rc_terms.specs.declared.cert.CertEntry.{CertEntry}
use Rattle.linear_certs.specs.declared.row.Row.{Row}
use Rattle.linear_certs.specs.declared.row.RowKind.{RowKind}
use Rattle.linear_certs.specs.declared.row.RowKind.TheVariants.{Inequality, Equation}
use Rattle.linear_certs.specs.Certificate.{constants, factors, number_in, sum_in, MayMultiply}
use Rattle.linear_certs.specs.Certificate.{MultipliesRow, IsValid, Fractions, numerators_sum, scaled_sum, Says, Holds}
use Rattle.linear_certs.proofs.Integers.{add_across, mul_add, add_mul, mul_assoc, mul_swap}
use Rattle.linear_certs.proofs.Ranges.{range_sum, range_sum-same, range_sum-add, range_sum-mul, range_sum-zero}
use Rattle.linear_certs.proofs.Ranges.{range_sum-one}
use Rattle.linear_certs.proofs.SortedFactors.{factor_in, factor_in-cons, alone, alone_here, alone_apart, sorted_tail}

-- above each unknown of the factors
abbrev bound : List (ℕ × ℤ) → ℕ
bound [] = 0
bound (e ∷ es) = suc e.0 + bound es

-- above each unknown of the rows
abbrev rows_bound : List Row → ℕ
rows_bound [] = 0
rows_bound (row ∷ rows) = bound (entries row.factors) + rows_bound rows

IfSome-bound : (rows : List Row) (i : ℕ)
    → IfSome (slice_get rows i) (λ row. bound (entries row.factors) ≤ rows_bound rows)
IfSome-bound [] i = tt
IfSome-bound (row ∷ rows) zero = omega arith
IfSome-bound (row ∷ rows) (suc i) = IfSome-more (slice_get rows i) (IfSome-bound rows i)
  where
    IfSome-more : (o : Option Row) → IfSome o (λ other. bound (entries other.factors) ≤ rows_bound rows)
        → IfSome o (λ other. bound (entries other.factors) ≤ bound (entries row.factors) + rows_bound rows)
    IfSome-more None h = tt
    IfSome-more (Some other) h = omega arith

-- the factors of a row, unknown by unknown
numerators_by_unknown : (values : Fractions) (n : ℕ) (es : List (ℕ × ℤ)) → T (is_sorted nat_cmp es) → bound es ≤ n
    → numerators_sum values es ≡ range_sum n (λ u. factor_in u es *ℤ values.numerator u)
numerators_by_unknown values n [] sorted below =
    sym (range_sum-zero n (λ u. pos 0 *ℤ values.numerator u) (λ u _. zero-*ℤ (values.numerator u)))
numerators_by_unknown values n (e ∷ es) sorted below =
    let here : range_sum n (λ u. alone e u *ℤ values.numerator u) ≡ e.1 *ℤ values.numerator e.0 =
    range_sum-one n e.0 (λ u. alone e u *ℤ values.numerator u) (omega arith)
    (λ u apart. ap (λ f. f *ℤ values.numerator u) (alone_apart e u apart) ∙ zero-*ℤ (values.numerator u))
    ∙ ap (λ f. f *ℤ values.numerator e.0) (alone_here e) in
    let rest = numerators_by_unknown values n es (sorted_tail e es sorted) (omega arith) in
    let split : (u : ℕ) → factor_in u (e ∷ es) *ℤ values.numerator u ≡ alone e u *ℤ values.numerator u
    +ℤ factor_in u es *ℤ values.numerator u =
    λ u. ap (λ f. f *ℤ values.numerator u) (factor_in-cons e es sorted u)
    ∙ add_mul (alone e u) (factor_in u es) (values.numerator u) in
    sym (range_sum-same n _ _ split
    ∙ range_sum-add n (λ u. alone e u *ℤ values.numerator u) (λ u. factor_in u es *ℤ values.numerator u)
    ∙ ap (λ s. s +ℤ range_sum n (λ u. factor_in u es *ℤ values.numerator u)) here
    ∙ ap (λ s. e.1 *ℤ values.numerator e.0 +ℤ s) (sym rest))

row_by_unknown : (values : Fractions) (n : ℕ) (row : Row) → bound (entries row.factors) ≤ n
    → numerators_sum values (entries row.factors) ≡ range_sum n (λ u. number_in (factors u) row *ℤ values.numerator u)
row_by_unknown values n row below =
    numerators_by_unknown values n (entries row.factors) (entries_sorted row.factors) below
    ∙ range_sum-same n _ _ (λ u. ap (λ o. unwrap_or o (pos 0) *ℤ values.numerator u) (sym (get-entries row.factors u)))

-- the multiples of the entries' rows, at the fractions
abbrev scaled_total : Fractions → List Row → List CertEntry → ℤ
scaled_total values rows [] = pos 0
scaled_total values rows (entry ∷ more) =
    option_map_or (λ row. entry.multiplier *ℤ scaled_sum values row) (slice_get rows entry.row)
    (pos 0) +ℤ scaled_total values rows more

-- what one entry adds
entry_adds : (values : Fractions) (n : ℕ) (m : ℤ) (o : Option Row) (total constant : ℤ) (factor : ℕ → ℤ)
    → IfSome o (λ row. bound (entries row.factors) ≤ n)
    → total ≡ pos values.denominator *ℤ constant +ℤ range_sum n (λ u. factor u *ℤ values.numerator u)
    → option_map_or (λ row. m *ℤ scaled_sum values row) o (pos 0) +ℤ total
    ≡ pos values.denominator *ℤ (option_map_or (λ row. m *ℤ number_in constants row) o (pos 0) +ℤ constant)
    +ℤ range_sum n (λ u.
    (option_map_or (λ row. m *ℤ number_in (factors u) row) o (pos 0) +ℤ factor u) *ℤ values.numerator u)
entry_adds values n m None total constant factor below is =
    +ℤ_idl total ∙ is
    ∙ ap (λ c. pos values.denominator *ℤ c +ℤ range_sum n (λ u. factor u *ℤ values.numerator u)) (sym (+ℤ_idl constant))
    ∙ ap (λ s. pos values.denominator *ℤ (pos 0 +ℤ constant) +ℤ s)
    (range_sum-same n _ _ (λ u. ap (λ f. f *ℤ values.numerator u) (sym (+ℤ_idl (factor u)))))
entry_adds values n m (Some row) total constant factor below is =
    let d : ℤ = pos values.denominator in
    let c : ℤ = row.constant in
    let N : ℤ = numerators_sum values (entries row.factors) in
    let S : ℤ = range_sum n (λ u. factor u *ℤ values.numerator u) in
    let term : ℕ → ℤ = λ u. number_in (factors u) row *ℤ values.numerator u in
    let split : (u : ℕ) → (m *ℤ number_in (factors u) row +ℤ factor u) *ℤ values.numerator u ≡ m *ℤ term u
    +ℤ factor u *ℤ values.numerator u =
    λ u. add_mul (m *ℤ number_in (factors u) row) (factor u) (values.numerator u)
    ∙ ap (λ p. p +ℤ factor u *ℤ values.numerator u) (mul_assoc m (number_in (factors u) row) (values.numerator u)) in
    let by_unknown : range_sum n (λ u. (m *ℤ number_in (factors u) row +ℤ factor u) *ℤ values.numerator u) ≡ m *ℤ N
    +ℤ S =
    range_sum-same n _ _ split
    ∙ range_sum-add n (λ u. m *ℤ term u) (λ u. factor u *ℤ values.numerator u)
    ∙ ap (λ s. s +ℤ S) (range_sum-mul n m term ∙ ap (λ s. m *ℤ s) (sym (row_by_unknown values n row below))) in
    let by_constant : d *ℤ (m *ℤ c +ℤ constant) ≡ m *ℤ (d *ℤ c) +ℤ d *ℤ constant =
    mul_add d (m *ℤ c) constant ∙ ap (λ p. p +ℤ d *ℤ constant) (mul_swap d m c) in
    ap (λ s. m *ℤ (d *ℤ c +ℤ N) +ℤ s) is
    ∙ ap (λ s. s +ℤ (d *ℤ constant +ℤ S)) (mul_add m (d *ℤ c) N)
    ∙ add_across (m *ℤ (d *ℤ c)) (m *ℤ N) (d *ℤ constant) S
    ∙ ap (λ s. s +ℤ (m *ℤ N +ℤ S)) (sym by_constant)
    ∙ ap (λ s. d *ℤ (m *ℤ c +ℤ constant) +ℤ s) (sym by_unknown)

-- the whole sum, unknown by unknown
total_by_unknown : (values : Fractions) (rows : List Row) (es : List CertEntry)
    → scaled_total values rows es
    ≡ pos values.denominator *ℤ sum_in constants rows es
    +ℤ range_sum (rows_bound rows) (λ u. sum_in (factors u) rows es *ℤ values.numerator u)
total_by_unknown values rows [] =
    sym (ap (λ p. p +ℤ range_sum (rows_bound rows) (λ u. pos 0 *ℤ values.numerator u))
    (*ℤ-zero (pos values.denominator))
    ∙ +ℤ_idl _
    ∙ range_sum-zero (rows_bound rows) (λ u. pos 0 *ℤ values.numerator u) (λ u _. zero-*ℤ (values.numerator u)))
total_by_unknown values rows (entry ∷ more) =
    entry_adds values (rows_bound rows) entry.multiplier (slice_get rows entry.row) (scaled_total values rows more)
    (sum_in constants rows more) (λ u. sum_in (factors u) rows more) (IfSome-bound rows entry.row)
    (total_by_unknown values rows more)

-- a row that holds, rightly multiplied, is at least 0
multiple_holds : (m : ℤ) (kind : RowKind) (sum : ℤ) → MayMultiply m kind → Says kind sum → pos 0 ≤ℤ (m *ℤ sum)
multiple_holds (pos a) Inequality (pos b) may says = omega (arith, ints)
multiple_holds (pos a) Inequality (negsuc b) may says = absurd (omega (arith, ints))
multiple_holds (negsuc a) Inequality sum may says = absurd (omega (arith, ints))
multiple_holds m Equation sum may says =
    subst (λ s. pos 0 ≤ℤ s) (sym (ap (λ s. m *ℤ s) says ∙ *ℤ-zero m)) (omega (arith, ints))

IfSome-holds : (values : Fractions) (rows : List Row) (i : ℕ) → All (Holds values) rows
    → IfSome (slice_get rows i) (Holds values)
IfSome-holds values [] i all = tt
IfSome-holds values (row ∷ rows) zero all = All-head (Holds values) row rows all
IfSome-holds values (row ∷ rows) (suc i) all = IfSome-holds values rows i (All-tail (Holds values) row rows all)

option_holds : (values : Fractions) (m : ℤ) (o : Option Row) → IsSomeAnd o (λ row. MayMultiply m row.kind)
    → IfSome o (Holds values)
    → pos 0 ≤ℤ option_map_or (λ row. m *ℤ scaled_sum values row) o (pos 0)
option_holds values m None named holds = absurd named
option_holds values m (Some row) named holds = multiple_holds m row.kind (scaled_sum values row) named holds

total_holds : (values : Fractions) (rows : List Row) (es : List CertEntry) → All (Holds values) rows
    → All (MultipliesRow rows) es
    → pos 0 ≤ℤ scaled_total values rows es
total_holds values rows [] all named = omega (arith, ints)
total_holds values rows (entry ∷ more) all named =
    let first = option_holds values entry.multiplier (slice_get rows entry.row)
    (All-head (MultipliesRow rows) entry more named) (IfSome-holds values rows entry.row all) in
    let rest = total_holds values rows more all (All-tail (MultipliesRow rows) entry more named) in
    omega (arith, ints, first, rest)

negative_multiple : (d : ℕ) (c : ℤ) → 0 < d → c <ℤ pos 0 → (pos d *ℤ c) <ℤ pos 0
negative_multiple zero c positive below = absurd (omega arith)
negative_multiple (suc d) (pos c) positive below = absurd (omega (arith, ints))
negative_multiple (suc d) (negsuc c) positive below = omega (arith, ints)

pub refutes : (rows : List Row) (cert : Cert) (values : Fractions) → IsValid rows cert → ¬ All (Holds values) rows
refutes rows cert values valid all =
    let held = total_holds values rows cert.entries all valid.multiplied in
    let none = range_sum-zero (rows_bound rows) (λ u. sum_in (factors u) rows cert.entries *ℤ values.numerator u)
    (λ u _. ap (λ f. f *ℤ values.numerator u) (valid.no_unknown u) ∙ zero-*ℤ (values.numerator u)) in
    let total = total_by_unknown values rows cert.entries in
    let below = negative_multiple values.denominator
    (sum_in constants rows cert.entries) values.positive valid.negative in
    omega (arith, ints, held, none, total, below)
