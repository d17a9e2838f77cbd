-- Linear certificates, whole: rows that add up to something impossible, and what such a sum refutes (the easy half of
-- Farkas' lemma, 1902). The form of rows and certificates is this project's own.
use Rattle.std.specs.Prelude.{ℕ, ◌≡◌, ◌≢◌, ◌<◌, ◌^◌, List, [], ◌∷◌, map, take, slice_get, unwrap_or, All}
use Rattle.std.specs.Prelude.{ℤ, pos, ◌+ℤ◌, ◌*ℤ◌, ◌<ℤ◌, ◌≤ℤ◌, unsigned_abs, IsSomeAnd}
use Rattle.std.specs.List.Sorted.{IsStrictlyIncreasing}
use Rattle.std.specs.Option.{option_map_or}
use Rattle.std.specs.FinMap.{get, entries}
use Rattle.rc_terms.specs.declared.cert.Cert.{Cert}
use Rattle.rc_terms.specs.declared.cert.CertEntry.{CertEntry}
use Rattle.linear_certs.specs.declared.row.Row.{Row}
use Rattle.linear_certs.specs.declared.row.RowKind.{RowKind}
use Rattle.linear_certs.specs.declared.row.RowKind.TheVariants.{Inequality, Equation}

-- a column of the table of rows: the constants, or the factors of an unknown
pub data Column : Type 0 where
  constants : Column
  factors : ℕ → Column

-- a row's number in a column: its constant, or its factor of the unknown, 0 where it has none
abbrev pub number_in : Column → Row → ℤ
number_in constants row = row.constant
number_in (factors unknown) row = unwrap_or (get row.factors unknown) (pos 0)

-- an entry's multiplier times its row's number in a column, 0 where it names no row
abbrev pub multiple_in : Column → List Row → CertEntry → ℤ
multiple_in column rows entry =
    option_map_or (λ row. entry.multiplier *ℤ number_in column row) (slice_get rows entry.row) (pos 0)

-- what the multiples of all entries add up to in a column
abbrev pub sum_in : Column → List Row → List CertEntry → ℤ
sum_in column rows [] = pos 0
sum_in column rows (entry ∷ more) = multiple_in column rows entry +ℤ sum_in column rows more

-- a number beyond 2^120
abbrev pub IsWide : ℤ → Type 0
IsWide number = 2 ^ 120 < unsigned_abs number

-- some partial sum, of the first few entries, has such a number
abbrev pub PassesWidth : List Row → Cert → Type 0
PassesWidth rows cert = (count : ℕ) × (column : Column) × IsWide (sum_in column rows (take count cert.entries))

-- a row `0 <= sum` is multiplied by a positive number, a row `0 = sum` by one that isn't 0
abbrev pub MayMultiply : ℤ → RowKind → Type 0
MayMultiply multiplier Inequality = pos 0 <ℤ multiplier
MayMultiply multiplier Equation = multiplier ≢ pos 0

-- the entry names a row that may be multiplied so
abbrev pub MultipliesRow : List Row → CertEntry → Type 0
MultipliesRow rows entry = IsSomeAnd (slice_get rows entry.row) (λ row. MayMultiply entry.multiplier row.kind)

-- the rows, ascending, each rightly multiplied, add up to `0 <= c` with c < 0
pub record IsValid (rows : List Row) (cert : Cert) : Type 0 where
  pub ascending : IsStrictlyIncreasing (map (λ entry. entry.row) cert.entries)
  pub multiplied : All (MultipliesRow rows) cert.entries
  pub no_unknown : (unknown : ℕ) → sum_in (factors unknown) rows cert.entries ≡ pos 0
  pub negative : sum_in constants rows cert.entries <ℤ pos 0

-- fractions for the unknowns: numerators over one denominator, which any fractions for finitely many unknowns have
pub record Fractions : Type 0 where
  pub numerator : ℕ → ℤ
  pub denominator : ℕ
  pub positive : 0 < denominator

-- the factors of a row times the numerators of their unknowns, added up
abbrev pub numerators_sum : Fractions → List (ℕ × ℤ) → ℤ
numerators_sum values [] = pos 0
numerators_sum values (factor ∷ more) = factor.1 *ℤ values.numerator factor.0 +ℤ numerators_sum values more

-- a row's sum at these fractions, times the denominator
abbrev pub scaled_sum : Fractions → Row → ℤ
scaled_sum values row = pos values.denominator *ℤ row.constant +ℤ numerators_sum values (entries row.factors)

-- what a row of a kind says of its sum, and of a positive multiple of it
abbrev pub Says : RowKind → ℤ → Type 0
Says Inequality sum = pos 0 ≤ℤ sum
Says Equation sum = sum ≡ pos 0

-- a row holds at these fractions
abbrev pub Holds : Fractions → Row → Type 0
Holds values row = Says row.kind (scaled_sum values row)
