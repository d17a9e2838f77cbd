-- What a row's multipliers of the given rows add up to.
use Rattle.std.proofs.Common.{◌≡◌, ℕ, List, [], ◌∷◌, slice_get, ℤ, pos, ◌+ℤ◌, ◌*ℤ◌, ◌<ℤ◌}
use Rattle.std.specs.Option.{option_map_or}
use Rattle.std.specs.FinMap.{entries}
use Rattle.linear_certs.specs.declared.row.Row.{Row}
use Rattle.linear_certs.specs.Certificate.{Column, number_in}
use Rattle.linear_solve.specs.declared.derived.Derived.{Derived}

-- entries, each times the weight of its index, added up
abbrev pub weighted_sum : (ℕ → ℤ) → List (ℕ × ℤ) → ℤ
weighted_sum weight [] = pos 0
weighted_sum weight (entry ∷ more) = entry.1 *ℤ weight entry.0 +ℤ weighted_sum weight more

-- a given row's number in a column, 0 where there is no such row
abbrev pub row_number : Column → List Row → ℕ → ℤ
row_number column rows index = option_map_or (λ row. number_in column row) (slice_get rows index) (pos 0)

-- the row, times its positive divisor, is what its multipliers of the given rows add up to
pub record IsSum (rows : List Row) (derived : Derived) : Type 0 where
  pub positive : pos 0 <ℤ derived.divisor
  pub sums : (column : Column) → derived.divisor *ℤ number_in column derived.row
      ≡ weighted_sum (row_number column rows) (entries derived.multipliers)
