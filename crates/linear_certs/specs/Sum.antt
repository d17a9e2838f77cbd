-- The running sum of the check, column by column.
use Rattle.std.specs.Prelude.{ℕ, ◌≤◌, ◌^◌, ℤ, pos, ◌+ℤ◌, ◌*ℤ◌, unsigned_abs, unwrap_or}
use Rattle.std.specs.Ordering.{nat_cmp}
use Rattle.std.specs.BTreeMap.{BTreeMap, get}
use Rattle.linear_certs.specs.declared.row.Row.{Row}
use Rattle.linear_certs.specs.declared.sum.Sum.{Sum}
use Rattle.linear_certs.specs.Certificate.{Column, constants, factors, number_in}

-- an unknown's factor in a running sum, 0 where it has none
abbrev pub running_factor : BTreeMap ℕ ℤ → ℕ → ℤ
running_factor sums unknown = unwrap_or (get nat_cmp sums unknown) (pos 0)

-- the number of a running sum in a column
abbrev pub running_number : Column → Sum → ℤ
running_number constants sum = sum.constant
running_number (factors unknown) sum = running_factor sum.factors unknown

-- none of its numbers is beyond 2^120
abbrev pub IsNarrow : Sum → Type 0
IsNarrow sum = (column : Column) → unsigned_abs (running_number column sum) ≤ 2 ^ 120

-- its number in a column, plus a multiple of a row's
abbrev pub number_plus : Sum → ℤ → Row → Column → ℤ
number_plus sum multiplier row column = running_number column sum +ℤ multiplier *ℤ number_in column row
