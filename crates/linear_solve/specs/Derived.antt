-- Rows that come from the given ones, and how an unknown is eliminated from one by another (Fourier 1826, Motzkin
-- 1936).
use Rattle.std.specs.Prelude.{ℕ, List, ℤ, pos, neg_ℤ, ◌+ℤ◌, ◌*ℤ◌, unsigned_abs, int_div, int_lt, Bool, not}
use Rattle.std.specs.Prelude.{if◌then◌else◌}
use Rattle.std.specs.Ordering.{int_eq, nat_cmp}
use Rattle.std.specs.FinMap.{FinMap, empty, insert, entries, from_sorted}
use Rattle.linear_certs.specs.declared.row.Row.{Row}
use Rattle.linear_certs.specs.declared.row.RowKind.{RowKind}
use Rattle.linear_certs.specs.Certificate.{number_in, factors}
use Rattle.linear_solve.specs.declared.derived.Derived.{Derived}
use Rattle.linear_solve.specs.Numbers.{plus_multiple, shared_divisor, quotients}

-- a given row: its number's multiplier is 1
abbrev pub given : ℕ → Row → Derived
given index row = record { row = row; multipliers = insert empty index (pos 1); divisor = pos 1 }

-- the factor of an unknown
abbrev pub factor_of : ℕ → Derived → ℤ
factor_of unknown derived = number_in (factors unknown) derived.row

-- the row has the unknown
abbrev pub has_unknown : ℕ → Derived → Bool
has_unknown unknown derived = not (int_eq (factor_of unknown derived) (pos 0))

-- what a row is multiplied by, where another with this factor clears it of an unknown
abbrev pub own_multiple : ℤ → ℤ
own_multiple factor = pos (unsigned_abs factor)

-- what that other row is multiplied by, where the first has this factor of its own
abbrev pub other_multiple : ℤ → ℤ → ℤ
other_multiple factor own = if int_lt factor (pos 0) then own else neg_ℤ own

-- the row that a sum of rows is, divided
abbrev pub row_of_sums : RowKind → ℤ → List (ℕ × ℤ) → ℤ → Row
row_of_sums kind constant sums divisor =
    record {
      kind = kind;
      constant = int_div constant divisor;
      factors = from_sorted (quotients divisor sums);
    }

-- multiples of the entries of two maps, added up
abbrev pub sums_of : ℤ → List (ℕ × ℤ) → ℤ → List (ℕ × ℤ) → FinMap nat_cmp ℤ
sums_of by left times right = plus_multiple times right (plus_multiple by left empty)

-- multiples of two rows, added up and divided by the greatest common divisor of the sum's numbers; the multipliers
-- of the given rows and their divisor in lowest terms
abbrev pub combined : ℤ → Derived → ℤ → Derived → Derived
combined by left times right =
    let constant = by *ℤ left.row.constant +ℤ times *ℤ right.row.constant in
    let sums = entries (sums_of by (entries left.row.factors) times (entries right.row.factors)) in
    let shared = shared_divisor constant sums in
    let shares = entries (sums_of (by *ℤ right.divisor) (entries left.multipliers)
    (times *ℤ left.divisor) (entries right.multipliers)) in
    let whole = left.divisor *ℤ right.divisor *ℤ shared in
    let common = shared_divisor whole shares in
    record {
      row = row_of_sums left.row.kind constant sums shared;
      multipliers = from_sorted (quotients common shares);
      divisor = int_div whole common;
    }

-- a row cleared of an unknown by another that has it
abbrev pub cleared : ℕ → Derived → Derived → Derived
cleared unknown left right =
    combined (own_multiple (factor_of unknown right)) left
    (other_multiple (factor_of unknown right) (factor_of unknown left)) right
