-- By what the rows of a level are looked up.
use Rattle.std.specs.Prelude.{ℕ, ◌≡◌, List, [], ◌∷◌, ℤ, pos}
use Rattle.std.specs.List.{list_any}
use Rattle.std.specs.Ordering.{int_cmp, is_eq}
use Rattle.std.specs.Cmp.Lexicographic.{slice_cmp}
use Rattle.std.specs.FinMap.{entries}
use Rattle.linear_certs.specs.declared.row.Row.{Row}
use Rattle.linear_certs.specs.declared.row.RowKind.{RowKind}
use Rattle.linear_certs.specs.declared.row.RowKind.TheVariants.{Inequality, Equation}
use Rattle.linear_solve.specs.declared.derived.Derived.{Derived}

-- a kind as a number
abbrev pub kind_number : RowKind → ℤ
kind_number Inequality = pos 0
kind_number Equation = pos 1

-- the numbers of factors, one after the other
abbrev pub factor_numbers : List (ℕ × ℤ) → List ℤ
factor_numbers [] = []
factor_numbers (factor ∷ more) = pos factor.0 ∷ factor.1 ∷ factor_numbers more

-- all numbers of a row
abbrev pub key_of : Row → List ℤ
key_of row = kind_number row.kind ∷ row.constant ∷ factor_numbers (entries row.factors)

-- a key is among these exactly where a row has it
abbrev pub AreKeysOf : List (List ℤ) → List Derived → Type 0
AreKeysOf keys rows = (key : List ℤ) → list_any (λ other. is_eq (slice_cmp int_cmp key other)) keys
    ≡ list_any (λ derived. is_eq (slice_cmp int_cmp key (key_of derived.row))) rows
