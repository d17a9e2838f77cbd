-- By what a proof tells derived rows apart: their parts. No contract cites it.
use Rattle.std.specs.Prelude.{◌≡◌, ℤ, Bool, true, false, refl}
use Rattle.std.specs.Coded.{Coded, code_by, coded×, coded_ℕ, coded_ℤ, coded_bool}
use Rattle.std.specs.Ordering.{nat_cmp}
use Rattle.std.specs.FinMap.{FinMap}
use Rattle.std.specs.FinMap as map
use Rattle.linear_certs.specs.declared.row.Row.{Row}
use Rattle.linear_certs.specs.declared.row.RowKind.{RowKind}
use Rattle.linear_certs.specs.declared.row.RowKind.TheVariants.{Inequality, Equation}
use Rattle.linear_solve.specs.declared.derived.Derived.{Derived}
use Rattle.linear_solve.specs.Levels.{is_equation_kind}

-- the kind of equations, or that of inequalities
abbrev pub kind_of : Bool → RowKind
kind_of false = Inequality
kind_of true = Equation

pub kind_of-is_equation_kind : (kind : RowKind) → kind_of (is_equation_kind kind) ≡ kind
kind_of-is_equation_kind Inequality = refl
kind_of-is_equation_kind Equation = refl

-- a row by its parts
abbrev pub row_code : Coded Row
row_code =
    code_by (Bool × (ℤ × FinMap nat_cmp ℤ)) (coded× coded_bool (coded× coded_ℤ (map.code coded_ℕ coded_ℤ)))
    (λ row. (is_equation_kind row.kind, (row.constant, row.factors)))
    (λ parts. record { kind = kind_of parts.0; constant = parts.1.0; factors = parts.1.1 })
    (λ row i. record { kind = kind_of-is_equation_kind row.kind i; constant = row.constant; factors = row.factors })

-- a derived row by its parts
abbrev pub derived_code : Coded Derived
derived_code =
    code_by (Row × (FinMap nat_cmp ℤ × ℤ)) (coded× row_code (coded× (map.code coded_ℕ coded_ℤ) coded_ℤ))
    (λ derived. (derived.row, (derived.multipliers, derived.divisor)))
    (λ parts. record { row = parts.0; multipliers = parts.1.0; divisor = parts.1.1 })
    (λ _. refl)
