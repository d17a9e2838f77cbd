-- The levels of the elimination. Level 0 is the given rows; each level has one unknown less than the one before.
use Rattle.std.specs.Prelude.{ℕ, ◌+◌, List, [], ◌∷◌, ◌++◌, map, filter, fold, Option, Some, None, Result, Ok, Err}
use Rattle.std.specs.Prelude.{ℤ, pos, Bool, true, false}
use Rattle.std.specs.Prelude.{◌&&◌, not, int_le, int_lt, nat_le, if◌then◌else◌, find, ◌==◌}
use Rattle.std.specs.List.{list_any, flat_map}
use Rattle.std.specs.Ordering.{int_eq}
use Rattle.std.specs.Cmp.Lexicographic.{pointwise}
use Rattle.std.specs.FinMap.{entries}
use Rattle.linear_certs.specs.declared.row.Row.{Row}
use Rattle.linear_certs.specs.declared.row.RowKind.{RowKind}
use Rattle.linear_certs.specs.declared.row.RowKind.TheVariants.{Inequality, Equation}
use Rattle.linear_solve.specs.declared.derived.Derived.{Derived}
use Rattle.linear_solve.specs.declared.step.Step.{Step}
use Rattle.linear_solve.specs.declared.step.Eliminated.{Eliminated}
use Rattle.linear_solve.specs.declared.step.Eliminated.TheVariants as outcomes
use Rattle.linear_solve.specs.declared.limit.Limit.{Limit}
use Rattle.linear_solve.specs.declared.limit.Limit.TheVariants as limits
use Rattle.linear_solve.specs.Derived.{given, factor_of, has_unknown, cleared}
use Rattle.linear_solve.specs.Limits.{row_limit, is_wide_row}

-- the kind is that of equations
abbrev pub is_equation_kind : RowKind → Bool
is_equation_kind Inequality = false
is_equation_kind Equation = true

abbrev pub is_equation : Derived → Bool
is_equation derived = is_equation_kind derived.row.kind

-- two lists of factors are one
abbrev pub same_factors : List (ℕ × ℤ) → List (ℕ × ℤ) → Bool
same_factors = pointwise (λ factor other. (factor.0 == other.0) && int_eq factor.1 other.1)

-- two kinds are one
abbrev pub same_kind : RowKind → RowKind → Bool
same_kind Inequality kind = not (is_equation_kind kind)
same_kind Equation kind = is_equation_kind kind

-- two rows are one: the later one is repeated
abbrev pub same_row : Row → Row → Bool
same_row row other =
    same_kind row.kind other.kind && int_eq row.constant other.constant
    && same_factors (entries row.factors) (entries other.factors)

-- what a row of a kind says of a constant alone
abbrev pub says_truly : RowKind → ℤ → Bool
says_truly Inequality constant = int_le (pos 0) constant
says_truly Equation constant = int_eq constant (pos 0)

-- what taking rows in turn comes to: a limit, a row without unknowns that fails, or rows with how many were counted
pub data Taken : Type 0 where
  passed : Limit → Taken
  failing : Derived → Taken
  kept : List Derived → ℕ → Taken

-- a row without unknowns is dropped if it holds, and fails otherwise
abbrev pub taken_constant : List Derived → ℕ → Derived → Taken
taken_constant rows count derived =
    if says_truly derived.row.kind derived.row.constant then kept rows count else failing derived

-- a repeated row is dropped, another stands last
abbrev pub taken_with_unknowns : List Derived → ℕ → Derived → Taken
taken_with_unknowns rows count derived =
    if list_any (λ other. same_row other.row derived.row) rows then kept rows count
    else kept (rows ++ derived ∷ []) count

-- a row that was counted, by its factors
abbrev pub taken_counted : List Derived → ℕ → Derived → List (ℕ × ℤ) → Taken
taken_counted rows count derived [] = taken_constant rows count derived
taken_counted rows count derived (factor ∷ more) = taken_with_unknowns rows count derived

-- one row more: its numbers are looked at first, then the count
abbrev pub taken_next : List Derived → ℕ → Derived → Taken
taken_next rows count derived =
    if is_wide_row derived.row then passed limits.Width
    else if nat_le row_limit count then passed limits.Rows
    else taken_counted rows (count + 1) derived (entries derived.row.factors)

-- the first limit, or else the first row that fails, ends it
abbrev pub taken : Taken → Derived → Taken
taken (passed limit) derived = passed limit
taken (failing row) derived = failing row
taken (kept rows count) derived = taken_next rows count derived

-- the rows without the first equation among them
abbrev pub without_first_equation : List Derived → List Derived
without_first_equation [] = []
without_first_equation (derived ∷ more) =
    if is_equation derived then more else derived ∷ without_first_equation more

-- the rows with a positive factor of an unknown, and those with a negative one
abbrev pub positive_rows : ℕ → List Derived → List Derived
positive_rows unknown rows = filter (λ derived. int_lt (pos 0) (factor_of unknown derived)) rows

abbrev pub negative_rows : ℕ → List Derived → List Derived
negative_rows unknown rows = filter (λ derived. int_lt (factor_of unknown derived) (pos 0)) rows

-- rows, each cleared of an unknown by one equation
abbrev pub cleared_by : ℕ → Derived → List Derived → List Derived
cleared_by unknown equation rows = map (λ row. cleared unknown row equation) rows

-- one row, cleared of an unknown by each of others
abbrev pub paired : ℕ → Derived → List Derived → List Derived
paired unknown row others = map (λ other. cleared unknown row other) others

-- each positive row, cleared by each negative one
abbrev pub pairs : ℕ → List Derived → List Derived
pairs unknown rows =
    flat_map (λ row. paired unknown row (negative_rows unknown rows)) (positive_rows unknown rows)

-- the rows that are formed, where this is the first equation
abbrev pub formed_by : ℕ → List Derived → Option Derived → List Derived
formed_by unknown rows (Some equation) = cleared_by unknown equation (without_first_equation rows)
formed_by unknown rows None = pairs unknown rows

-- the rows that are formed from rows which have an unknown: the others cleared by the first equation, or, where there
-- is none, all pairs
abbrev pub formed : ℕ → List Derived → List Derived
formed unknown rows = formed_by unknown rows (find is_equation rows)

-- the rows of a level with an unknown, and those without it
abbrev pub rows_with : ℕ → List Derived → List Derived
rows_with unknown rows = filter (has_unknown unknown) rows

abbrev pub rows_without : ℕ → List Derived → List Derived
rows_without unknown rows = filter (λ derived. not (has_unknown unknown derived)) rows

-- the next level: the rows without the unknown, and then those that are formed
abbrev pub next_level : ℕ → List Derived → ℕ → Taken
next_level unknown rows count =
    fold taken (kept (rows_without unknown rows) count) (formed unknown (rows_with unknown rows))

-- given rows, numbered from the first one's number on
abbrev pub numbered : ℕ → List Row → List Derived
numbered number [] = []
numbered number (row ∷ more) = given number row ∷ numbered (number + 1) more

-- level 0
abbrev pub first_level : List Row → Taken
first_level rows = fold taken (kept [] 0) (numbered 0 rows)

-- a step before those of an elimination that went on
abbrev pub after_step : Step → Result Eliminated Limit → Result Eliminated Limit
after_step step (Err limit) = Err limit
after_step step (Ok (outcomes.Refuted derived)) = Ok (outcomes.Refuted derived)
after_step step (Ok (outcomes.Steps steps)) = Ok (outcomes.Steps (step ∷ steps))

-- the unknowns that are left are eliminated in turn, until a limit is passed or a row fails
abbrev pub elimination : List ℕ → Taken → Result Eliminated Limit
elimination unknowns (passed limit) = Err limit
elimination unknowns (failing derived) = Ok (outcomes.Refuted derived)
elimination [] (kept rows count) = Ok (outcomes.Steps [])
elimination (unknown ∷ more) (kept rows count) =
    after_step (record { unknown = unknown; rows = rows_with unknown rows })
    (elimination more (next_level unknown rows count))
