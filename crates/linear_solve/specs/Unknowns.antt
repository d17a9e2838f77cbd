-- Which unknowns rows have, in the order in which they are eliminated.
use Rattle.std.specs.Prelude.{ℕ, List, [], fold, ℤ, pos, ◌≢◌, All}
use Rattle.std.specs.Ordering.{nat_cmp}
use Rattle.std.specs.BTreeSet.{insert_key}
use Rattle.std.specs.FinMap.{entries}
use Rattle.linear_certs.specs.declared.row.Row.{Row}

-- ascending unknowns, with those of factors
abbrev pub with_factors : List ℕ → List (ℕ × ℤ) → List ℕ
with_factors unknowns factors = fold (λ known factor. insert_key nat_cmp known factor.0) unknowns factors

-- all unknowns of rows, ascending
abbrev pub unknowns_of : List Row → List ℕ
unknowns_of rows = fold (λ known row. with_factors known (entries row.factors)) [] rows

-- no factor of a row is 0, as `Factors` keeps it
abbrev pub HasNoZero : Row → Type 0
HasNoZero row = All (λ factor. factor.1 ≢ pos 0) (entries row.factors)
