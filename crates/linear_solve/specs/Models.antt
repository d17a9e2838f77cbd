-- The model of an elimination that went on: going back, each unknown's value from those of the later ones.
use Rattle.std.specs.Prelude.{ℕ, ◌==◌, List, [], ◌∷◌, filter, find, Option, Some, None, Result, Ok, Err, unwrap_or}
use Rattle.std.specs.Prelude.{ℤ, pos, int_lt, Bool, if◌then◌else◌}
use Rattle.std.specs.Option.{option_map_or}
use Rattle.std.specs.FinMap.{entries}
use Rattle.linear_solve.specs.declared.derived.Derived.{Derived}
use Rattle.linear_solve.specs.declared.step.Step.{Step}
use Rattle.linear_solve.specs.declared.limit.Limit.{Limit}
use Rattle.linear_solve.specs.declared.fraction.Fraction.{Fraction}
use Rattle.linear_solve.specs.declared.model.UnknownValue.{UnknownValue}
use Rattle.linear_solve.specs.declared.model.Side.{Side}
use Rattle.linear_solve.specs.declared.model.Side.TheVariants.{Lower, Upper}
use Rattle.linear_solve.specs.Derived.{factor_of}
use Rattle.linear_solve.specs.Fractions.{whole, product_of, sum_of, root_of, is_below, narrow}
use Rattle.linear_solve.specs.Levels.{is_equation}

-- what comes next, unless a limit is passed
abbrev pub and_then : {X Y : Type 0} → Result X Limit → (X → Result Y Limit) → Result Y Limit
and_then (Ok value) next = next value
and_then (Err limit) next = Err limit

-- the value of an unknown, 0 where it has none
abbrev pub value_of : List UnknownValue → ℕ → Fraction
value_of values unknown =
    option_map_or (λ found. found.value) (find (λ entry. entry.unknown == unknown) values) (whole (pos 0))

-- a factor's product with its unknown's value
abbrev pub product_at : List UnknownValue → ℕ × ℤ → Result Fraction Limit
product_at values factor = narrow (product_of factor.1 (value_of values factor.0))

-- that product, added to a sum
abbrev pub plus_product : List UnknownValue → Fraction → ℕ × ℤ → Result Fraction Limit
plus_product values sum factor = and_then (product_at values factor) (λ product. narrow (sum_of sum product))

-- the products of factors, added to a sum in order
abbrev pub plus_products : List UnknownValue → Fraction → List (ℕ × ℤ) → Result Fraction Limit
plus_products values sum [] = Ok sum
plus_products values sum (factor ∷ more) =
    and_then (plus_product values sum factor) (λ next. plus_products values next more)

-- a row's sum at these values
abbrev pub sum_at : List UnknownValue → Derived → Result Fraction Limit
sum_at values derived = plus_products values (whole derived.row.constant) (entries derived.row.factors)

-- the bound that a row sets to an unknown which has no value yet
abbrev pub bound_of : List UnknownValue → ℕ → Derived → Result Fraction Limit
bound_of values unknown derived =
    and_then (sum_at values derived) (λ rest. narrow (root_of (factor_of unknown derived) rest))

-- a row with a positive factor sets a lower bound, one with a negative factor an upper bound
abbrev pub sets_bound : Side → ℕ → Derived → Bool
sets_bound Lower unknown derived = int_lt (pos 0) (factor_of unknown derived)
sets_bound Upper unknown derived = int_lt (factor_of unknown derived) (pos 0)

-- a lower bound is better where it is greater, an upper bound where it is less
abbrev pub is_better : Side → Fraction → Fraction → Bool
is_better Lower bound best = is_below best bound
is_better Upper bound best = is_below bound best

-- the better one of a bound, if there is one, and another
abbrev pub better_of : Side → Option Fraction → Fraction → Fraction
better_of side None bound = bound
better_of side (Some best) bound = if is_better side bound best then bound else best

-- the best one of a bound, if there is one, and of those that rows set
abbrev pub best_of : Side → List UnknownValue → ℕ → Option Fraction → List Derived → Result (Option Fraction) Limit
best_of side values unknown best [] = Ok best
best_of side values unknown best (derived ∷ more) =
    and_then (bound_of values unknown derived)
    (λ bound. best_of side values unknown (Some (better_of side best bound)) more)

-- the greatest lower bound that rows set, or the least upper bound
abbrev pub best_bound : Side → List UnknownValue → ℕ → List Derived → Result (Option Fraction) Limit
best_bound side values unknown rows = best_of side values unknown None (filter (sets_bound side unknown) rows)

-- the greatest lower bound, else the least upper bound, else 0
abbrev pub else_least : List UnknownValue → ℕ → List Derived → Option Fraction → Result Fraction Limit
else_least values unknown rows (Some greatest) = Ok greatest
else_least values unknown rows None =
    and_then (best_bound Upper values unknown rows) (λ least. Ok (unwrap_or least (whole (pos 0))))

-- where an equation is the first among the rows, what it says of the unknown; else a bound
abbrev pub value_by : List UnknownValue → ℕ → List Derived → Option Derived → Result Fraction Limit
value_by values unknown rows (Some equation) = bound_of values unknown equation
value_by values unknown rows None =
    and_then (best_bound Lower values unknown rows) (else_least values unknown rows)

-- the value of the unknown that a step eliminated
abbrev pub step_value : List UnknownValue → Step → Result Fraction Limit
step_value values step = value_by values step.unknown step.rows (find is_equation step.rows)

-- the unknowns' values, in the order of the steps; the last step's is found first
abbrev pub values_of : List Step → Result (List UnknownValue) Limit
values_of [] = Ok []
values_of (step ∷ more) =
    and_then (values_of more)
    (λ values. and_then (step_value values step)
    (λ value. Ok (record { unknown = step.unknown; value = value } ∷ values)))
