-- A model's sums and bounds, one row or factor more.
use Rattle.std.proofs.Common.{◌≡◌, ℕ, ◌+◌, ◌<◌, ◌≤◌, List, [], ◌∷◌, length, get_or, drop, filter, cond, Bool, true, false}
use Rattle.std.proofs.Common.{zero, ◌-◌, suc, Option, Some, Result, Ok, Err, ℤ, sym, ap, ◌∙◌, arith}
use Rattle.std.proofs.lemmas.List.{at_drop_more, drop_all}
use Rattle.linear_solve.specs.declared.derived.Derived.{Derived}
use Rattle.linear_solve.specs.declared.step.Step.{Step}
use Rattle.linear_solve.specs.declared.limit.Limit.{Limit}
use Rattle.linear_solve.specs.declared.fraction.Fraction.{Fraction}
use Rattle.linear_solve.specs.declared.model.UnknownValue.{UnknownValue}
use Rattle.linear_solve.specs.declared.model.Side.{Side}
use Rattle.linear_solve.specs.Models.{and_then, plus_product, plus_products, bound_of, sets_bound, better_of, best_of}
use Rattle.linear_solve.specs.Models.{step_value, values_of}

pub then_ok : {X Y : Type 0} (r : Result X Limit) (next : X → Result Y Limit) (x : X) → r ≡ Ok x
    → and_then r next ≡ next x
then_ok r next x is = ap (λ r. and_then r next) is

pub then_limit : {X Y : Type 0} (r : Result X Limit) (next : X → Result Y Limit) (l : Limit) → r ≡ Err l
    → and_then r next ≡ Err l
then_limit r next l is = ap (λ r. and_then r next) is

pub products_next : (values : List UnknownValue) (sum next : Fraction) (factors : List (ℕ × ℤ)) (i : ℕ) (d : ℕ × ℤ)
    (factor : ℕ × ℤ) (total : Result Fraction Limit) → i < length factors
    → plus_products values sum (drop i factors) ≡ total → factor ≡ get_or factors i d
    → plus_product values sum factor ≡ Ok next → plus_products values next (drop (i + 1) factors) ≡ total
products_next values sum next factors i d factor total within is is_factor is_next =
    sym (then_ok (plus_product values sum (get_or factors i d)) (λ s. plus_products values s (drop (i + 1) factors)) next
    (ap (plus_product values sum) (sym is_factor) ∙ is_next))
    ∙ sym (at_drop_more (plus_products values sum) factors i d within) ∙ is

pub products_limit : (values : List UnknownValue) (sum : Fraction) (factors : List (ℕ × ℤ)) (i : ℕ) (d : ℕ × ℤ)
    (factor : ℕ × ℤ) (total : Result Fraction Limit) (l : Limit) → i < length factors
    → plus_products values sum (drop i factors) ≡ total → factor ≡ get_or factors i d
    → plus_product values sum factor ≡ Err l → total ≡ Err l
products_limit values sum factors i d factor total l within is is_factor passes =
    sym is ∙ at_drop_more (plus_products values sum) factors i d within
    ∙ then_limit (plus_product values sum (get_or factors i d)) (λ s. plus_products values s (drop (i + 1) factors)) l
    (ap (plus_product values sum) (sym is_factor) ∙ passes)

-- the best bound, over those rows that set one
abbrev pub best_from : Side → List UnknownValue → ℕ → Option Fraction → List Derived → Result (Option Fraction) Limit
best_from side values unknown best rows = best_of side values unknown best (filter (sets_bound side unknown) rows)

best_split : (side : Side) (values : List UnknownValue) (unknown : ℕ) (best : Option Fraction) (rows : List Derived)
    (i : ℕ) (d : Derived) (b : Bool) → i < length rows → sets_bound side unknown (get_or rows i d) ≡ b
    → best_from side values unknown best (drop i rows)
    ≡ best_of side values unknown best (cond b (get_or rows i d ∷ filter (sets_bound side unknown) (drop (i + 1) rows))
    (filter (sets_bound side unknown) (drop (i + 1) rows)))
best_split side values unknown best rows i d b within sets =
    at_drop_more (best_from side values unknown best) rows i d within
    ∙ ap (λ b. best_of side values unknown best (cond b (get_or rows i d ∷ filter (sets_bound side unknown) (drop (i + 1) rows))
    (filter (sets_bound side unknown) (drop (i + 1) rows)))) sets

pub best_skip : (side : Side) (values : List UnknownValue) (unknown : ℕ) (best : Option Fraction) (rows : List Derived)
    (i : ℕ) (d : Derived) (total : Result (Option Fraction) Limit) → i < length rows
    → sets_bound side unknown (get_or rows i d) ≡ false → best_from side values unknown best (drop i rows) ≡ total
    → best_from side values unknown best (drop (i + 1) rows) ≡ total
best_skip side values unknown best rows i d total within off is =
    sym (best_split side values unknown best rows i d false within off) ∙ is

pub best_next : (side : Side) (values : List UnknownValue) (unknown : ℕ) (best : Option Fraction) (rows : List Derived)
    (i : ℕ) (d : Derived) (bound better : Fraction) (total : Result (Option Fraction) Limit) → i < length rows
    → sets_bound side unknown (get_or rows i d) ≡ true → best_from side values unknown best (drop i rows) ≡ total
    → bound_of values unknown (get_or rows i d) ≡ Ok bound → better ≡ better_of side best bound
    → best_from side values unknown (Some better) (drop (i + 1) rows) ≡ total
best_next side values unknown best rows i d bound better total within sets is is_bound is_better =
    ap (λ b. best_from side values unknown (Some b) (drop (i + 1) rows)) is_better
    ∙ sym (then_ok (bound_of values unknown (get_or rows i d))
    (λ bound. best_from side values unknown (Some (better_of side best bound)) (drop (i + 1) rows)) bound is_bound)
    ∙ sym (best_split side values unknown best rows i d true within sets) ∙ is

pub best_limit : (side : Side) (values : List UnknownValue) (unknown : ℕ) (best : Option Fraction) (rows : List Derived)
    (i : ℕ) (d : Derived) (total : Result (Option Fraction) Limit) (l : Limit) → i < length rows
    → sets_bound side unknown (get_or rows i d) ≡ true → best_from side values unknown best (drop i rows) ≡ total
    → bound_of values unknown (get_or rows i d) ≡ Err l → total ≡ Err l
best_limit side values unknown best rows i d total l within sets is passes =
    sym is ∙ best_split side values unknown best rows i d true within sets
    ∙ then_limit (bound_of values unknown (get_or rows i d))
    (λ bound. best_from side values unknown (Some (better_of side best bound)) (drop (i + 1) rows)) l passes

-- the values of the steps from one on
abbrev with_value : Step → List UnknownValue → Result (List UnknownValue) Limit
with_value step values =
    and_then (step_value values step) (λ value. Ok (record { unknown = step.unknown; value = value } ∷ values))

values_from : (steps : List Step) (i : ℕ) (d : Step) (values : List UnknownValue) → i < length steps
    → values_of (drop (i + 1) steps) ≡ Ok values → values_of (drop i steps) ≡ with_value (get_or steps i d) values
values_from steps i d values within is =
    at_drop_more values_of steps i d within
    ∙ then_ok (values_of (drop (i + 1) steps)) (with_value (get_or steps i d)) values is

one_back : (steps : List Step) (left : ℕ) (values : List UnknownValue) → 0 < left
    → values_of (drop left steps) ≡ Ok values → values_of (drop (left - 1 + 1) steps) ≡ Ok values
one_back steps left values some is =
    let same : left - 1 + 1 ≡ left = omega arith in ap (λ k. values_of (drop k steps)) same ∙ is

pub values_next : (steps : List Step) (left : ℕ) (d step : Step) (values : List UnknownValue) (value : Fraction)
    → 0 < left → left ≤ length steps → values_of (drop left steps) ≡ Ok values → step ≡ get_or steps (left - 1) d
    → step_value values step ≡ Ok value
    → values_of (drop (left - 1) steps) ≡ Ok (record { unknown = step.unknown; value = value } ∷ values)
values_next steps left d step values value some within is is_step is_value =
    values_from steps (left - 1) d values (omega arith) (one_back steps left values some is)
    ∙ ap (λ s. with_value s values) (sym is_step)
    ∙ then_ok (step_value values step) _ value is_value

limit_nil : (i : ℕ) (l : Limit) → values_of (drop i []) ≡ Err l → values_of [] ≡ Err l
limit_nil i l is = ap values_of (sym (drop_all {X = Step} i [] (omega arith))) ∙ is

-- a limit on the way is the whole's
pub values_limit : (steps : List Step) (i : ℕ) (l : Limit) → values_of (drop i steps) ≡ Err l → values_of steps ≡ Err l
values_limit [] i l is = limit_nil i l is
values_limit (step ∷ steps) zero l is = is
values_limit (step ∷ steps) (suc i) l is =
    then_limit (values_of steps) (with_value step) l (values_limit steps i l is)

pub step_limit : (steps : List Step) (left : ℕ) (d step : Step) (values : List UnknownValue) (l : Limit)
    → 0 < left → left ≤ length steps → values_of (drop left steps) ≡ Ok values → step ≡ get_or steps (left - 1) d
    → step_value values step ≡ Err l → values_of steps ≡ Err l
step_limit steps left d step values l some within is is_step passes =
    values_limit steps (left - 1) l
    (values_from steps (left - 1) d values (omega arith) (one_back steps left values some is)
    ∙ ap (λ s. with_value s values) (sym is_step)
    ∙ then_limit (step_value values step) _ l passes)
