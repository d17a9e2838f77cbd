-- The steps of an elimination that went on.
use Rattle.std.proofs.Common.{◌≡◌, List, [], ◌∷◌, ◌++◌, ℕ, ◌+◌, ◌<◌, ◌≤◌, length, get_or, drop, fold, Result, Ok, Err, refl, sym, ap, ◌∙◌}
use Rattle.linear_solve.specs.declared.derived.Derived.{Derived}
use Rattle.linear_solve.specs.declared.limit.Limit.{Limit}
use Rattle.linear_solve.specs.declared.step.Step.{Step}
use Rattle.linear_solve.specs.declared.step.Eliminated.{Eliminated}
use Rattle.linear_solve.specs.declared.step.Eliminated.TheVariants as outcomes
use Rattle.std.proofs.lemmas.List.{at_drop_more, drop_all}
use Rattle.linear_solve.specs.Levels.{Taken, passed, failing, kept, taken, formed, rows_with, rows_without}
use Rattle.linear_solve.specs.Levels.{after_step, elimination}

-- steps before those of an elimination that went on
abbrev pub after_steps : List Step → Result Eliminated Limit → Result Eliminated Limit
after_steps [] rest = rest
after_steps (step ∷ steps) rest = after_step step (after_steps steps rest)

pub after_steps-push : (steps : List Step) (step : Step) (rest : Result Eliminated Limit)
    → after_steps (steps ++ step ∷ []) rest ≡ after_steps steps (after_step step rest)
after_steps-push [] step rest = refl
after_steps-push (first ∷ steps) step rest = ap (after_step first) (after_steps-push steps step rest)

pub after_steps-limit : (steps : List Step) (l : Limit) → after_steps steps (Err l) ≡ Err l
after_steps-limit [] l = refl
after_steps-limit (step ∷ steps) l = ap (after_step step) (after_steps-limit steps l)

pub after_steps-refuted : (steps : List Step) (d : Derived)
    → after_steps steps (Ok (outcomes.Refuted d)) ≡ Ok (outcomes.Refuted d)
after_steps-refuted [] d = refl
after_steps-refuted (step ∷ steps) d = ap (after_step step) (after_steps-refuted steps d)

pub after_steps-end : (steps : List Step) → after_steps steps (Ok (outcomes.Steps [])) ≡ Ok (outcomes.Steps steps)
after_steps-end [] = refl
after_steps-end (step ∷ steps) = ap (after_step step) (after_steps-end steps)

-- ---- one unknown more

turn : (steps : List Step) (us : List ℕ) (i d : ℕ) (rows : List Derived) (count : ℕ) (with without : List Derived)
    (total : Result Eliminated Limit) (outcome : Taken)
    → i < length us → after_steps steps (elimination (drop i us) (kept rows count)) ≡ total
    → with ≡ rows_with (get_or us i d) rows → without ≡ rows_without (get_or us i d) rows
    → fold taken (kept without count) (formed (get_or us i d) with) ≡ outcome
    → after_steps steps (after_step (record { unknown = get_or us i d; rows = with })
    (elimination (drop (i + 1) us) outcome)) ≡ total
turn steps us i d rows count with without total outcome within is is_with is_without is_outcome =
    let u = get_or us i d in
    let step : List Derived → Step = λ rows. record { unknown = u; rows = rows } in
    ap (λ l. after_steps steps (after_step (step l) (elimination (drop (i + 1) us) outcome))) is_with
    ∙ ap (λ t. after_steps steps (after_step (step (rows_with u rows)) (elimination (drop (i + 1) us) t)))
    (sym is_outcome ∙ (λ j. fold taken (kept (is_without j) count) (formed u (is_with j))))
    ∙ sym (at_drop_more (λ l. after_steps steps (elimination l (kept rows count))) us i d within) ∙ is

pub limit_turn : (steps : List Step) (us : List ℕ) (i d : ℕ) (rows : List Derived) (count : ℕ)
    (with without : List Derived) (total : Result Eliminated Limit) (l : Limit)
    → i < length us → after_steps steps (elimination (drop i us) (kept rows count)) ≡ total
    → with ≡ rows_with (get_or us i d) rows → without ≡ rows_without (get_or us i d) rows
    → fold taken (kept without count) (formed (get_or us i d) with) ≡ passed l → total ≡ Err l
limit_turn steps us i d rows count with without total l within is is_with is_without passes =
    sym (turn steps us i d rows count with without total (passed l) within is is_with is_without passes)
    ∙ after_steps-limit steps l

pub refuted_turn : (steps : List Step) (us : List ℕ) (i d : ℕ) (rows : List Derived) (count : ℕ)
    (with without : List Derived) (total : Result Eliminated Limit) (f : Derived)
    → i < length us → after_steps steps (elimination (drop i us) (kept rows count)) ≡ total
    → with ≡ rows_with (get_or us i d) rows → without ≡ rows_without (get_or us i d) rows
    → fold taken (kept without count) (formed (get_or us i d) with) ≡ failing f
    → total ≡ Ok (outcomes.Refuted f)
refuted_turn steps us i d rows count with without total f within is is_with is_without fails =
    sym (turn steps us i d rows count with without total (failing f) within is is_with is_without fails)
    ∙ after_steps-refuted steps f

pub step_turn : (steps : List Step) (us : List ℕ) (i d : ℕ) (rows : List Derived) (count : ℕ)
    (with without next : List Derived) (counted : ℕ) (total : Result Eliminated Limit)
    → i < length us → after_steps steps (elimination (drop i us) (kept rows count)) ≡ total
    → with ≡ rows_with (get_or us i d) rows → without ≡ rows_without (get_or us i d) rows
    → fold taken (kept without count) (formed (get_or us i d) with) ≡ kept next counted
    → after_steps (steps ++ record { unknown = get_or us i d; rows = with } ∷ [])
    (elimination (drop (i + 1) us) (kept next counted)) ≡ total
step_turn steps us i d rows count with without next counted total within is is_with is_without goes_on =
    after_steps-push steps (record { unknown = get_or us i d; rows = with }) (elimination (drop (i + 1) us) (kept next counted))
    ∙ turn steps us i d rows count with without total (kept next counted) within is is_with is_without goes_on

pub last_turn : (steps : List Step) (us : List ℕ) (i : ℕ) (rows : List Derived) (count : ℕ)
    (total : Result Eliminated Limit)
    → length us ≤ i → after_steps steps (elimination (drop i us) (kept rows count)) ≡ total
    → total ≡ Ok (outcomes.Steps steps)
last_turn steps us i rows count total past is =
    sym is ∙ ap (λ l. after_steps steps (elimination l (kept rows count))) (drop_all i us past)
    ∙ after_steps-end steps
