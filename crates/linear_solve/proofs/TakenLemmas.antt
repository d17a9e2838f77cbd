-- Rows taken one by one: what is taken so far, and what the rest then comes to.
use Rattle.std.proofs.Common.{◌≡◌, List, [], ◌∷◌, fold, map, filter, length, get_or, drop, ℕ, ◌+◌, ◌<◌}
use Rattle.std.proofs.Common.{Option, MatchOption, ◌-◌, zero, suc, position, subst, Some, None, take, find, slice_get, ◌++◌, add-one, arith}
use Rattle.std.proofs.Common.{Bool, true, false, cond, refl, sym, ap, ◌∙◌}
use Rattle.std.specs.List.{flat_map, position_from}
use Rattle.std.proofs.lemmas.List.{at_drop_more, map-append, take_rest}
use Rattle.std.proofs.lemmas.Iterator.Adapters.{position_from-zero}
use Rattle.std.proofs.lemmas.List.Sums.{fold-append}
use Rattle.linear_solve.specs.declared.derived.Derived.{Derived}
use Rattle.linear_solve.specs.declared.limit.Limit.{Limit}
use Rattle.linear_solve.specs.declared.limit.Limit.TheVariants as limits
use Rattle.linear_solve.specs.declared.limit.SolveRefusal.{SolveRefusal}
use Rattle.linear_solve.specs.declared.limit.SolveRefusal.TheVariants as refusals
use Rattle.linear_solve.specs.Limits.{is_wide_row, OnLimit}
use Rattle.linear_certs.specs.declared.row.Row.{Row}
use Rattle.linear_solve.specs.Derived.{given, cleared}
use Rattle.linear_solve.specs.Levels.{Taken, passed, failing, kept, taken, numbered, is_equation}
use Rattle.linear_solve.specs.Levels.{without_first_equation, formed, cleared_by, pairs}

pub fold-failing : (d : Derived) (rows : List Derived) → fold taken (failing d) rows ≡ failing d
fold-failing d [] = refl
fold-failing d (row ∷ rows) = fold-failing d rows

pub fold-passed : (l : Limit) (rows : List Derived) → fold taken (passed l) rows ≡ passed l
fold-passed l [] = refl
fold-passed l (row ∷ rows) = fold-passed l rows

-- where the next row fails, or passes a limit, so does the whole
pub run_failing : (state : Taken) (row : Derived) (rest : List Derived) (total : Taken) (d : Derived)
    → fold taken state (row ∷ rest) ≡ total → taken state row ≡ failing d → total ≡ failing d
run_failing state row rest total d is fails =
    sym is ∙ ap (λ s. fold taken s rest) fails ∙ fold-failing d rest

pub run_passed : (state : Taken) (row : Derived) (rest : List Derived) (total : Taken) (l : Limit)
    → fold taken state (row ∷ rest) ≡ total → taken state row ≡ passed l → total ≡ passed l
run_passed state row rest total l is passes =
    sym is ∙ ap (λ s. fold taken s rest) passes ∙ fold-passed l rest

pub OnLimit-weaker : (r : SolveRefusal) (P Q : Limit → Type 0) → ((l : Limit) → P l → Q l) → OnLimit r P → OnLimit r Q
OnLimit-weaker (refusals.Limit l) P Q more h = more l h
OnLimit-weaker refusals.NoMemory P Q more h = tt

-- a wide row passes the limit at once
pub wide_passes : (rows : List Derived) (count : ℕ) (d : Derived) → is_wide_row d.row ≡ true
    → taken (kept rows count) d ≡ passed limits.Width
wide_passes rows count d wide = rw wide refl

-- ---- the same in a loop over rows from which rows are formed

pub formed_failing : (form : Derived → Derived) (state : Taken) (rows : List Derived) (i : ℕ) (d : Derived)
    (total : Taken) (row : Derived) (f : Derived)
    → i < length rows → fold taken state (map form (drop i rows)) ≡ total → row ≡ form (get_or rows i d)
    → taken state row ≡ failing f → total ≡ failing f
formed_failing form state rows i d total row f within is is_row fails =
    run_failing state (form (get_or rows i d)) (map form (drop (i + 1) rows)) total f
    (sym (at_drop_more (λ l. fold taken state (map form l)) rows i d within) ∙ is)
    (ap (taken state) (sym is_row) ∙ fails)

pub formed_passed : (form : Derived → Derived) (state : Taken) (rows : List Derived) (i : ℕ) (d : Derived)
    (total : Taken) (row : Derived) (l : Limit)
    → i < length rows → fold taken state (map form (drop i rows)) ≡ total → row ≡ form (get_or rows i d)
    → taken state row ≡ passed l → total ≡ passed l
formed_passed form state rows i d total row l within is is_row passes =
    run_passed state (form (get_or rows i d)) (map form (drop (i + 1) rows)) total l
    (sym (at_drop_more (λ l. fold taken state (map form l)) rows i d within) ∙ is)
    (ap (taken state) (sym is_row) ∙ passes)

-- over those that pass a test
tested : (test : Derived → Bool) (form : Derived → Derived) (state : Taken) (rows : List Derived) (i : ℕ) (d : Derived)
    → i < length rows → test (get_or rows i d) ≡ true
    → fold taken state (map form (filter test (drop i rows)))
    ≡ fold taken (taken state (form (get_or rows i d))) (map form (filter test (drop (i + 1) rows)))
tested test form state rows i d within test_is =
    at_drop_more (λ l. fold taken state (map form (filter test l))) rows i d within
    ∙ ap (λ b. fold taken state (map form (cond b (get_or rows i d ∷ filter test (drop (i + 1) rows))
    (filter test (drop (i + 1) rows))))) test_is

pub tested_step : (test : Derived → Bool) (form : Derived → Derived) (state next : Taken) (rows : List Derived) (i : ℕ)
    (d : Derived) (total : Taken) (row : Derived)
    → i < length rows → test (get_or rows i d) ≡ true
    → fold taken state (map form (filter test (drop i rows))) ≡ total → row ≡ form (get_or rows i d)
    → taken state row ≡ next → fold taken next (map form (filter test (drop (i + 1) rows))) ≡ total
tested_step test form state next rows i d total row within test_is is is_row is_next =
    ap (λ s. fold taken s (map form (filter test (drop (i + 1) rows)))) (sym is_next ∙ ap (taken state) is_row)
    ∙ sym (tested test form state rows i d within test_is) ∙ is

pub tested_skip : (test : Derived → Bool) (form : Derived → Derived) (state : Taken) (rows : List Derived) (i : ℕ)
    (d : Derived) (total : Taken)
    → i < length rows → test (get_or rows i d) ≡ false
    → fold taken state (map form (filter test (drop i rows))) ≡ total
    → fold taken state (map form (filter test (drop (i + 1) rows))) ≡ total
tested_skip test form state rows i d total within off is =
    sym (at_drop_more (λ l. fold taken state (map form (filter test l))) rows i d within
    ∙ ap (λ b. fold taken state (map form (cond b (get_or rows i d ∷ filter test (drop (i + 1) rows))
    (filter test (drop (i + 1) rows))))) off) ∙ is

pub tested_failing : (test : Derived → Bool) (form : Derived → Derived) (state : Taken) (rows : List Derived) (i : ℕ)
    (d : Derived) (total : Taken) (row f : Derived)
    → i < length rows → test (get_or rows i d) ≡ true
    → fold taken state (map form (filter test (drop i rows))) ≡ total → row ≡ form (get_or rows i d)
    → taken state row ≡ failing f → total ≡ failing f
tested_failing test form state rows i d total row f within test_is is is_row fails =
    sym (tested_step test form state (failing f) rows i d total row within test_is is is_row fails)
    ∙ fold-failing f (map form (filter test (drop (i + 1) rows)))

pub tested_passed : (test : Derived → Bool) (form : Derived → Derived) (state : Taken) (rows : List Derived) (i : ℕ)
    (d : Derived) (total : Taken) (row : Derived) (l : Limit)
    → i < length rows → test (get_or rows i d) ≡ true
    → fold taken state (map form (filter test (drop i rows))) ≡ total → row ≡ form (get_or rows i d)
    → taken state row ≡ passed l → total ≡ passed l
tested_passed test form state rows i d total row l within test_is is is_row passes =
    sym (tested_step test form state (passed l) rows i d total row within test_is is is_row passes)
    ∙ fold-passed l (map form (filter test (drop (i + 1) rows)))

-- over rows each of which forms several, those that pass a test
grouped : (test : Derived → Bool) (group : Derived → List Derived) (state : Taken) (rows : List Derived) (i : ℕ)
    (d : Derived) → i < length rows → test (get_or rows i d) ≡ true
    → fold taken state (flat_map group (filter test (drop i rows)))
    ≡ fold taken (fold taken state (group (get_or rows i d))) (flat_map group (filter test (drop (i + 1) rows)))
grouped test group state rows i d within test_is =
    at_drop_more (λ l. fold taken state (flat_map group (filter test l))) rows i d within
    ∙ ap (λ b. fold taken state (flat_map group (cond b (get_or rows i d ∷ filter test (drop (i + 1) rows))
    (filter test (drop (i + 1) rows))))) test_is
    ∙ fold-append taken state (group (get_or rows i d)) (flat_map group (filter test (drop (i + 1) rows)))

pub grouped_step : (test : Derived → Bool) (group : Derived → List Derived) (state next : Taken) (rows : List Derived)
    (i : ℕ) (d : Derived) (total : Taken)
    → i < length rows → test (get_or rows i d) ≡ true
    → fold taken state (flat_map group (filter test (drop i rows))) ≡ total
    → fold taken state (group (get_or rows i d)) ≡ next
    → fold taken next (flat_map group (filter test (drop (i + 1) rows))) ≡ total
grouped_step test group state next rows i d total within test_is is is_next =
    ap (λ s. fold taken s (flat_map group (filter test (drop (i + 1) rows)))) (sym is_next)
    ∙ sym (grouped test group state rows i d within test_is) ∙ is

pub grouped_skip : (test : Derived → Bool) (group : Derived → List Derived) (state : Taken) (rows : List Derived)
    (i : ℕ) (d : Derived) (total : Taken)
    → i < length rows → test (get_or rows i d) ≡ false
    → fold taken state (flat_map group (filter test (drop i rows))) ≡ total
    → fold taken state (flat_map group (filter test (drop (i + 1) rows))) ≡ total
grouped_skip test group state rows i d total within off is =
    sym (at_drop_more (λ l. fold taken state (flat_map group (filter test l))) rows i d within
    ∙ ap (λ b. fold taken state (flat_map group (cond b (get_or rows i d ∷ filter test (drop (i + 1) rows))
    (filter test (drop (i + 1) rows))))) off) ∙ is

pub grouped_failing : (test : Derived → Bool) (group : Derived → List Derived) (state : Taken) (rows : List Derived)
    (i : ℕ) (d : Derived) (total : Taken) (f : Derived)
    → i < length rows → test (get_or rows i d) ≡ true
    → fold taken state (flat_map group (filter test (drop i rows))) ≡ total
    → fold taken state (group (get_or rows i d)) ≡ failing f → total ≡ failing f
grouped_failing test group state rows i d total f within test_is is fails =
    sym (grouped_step test group state (failing f) rows i d total within test_is is fails)
    ∙ fold-failing f (flat_map group (filter test (drop (i + 1) rows)))

pub grouped_passed : (test : Derived → Bool) (group : Derived → List Derived) (state : Taken) (rows : List Derived)
    (i : ℕ) (d : Derived) (total : Taken) (l : Limit)
    → i < length rows → test (get_or rows i d) ≡ true
    → fold taken state (flat_map group (filter test (drop i rows))) ≡ total
    → fold taken state (group (get_or rows i d)) ≡ passed l → total ≡ passed l
grouped_passed test group state rows i d total l within test_is is passes =
    sym (grouped_step test group state (passed l) rows i d total within test_is is passes)
    ∙ fold-passed l (flat_map group (filter test (drop (i + 1) rows)))

-- ---- given rows

pub given_turn : (state : Taken) (n : ℕ) (rows : List Row) (i : ℕ) (d row : Row) (total : Taken)
    → i < length rows → fold taken state (numbered n (drop i rows)) ≡ total → row ≡ get_or rows i d
    → fold taken state (given n row ∷ numbered (n + 1) (drop (i + 1) rows)) ≡ total
given_turn state n rows i d row total within is is_row =
    ap (λ r. fold taken state (given n r ∷ numbered (n + 1) (drop (i + 1) rows))) is_row
    ∙ sym (at_drop_more (λ (l : List Row). fold taken state (numbered n l)) rows i d within) ∙ is

-- ---- the first equation

-- what stands at the place where the first equation is
pub record IsFirstEquation (rows : List Derived) (at : ℕ) : Type 0 where
  pub within : at < length rows
  pub found : find is_equation rows ≡ slice_get rows at
  pub others : without_first_equation rows ≡ take at rows ++ drop (at + 1) rows

later_place : (row : Derived) (rows : List Derived) (k : ℕ) → row ∷ (take k rows ++ drop (k + 1) rows)
    ≡ take (suc k) (row ∷ rows) ++ drop (suc k + 1) (row ∷ rows)
later_place row rows k =
    ap (λ j. row ∷ (take k rows ++ drop j rows)) (add-one k)
    ∙ ap (λ j. row ∷ (take k rows ++ drop j (row ∷ rows))) (sym (add-one (suc k)))

place_from : (rows : List Derived) (n at : ℕ) → position_from is_equation n rows ≡ Some at
    → (k : ℕ) × (at ≡ n + k) × IsFirstEquation rows k
place_from [] n at is = absurd (cc)
place_from (row ∷ rows) n at is =
    elim (is_equation row) as (λ b. is_equation row ≡ b
    → cond b (Some n) (position_from is_equation (n + 1) rows) ≡ Some at
    → (k : ℕ) × (at ≡ n + k) × IsFirstEquation (row ∷ rows) k) [
      | true ↦ λ test e.
          let same : n ≡ at = cc in (
            0,
            omega arith,
            record {
              within = omega arith;
              found = ap (λ b. cond b (Some row) (find is_equation rows)) test;
              others = ap (λ b. cond b rows (row ∷ without_first_equation rows)) test;
            },
          )
      | false ↦ λ test e.
          let rest = place_from rows (n + 1) at e in
          let inside = rest.2.within in (
            suc rest.0,
            omega (arith, rest.1),
            record {
              within = omega arith;
              found = ap (λ b. cond b (Some row) (find is_equation rows)) test ∙ rest.2.found;
              others =
                  ap (λ b. cond b rows (row ∷ without_first_equation rows)) test
                  ∙ ap (λ l. row ∷ l) rest.2.others ∙ later_place row rows rest.0;
            },
          )
    ] refl is

no_place : (rows : List Derived) (n : ℕ) → position_from is_equation n rows ≡ None → find is_equation rows ≡ None
no_place [] n is = refl
no_place (row ∷ rows) n is =
    elim (is_equation row) as (λ b. cond b (Some n) (position_from is_equation (n + 1) rows) ≡ None
    → cond b (Some row) (find is_equation rows) ≡ None) [
      | true ↦ λ e. absurd (cc)
      | false ↦ λ e. no_place rows (n + 1) e
    ] is

pub first_equation_at : (rows : List Derived) (at : ℕ) → position is_equation rows ≡ Some at → IsFirstEquation rows at
first_equation_at rows at is =
    let place = place_from rows 0 at (sym (position_from-zero is_equation rows) ∙ is) in
    let same : place.0 ≡ at = omega (arith, place.1) in
    subst (IsFirstEquation rows) same place.2

pub without_equation : (u : ℕ) (rows : List Derived) → position is_equation rows ≡ None → formed u rows ≡ pairs u rows
without_equation u rows is =
    rw (no_place rows 0 (sym (position_from-zero is_equation rows) ∙ is)) refl

-- the rows that an equation forms: those before it, then those after it
pub with_equation : (u : ℕ) (rows : List Derived) (state : Taken) (at : ℕ) (equation : Derived)
    → position is_equation rows ≡ Some at → equation ≡ get_or rows at equation
    → fold taken state (formed u rows)
    ≡ fold taken (fold taken state (cleared_by u equation (take at rows)))
    (cleared_by u equation (take (length rows - (at + 1)) (drop (at + 1) rows)))
with_equation u rows state at equation is is_equation_here =
    let place = first_equation_at rows at is in
    let found : find is_equation rows ≡ Some equation =
    place.found ∙ slice_get_at rows at equation place.within ∙ ap Some (sym is_equation_here) in
    rw (found, place.others, map-append (λ row. cleared u row equation) (take at rows) (drop (at + 1) rows))
    (fold-append taken state (cleared_by u equation (take at rows)) (cleared_by u equation (drop (at + 1) rows))
    ∙ ap (λ l. fold taken (fold taken state (cleared_by u equation (take at rows))) (cleared_by u equation l))
    (sym (take_rest rows (at + 1))))
  where
    slice_get_at : (rows : List Derived) (at : ℕ) (d : Derived) → at < length rows
        → slice_get rows at ≡ Some (get_or rows at d)
    slice_get_at [] at d within = absurd (omega arith)
    slice_get_at (row ∷ rows) zero d within = refl
    slice_get_at (row ∷ rows) (suc at) d within = slice_get_at rows at d (omega arith)

pub MatchOption-weaker : {X P P' : Type 0} {Q Q' : X → Type 0} (o : Option X) → (P → P') → ((x : X) → Q x → Q' x)
    → MatchOption o P Q → MatchOption o P' Q'
MatchOption-weaker None none some h = none h
MatchOption-weaker (Some x) none some h = some x h
