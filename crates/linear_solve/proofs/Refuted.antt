-- What fails in an elimination is a sum of given rows with the right signs.
use Rattle.std.proofs.Common.{◌≡◌, ℕ, zero, suc, negsuc, ◌+◌, Bool, true, false, not, ◌⊎◌, inl, inr, List, [], ◌∷◌, ◌++◌}
use Rattle.std.proofs.Common.{filter, find, fold, Option, Some, None, Result, Ok, Err, slice_get, cond, if◌then◌else◌}
use Rattle.std.proofs.Common.{ℤ, pos, ◌<ℤ◌, int_lt, nat_le, refl, sym, ap, ◌∙◌, subst, arith}
use Rattle.std.specs.List.{flat_map, list_any}
use Rattle.std.specs.Ordering.{int_eq}
use Rattle.std.specs.FinMap.{entries}
use Rattle.std.proofs.Common.{T, length, append_assoc}
use Rattle.std.proofs.lemmas.List.{length_push}
use Rattle.std.proofs.lemmas.Int.{ints}
use Rattle.linear_certs.specs.declared.row.Row.{Row}
use Rattle.linear_certs.specs.declared.row.RowKind.{RowKind}
use Rattle.linear_certs.specs.declared.row.RowKind.TheVariants.{Inequality, Equation}
use Rattle.linear_solve.specs.declared.derived.Derived.{Derived}
use Rattle.linear_solve.specs.declared.step.Step.{Step}
use Rattle.linear_solve.specs.declared.step.Eliminated.{Eliminated}
use Rattle.linear_solve.specs.declared.step.Eliminated.TheVariants as outcomes
use Rattle.linear_solve.specs.declared.limit.Limit.{Limit}
use Rattle.linear_solve.specs.Derived.{factor_of, has_unknown, own_multiple, other_multiple, cleared}
use Rattle.linear_solve.specs.Limits.{is_wide_row, row_limit}
use Rattle.linear_solve.specs.Levels.{Taken, passed, failing, kept, taken, taken_counted, says_truly, is_equation, is_equation_kind, same_row}
use Rattle.linear_solve.specs.Levels.{without_first_equation, cleared_by, paired, formed, formed_by, positive_rows}
use Rattle.linear_solve.specs.Levels.{negative_rows, rows_with, rows_without, next_level, numbered, first_level}
use Rattle.linear_solve.specs.Levels.{after_step, elimination}
use Rattle.linear_solve.proofs.Sums.{IsSum}
use Rattle.linear_solve.proofs.Soundness.{combined_sum, given_sum}
use Rattle.linear_solve.proofs.Signs.{HasSigns, combined_signs, given_signs}

-- the row is a sum of given ones, with the right signs
pub record IsGood (rows : List Row) (d : Derived) : Type 0 where
  pub sum : IsSum rows d
  pub signs : HasSigns rows d

-- the row has no unknowns, and fails
pub record Fails (d : Derived) : Type 0 where
  pub none : entries d.row.factors ≡ []
  pub untrue : says_truly d.row.kind d.row.constant ≡ false

abbrev AreGood : List Row → List Derived → Type 0
AreGood rows [] = Unit {0}
AreGood rows (d ∷ ds) = IsGood rows d × AreGood rows ds

-- what has been taken is good
abbrev GoodSoFar : List Row → Taken → Type 0
GoodSoFar rows (passed l) = Unit {0}
GoodSoFar rows (failing d) = IsGood rows d × Fails d
GoodSoFar rows (kept ds count) = AreGood rows ds

append_good : (rows : List Row) (ds : List Derived) (d : Derived) → AreGood rows ds → IsGood rows d
    → AreGood rows (ds ++ d ∷ [])
append_good rows [] d all good = (good, tt)
append_good rows (first ∷ ds) d all good = (all.0, append_good rows ds d all.1 good)

good_if : (rows : List Row) (b : Bool) (s t : Taken) → (b ≡ true → GoodSoFar rows s) → (b ≡ false → GoodSoFar rows t)
    → GoodSoFar rows (if b then s else t)
good_if rows true s t first second = first refl
good_if rows false s t first second = second refl

counted_good : (rows : List Row) (ds : List Derived) (count : ℕ) (d : Derived) (es : List (ℕ × ℤ))
    → entries d.row.factors ≡ es → AreGood rows ds → IsGood rows d
    → GoodSoFar rows (taken_counted ds count d es)
counted_good rows ds count d [] is all good =
    good_if rows (says_truly d.row.kind d.row.constant) (kept ds count) (failing d)
    (λ _. all) (λ untrue. (good, record { none = is; untrue = untrue }))
counted_good rows ds count d (e ∷ es) is all good =
    good_if rows (list_any (λ other. same_row other.row d.row) ds) (kept ds count) (kept (ds ++ d ∷ []) count)
    (λ _. all) (λ _. append_good rows ds d all good)

taken_good : (rows : List Row) (t : Taken) (d : Derived) → GoodSoFar rows t → IsGood rows d → GoodSoFar rows (taken t d)
taken_good rows (passed l) d so_far good = tt
taken_good rows (failing f) d so_far good = so_far
taken_good rows (kept ds count) d so_far good =
    good_if rows (is_wide_row d.row) _ _ (λ _. tt)
    (λ _. good_if rows (nat_le row_limit count) _ _ (λ _. tt)
    (λ _. counted_good rows ds (count + 1) d (entries d.row.factors) refl so_far good))

fold_good : (rows : List Row) (t : Taken) (ds : List Derived) → GoodSoFar rows t → AreGood rows ds
    → GoodSoFar rows (fold taken t ds)
fold_good rows t [] so_far all = so_far
fold_good rows t (d ∷ ds) so_far all = fold_good rows (taken t d) ds (taken_good rows t d so_far all.0) all.1

-- ---- what is formed is good

-- a property of each row
abbrev pub Each : (Derived → Type 0) → List Derived → Type 0
Each P [] = Unit {0}
Each P (d ∷ ds) = P d × Each P ds

pub each_kept : (P : Derived → Type 0) (b : Bool) (d : Derived) (ds : List Derived) → (b ≡ true → P d) → Each P ds
    → Each P (cond b (d ∷ ds) ds)
each_kept P true d ds here rest = (here refl, rest)
each_kept P false d ds here rest = rest

good_filter : (rows : List Row) (test : Derived → Bool) (ds : List Derived) → AreGood rows ds
    → Each (λ d. IsGood rows d × (test d ≡ true)) (filter test ds)
good_filter rows test [] all = tt
good_filter rows test (d ∷ ds) all =
    each_kept (λ d. IsGood rows d × (test d ≡ true)) (test d) d (filter test ds) (λ passes. (all.0, passes))
    (good_filter rows test ds all.1)

just_good : (rows : List Row) (test : Derived → Bool) (ds : List Derived)
    → Each (λ d. IsGood rows d × (test d ≡ true)) ds → AreGood rows ds
just_good rows test [] all = tt
just_good rows test (d ∷ ds) all = (all.0.0, just_good rows test ds all.1)

pub positive_own : (f : ℤ) → int_eq f (pos 0) ≡ false → pos 0 <ℤ own_multiple f
positive_own (pos zero) apart = absurd (cc)
positive_own (pos (suc n)) apart = omega (arith, ints)
positive_own (negsuc n) apart = omega (arith, ints)

pub not_true : (b : Bool) → not b ≡ true → b ≡ false
not_true true e = absurd (cc)
not_true false e = refl

-- a row cleared by another that has the unknown
cleared_good : (rows : List Row) (u : ℕ) (left right : Derived) → IsGood rows left → IsGood rows right
    → has_unknown u right ≡ true
    → (right.row.kind ≡ Equation)
    ⊎ ((left.row.kind ≡ Inequality) × (pos 0 <ℤ other_multiple (factor_of u right) (factor_of u left)))
    → IsGood rows (cleared u left right)
cleared_good rows u left right left_good right_good has case =
    let by = own_multiple (factor_of u right) in
    let times = other_multiple (factor_of u right) (factor_of u left) in
    record {
      sum = combined_sum rows by left times right left_good.sum right_good.sum;
      signs = combined_signs rows by left times right (positive_own (factor_of u right) (not_true _ has))
          left_good.sum.positive right_good.sum.positive case left_good.signs right_good.signs;
    }

pub both : (P Q : Derived → Type 0) (ds : List Derived) → Each P ds → Each Q ds → Each (λ d. P d × Q d) ds
both P Q [] all_p all_q = tt
both P Q (d ∷ ds) all_p all_q = ((all_p.0, all_q.0), both P Q ds all_p.1 all_q.1)

-- by an equation
pub found_each : (P : Derived → Type 0) (ds : List Derived) (e : Derived) → find is_equation ds ≡ Some e → Each P ds
    → P e × (is_equation e ≡ true)
found_each P [] e is all = absurd (cc)
found_each P (d ∷ ds) e is all =
    elim (is_equation d) as (λ b. is_equation d ≡ b → cond b (Some d) (find is_equation ds) ≡ Some e
    → P e × (is_equation e ≡ true)) [
      | true ↦ λ test found.
          let same : d ≡ e = cc in (subst P same all.0, ap is_equation (sym same) ∙ test)
      | false ↦ λ _ found. found_each P ds e found all.1
    ] refl is

pub others_each : (P : Derived → Type 0) (ds : List Derived) → Each P ds → Each P (without_first_equation ds)
others_each P [] all = tt
others_each P (d ∷ ds) all = others_if (is_equation d) (others_each P ds all.1)
  where
    others_if : (b : Bool) → Each P (without_first_equation ds) → Each P (if b then ds else d ∷ without_first_equation ds)
    others_if true rest = all.1
    others_if false rest = (all.0, rest)

pub equation_kind : (d : Derived) → is_equation d ≡ true → d.row.kind ≡ Equation
equation_kind d is = by_kind d.row.kind is
  where
    by_kind : (k : RowKind) → is_equation_kind k ≡ true → k ≡ Equation
    by_kind Inequality e = absurd (cc)
    by_kind Equation e = refl

pub inequality_kind : (d : Derived) → is_equation d ≡ false → d.row.kind ≡ Inequality
inequality_kind d is = by_kind d.row.kind is
  where
    by_kind : (k : RowKind) → is_equation_kind k ≡ false → k ≡ Inequality
    by_kind Inequality e = refl
    by_kind Equation e = absurd (cc)

by_equation_good : (rows : List Row) (u : ℕ) (e : Derived) (ds : List Derived) → IsGood rows e → has_unknown u e ≡ true
    → e.row.kind ≡ Equation → Each (λ d. IsGood rows d × (has_unknown u d ≡ true)) ds
    → AreGood rows (cleared_by u e ds)
by_equation_good rows u e [] good has kind all = tt
by_equation_good rows u e (d ∷ ds) good has kind all =
    (cleared_good rows u d e all.0.0 good has (inl kind), by_equation_good rows u e ds good has kind all.1)

-- by pairs
pub none_each : (ds : List Derived) → find is_equation ds ≡ None → Each (λ d. is_equation d ≡ false) ds
none_each [] is = tt
none_each (d ∷ ds) is =
    elim (is_equation d) as (λ b. is_equation d ≡ b → cond b (Some d) (find is_equation ds) ≡ None
    → (is_equation d ≡ false) × Each (λ d. is_equation d ≡ false) ds) [
      | true ↦ λ test found. absurd (cc)
      | false ↦ λ test found. (test, none_each ds found)
    ] refl is

pub each_filter : (P : Derived → Type 0) (test : Derived → Bool) (ds : List Derived) → Each P ds
    → Each (λ d. P d × (test d ≡ true)) (filter test ds)
each_filter P test [] all = tt
each_filter P test (d ∷ ds) all =
    each_kept (λ d. P d × (test d ≡ true)) (test d) d (filter test ds) (λ passes. (all.0, passes))
    (each_filter P test ds all.1)

-- what is known of each row that is paired
record IsPartner (rows : List Row) (u : ℕ) (d : Derived) : Type 0 where
  good : IsGood rows d
  has : has_unknown u d ≡ true
  kind : d.row.kind ≡ Inequality

other_positive : (f own : ℤ) → int_lt f (pos 0) ≡ true → int_lt (pos 0) own ≡ true → pos 0 <ℤ other_multiple f own
other_positive f own below above = rw below (record { lt = subst T (sym above) tt })

paired_good : (rows : List Row) (u : ℕ) (d : Derived) (ds : List Derived) → IsPartner rows u d
    → int_lt (pos 0) (factor_of u d) ≡ true
    → Each (λ d. IsPartner rows u d × (int_lt (factor_of u d) (pos 0) ≡ true)) ds → AreGood rows (paired u d ds)
paired_good rows u d [] partner above all = tt
paired_good rows u d (other ∷ ds) partner above all = (
  cleared_good rows u d other partner.good all.0.0.good all.0.0.has
      (inr (partner.kind, other_positive (factor_of u other) (factor_of u d) all.0.1 above)),
  paired_good rows u d ds partner above all.1,
)

good_append : (rows : List Row) (xs ys : List Derived) → AreGood rows xs → AreGood rows ys → AreGood rows (xs ++ ys)
good_append rows [] ys first second = second
good_append rows (x ∷ xs) ys first second = (first.0, good_append rows xs ys first.1 second)

pairs_good : (rows : List Row) (u : ℕ) (negative positive : List Derived)
    → Each (λ d. IsPartner rows u d × (int_lt (factor_of u d) (pos 0) ≡ true)) negative
    → Each (λ d. IsPartner rows u d × (int_lt (pos 0) (factor_of u d) ≡ true)) positive
    → AreGood rows (flat_map (λ row. paired u row negative) positive)
pairs_good rows u negative [] below above = tt
pairs_good rows u negative (d ∷ ds) below above =
    good_append rows (paired u d negative) (flat_map (λ row. paired u row negative) ds)
    (paired_good rows u d negative above.0.0 above.0.1 below) (pairs_good rows u negative ds below above.1)

partners : (rows : List Row) (u : ℕ) (ds : List Derived) → Each (λ d. IsGood rows d × (has_unknown u d ≡ true)) ds
    → Each (λ d. is_equation d ≡ false) ds → Each (IsPartner rows u) ds
partners rows u [] all none = tt
partners rows u (d ∷ ds) all none = (
  record { good = all.0.0; has = all.0.1; kind = inequality_kind d none.0 },
  partners rows u ds all.1 none.1,
)

formed_good : (rows : List Row) (u : ℕ) (ds : List Derived) → Each (λ d. IsGood rows d × (has_unknown u d ≡ true)) ds
    → AreGood rows (formed u ds)
formed_good rows u ds all = by_find (find is_equation ds) refl
  where
    by_find : (o : Option Derived) → find is_equation ds ≡ o → AreGood rows (formed_by u ds o)
    by_find (Some e) is =
        let found = found_each (λ d. IsGood rows d × (has_unknown u d ≡ true)) ds e is all in
        by_equation_good rows u e (without_first_equation ds) found.0.0 found.0.1 (equation_kind e found.1)
        (others_each (λ d. IsGood rows d × (has_unknown u d ≡ true)) ds all)
    by_find None is =
        let each = partners rows u ds all (none_each ds is) in
        pairs_good rows u (negative_rows u ds) (positive_rows u ds)
        (each_filter (IsPartner rows u) (λ d. int_lt (factor_of u d) (pos 0)) ds each)
        (each_filter (IsPartner rows u) (λ d. int_lt (pos 0) (factor_of u d)) ds each)

-- ---- the whole elimination

next_good : (rows : List Row) (u : ℕ) (ds : List Derived) (count : ℕ) → AreGood rows ds
    → GoodSoFar rows (next_level u ds count)
next_good rows u ds count all =
    fold_good rows (kept (rows_without u ds) count) (formed u (rows_with u ds))
    (just_good rows _ (rows_without u ds) (good_filter rows (λ d. not (has_unknown u d)) ds all))
    (formed_good rows u (rows_with u ds) (good_filter rows (has_unknown u) ds all))

refuted_after : (step : Step) (rest : Result Eliminated Limit) (f : Derived)
    → after_step step rest ≡ Ok (outcomes.Refuted f) → rest ≡ Ok (outcomes.Refuted f)
refuted_after step (Err l) f is = absurd (cc)
refuted_after step (Ok (outcomes.Refuted d)) f is = is
refuted_after step (Ok (outcomes.Steps steps)) f is = absurd (cc)

elimination_good : (rows : List Row) (us : List ℕ) (t : Taken) (f : Derived) → GoodSoFar rows t
    → elimination us t ≡ Ok (outcomes.Refuted f) → IsGood rows f × Fails f
elimination_good rows us (passed l) f so_far is = absurd (cc)
elimination_good rows us (failing d) f so_far is =
    let same : d ≡ f = cc in subst (λ d. IsGood rows d × Fails d) same so_far
elimination_good rows [] (kept ds count) f so_far is = absurd (cc)
elimination_good rows (u ∷ us) (kept ds count) f so_far is =
    elimination_good rows us (next_level u ds count) f (next_good rows u ds count so_far)
    (refuted_after _ (elimination us (next_level u ds count)) f is)

numbered_good : (rows before after : List Row) (n : ℕ) → length before ≡ n → before ++ after ≡ rows
    → AreGood rows (numbered n after)
numbered_good rows before [] n at whole = tt
numbered_good rows before (row ∷ after) n at whole =
    let here : slice_get rows n ≡ Some row = ap (λ l. slice_get l n) (sym whole) ∙ slice_get-at before row after n at in (
      record { sum = given_sum rows n row here; signs = given_signs rows n row here },
      numbered_good rows (before ++ row ∷ []) after (n + 1) (length_push before row ∙ ap (λ k. k + 1) at)
          (append_assoc before (row ∷ []) after ∙ whole),
    )
  where
    slice_get-at : (before : List Row) (row : Row) (after : List Row) (n : ℕ) → length before ≡ n
        → slice_get (before ++ row ∷ after) n ≡ Some row
    slice_get-at [] row after zero at = refl
    slice_get-at [] row after (suc n) at = absurd (omega arith)
    slice_get-at (b ∷ before) row after zero at = absurd (omega arith)
    slice_get-at (b ∷ before) row after (suc n) at = slice_get-at before row after n (omega arith)

pub refuted_good : (rows : List Row) (us : List ℕ) (f : Derived)
    → elimination us (first_level rows) ≡ Ok (outcomes.Refuted f) → IsGood rows f × Fails f
refuted_good rows us f is =
    elimination_good rows us (first_level rows) f
    (fold_good rows (kept [] 0) (numbered 0 rows) tt (numbered_good rows [] rows 0 refl refl)) is
