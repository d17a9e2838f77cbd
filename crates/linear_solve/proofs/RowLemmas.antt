-- Rows made factor by factor.
use Rattle.std.proofs.Common.{◌≡◌, ◌≢◌, ℕ, zero, suc, ◌+◌, ◌<◌, ◌≤◌, Bool, true, false, T, IsTrue, not, ◌||◌, List, [], ◌∷◌, ◌++◌}
use Rattle.std.proofs.Common.{length, get_or, take, ℤ, pos, int_div, cond, refl, sym, ap, ◌∙◌, arith}
use Rattle.std.specs.List.{list_any}
use Rattle.std.specs.Ordering.{nat_cmp, int_eq}
use Rattle.std.specs.FinMap.{FinMap, empty, insert, entries, from_sorted, is_sorted, entries_sorted, same_entries_map}
use Rattle.std.proofs.lemmas.List.{take_more, take_all}
use Rattle.std.proofs.lemmas.List.Folds.{list_any-append}
use Rattle.linear_solve.specs.Numbers.{quotients}
use Rattle.linear_certs.specs.declared.row.RowKind.{RowKind}
use Rattle.linear_solve.specs.declared.limit.Limit.TheVariants as limits
use Rattle.linear_solve.specs.declared.limit.SolveRefusal.{SolveRefusal}
use Rattle.linear_solve.specs.Derived.{row_of_sums}
use Rattle.linear_solve.specs.Limits.{is_wide, is_wide_row, OnLimit, PassesWidth}
use Rattle.linear_solve.proofs.TakenLemmas.{OnLimit-weaker}
use Rattle.linear_solve.proofs.NumberLemmas.{entries-empty, entries-insert_last, below_next, quotients-take, no_from_apart}
use Rattle.linear_solve.proofs.NumberLemmas.{quotient_step, from_entries_list, entries-quotients}

pub copy_step : (old new : FinMap nat_cmp ℤ) (es : List (ℕ × ℤ)) (i k : ℕ) (v : ℤ) (d : ℕ × ℤ)
    → T (is_sorted nat_cmp es) → i < length es → entries old ≡ take i es
    → k ≡ (get_or es i d).0 → v ≡ (get_or es i d).1 → new ≡ insert old k v → entries new ≡ take (i + 1) es
copy_step old new es i k v d sorted within is is_key is_value is_new =
    let below = below_next es sorted i d within in
    ap entries is_new
    ∙ entries-insert_last old k v (rw (is_key, is) below)
    ∙ ap (λ l. l ++ (k, v) ∷ []) is
    ∙ ap (λ l. take i es ++ l) (λ j. (is_key j, is_value j) ∷ [])
    ∙ sym (take_more es i d within)

pub copy_end : (copy original : FinMap nat_cmp ℤ) (es : List (ℕ × ℤ)) (i : ℕ) → entries copy ≡ take i es
    → es ≡ entries original → length es ≤ i → copy ≡ original
copy_end copy original es i is is_es all =
    same_entries_map copy original (is ∙ take_all i es all ∙ is_es)

-- whether one of the quotients is wide
abbrev pub have_wide : List (ℕ × ℤ) → Bool
have_wide es = list_any (λ factor. is_wide factor.1) es

-- the quotients of the first few sums, none of them wide
pub record IsPartialRow (factors : FinMap nat_cmp ℤ) (divisor : ℤ) (es : List (ℕ × ℤ)) (i : ℕ) : Type 0 where
  pub made : entries factors ≡ quotients divisor (take i es)
  pub narrow : have_wide (quotients divisor (take i es)) ≡ false

or_cond : (b : Bool) (e : ℕ × ℤ) (rest : List (ℕ × ℤ)) → have_wide rest ≡ true → have_wide (cond b (e ∷ rest) rest) ≡ true
or_cond true e rest wide = or_true (is_wide e.1) (have_wide rest) wide
  where
    or_true : (a b : Bool) → b ≡ true → a || b ≡ true
    or_true true b e = refl
    or_true false b e = e
or_cond false e rest wide = wide

wide_zero : (q : ℤ) → is_wide q ≡ true → q ≢ pos 0
wide_zero q wide is = let clash : true ≡ false = sym wide ∙ ap is_wide is in cc

-- a wide quotient is among them all
pub wide_inside : (divisor : ℤ) (es : List (ℕ × ℤ)) (i : ℕ) (d : ℕ × ℤ) → i < length es
    → is_wide (int_div (get_or es i d).1 divisor) ≡ true → have_wide (quotients divisor es) ≡ true
wide_inside divisor [] i d within wide = absurd (omega arith)
wide_inside divisor (e ∷ es) zero d within wide =
    let kept = no_from_apart (int_div e.1 divisor) (pos 0) (wide_zero _ wide) in
    ap (λ b. have_wide (cond (not b) ((e.0, int_div e.1 divisor) ∷ quotients divisor es) (quotients divisor es))) kept
    ∙ ap (λ b. b || have_wide (quotients divisor es)) wide
wide_inside divisor (e ∷ es) (suc i) d within wide =
    or_cond (not (int_eq (int_div e.1 divisor) (pos 0))) (e.0, int_div e.1 divisor) (quotients divisor es)
    (wide_inside divisor es i d (omega arith) wide)

alone_narrow : (b : Bool) (e : ℕ × ℤ) → is_wide e.1 ≡ false → have_wide (cond b (e ∷ []) []) ≡ false
alone_narrow true e narrow = ap (λ b. b || false) narrow
alone_narrow false e narrow = refl

pub partial_step : (old new : FinMap nat_cmp ℤ) (divisor : ℤ) (es : List (ℕ × ℤ)) (i k : ℕ) (q : ℤ) (d : ℕ × ℤ)
    → T (is_sorted nat_cmp es) → i < length es → IsPartialRow old divisor es i
    → k ≡ (get_or es i d).0 → q ≡ int_div (get_or es i d).1 divisor → is_wide q ≡ false
    → (q ≢ pos 0 → new ≡ insert old k q) → (q ≡ pos 0 → new ≡ old)
    → IsPartialRow new divisor es (i + 1)
partial_step old new divisor es i k q d sorted within is is_key is_quotient narrow kept dropped =
    record {
      made = quotient_step old new divisor es i k q d sorted within is.made is_key is_quotient kept dropped;
      narrow =
          ap have_wide (quotients-take divisor es i d within)
          ∙ list_any-append (λ factor. is_wide factor.1) (quotients divisor (take i es)) _
          ∙ ap (λ b. b || have_wide (quotients divisor (get_or es i d ∷ []))) is.narrow
          ∙ alone_narrow (not (int_eq (int_div (get_or es i d).1 divisor) (pos 0)))
          ((get_or es i d).0, int_div (get_or es i d).1 divisor)
          (ap is_wide (sym is_quotient) ∙ narrow);
    }

pub partial_start : (factors : FinMap nat_cmp ℤ) (divisor : ℤ) (es : List (ℕ × ℤ)) → factors ≡ empty
    → IsPartialRow factors divisor es 0
partial_start factors divisor es is = record { made = ap entries is ∙ entries-empty; narrow = refl }

-- ---- what a row of sums has

pub row_made : (factors : FinMap nat_cmp ℤ) (divisor : ℤ) (es all : List (ℕ × ℤ)) (i : ℕ)
    → IsPartialRow factors divisor es i → length es ≤ i → es ≡ all
    → factors ≡ from_sorted (quotients divisor all)
row_made factors divisor es all i is whole same =
    from_entries_list factors _ (is.made ∙ ap (quotients divisor) (take_all i es whole ∙ same))

pub row_narrow : (kind : RowKind) (constant : ℤ) (factors : FinMap nat_cmp ℤ) (divisor : ℤ) (es : List (ℕ × ℤ))
    (sums : FinMap nat_cmp ℤ) (i : ℕ)
    → IsPartialRow factors divisor es i → length es ≤ i → es ≡ entries sums
    → is_wide (int_div constant divisor) ≡ false → is_wide_row (row_of_sums kind constant (entries sums) divisor) ≡ false
row_narrow kind constant factors divisor es sums i is whole same narrow =
    ap (λ l. is_wide (int_div constant divisor) || have_wide l) (entries-quotients divisor (entries sums) (entries_sorted sums))
    ∙ ap (λ b. b || have_wide (quotients divisor (entries sums))) narrow
    ∙ ap (λ l. have_wide (quotients divisor l)) (sym (take_all i es whole ∙ same)) ∙ is.narrow

or_right : (a b : Bool) → b ≡ true → a || b ≡ true
or_right true b e = refl
or_right false b e = e

pub row_wide : (kind : RowKind) (constant divisor : ℤ) (es : List (ℕ × ℤ)) (sums : FinMap nat_cmp ℤ) (i : ℕ) (d : ℕ × ℤ)
    (e : SolveRefusal) → i < length es → es ≡ entries sums
    → OnLimit e (λ limit. (limit ≡ limits.Width) × IsTrue (is_wide (int_div (get_or es i d).1 divisor)))
    → OnLimit e (PassesWidth (row_of_sums kind constant (entries sums) divisor))
row_wide kind constant divisor es sums i d e within same wide =
    OnLimit-weaker e _ _
    (λ l h. (
      h.0,
      ap (λ l. is_wide (int_div constant divisor) || have_wide l)
          (entries-quotients divisor (entries sums) (entries_sorted sums))
          ∙ or_right _ _ (ap (λ l. have_wide (quotients divisor l)) (sym same) ∙ wide_inside divisor es i d within h.1),
    )) wide
