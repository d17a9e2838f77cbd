-- What an answer is worth: a certificate is valid, a model meets all rows, and rows are closed where they are refuted.
use Rattle.std.proofs.Common.{◌≡◌, ◌≢◌, ◌↔◌, ℕ, ◌+◌, ◌<◌, Bool, true, false, List, [], ◌∷◌, length}
use Rattle.std.proofs.Common.{Result, Ok, Err, unwrap_or, All, ℤ, pos, negsuc, ◌+ℤ◌, ◌*ℤ◌, ◌<ℤ◌, unsigned_abs, nat_lt}
use Rattle.std.proofs.Common.{refl, sym, ap, ◌∙◌, subst, arith}
use Rattle.std.specs.Result.{IfOk, OnOk}
use Rattle.std.specs.FinMap.{entries, get-entries}
use Rattle.std.proofs.lemmas.Int.{ints}
use Rattle.std.proofs.lemmas.List.Elements.{All-head, All-tail, All-cons, All-nil}
use Rattle.linear_certs.specs.declared.row.Row.{Row}
use Rattle.linear_certs.specs.Certificate.{IsValid, Fractions, numerators_sum, Says, Holds}
use Rattle.linear_certs.proofs.Refutation.{refutes}
use Rattle.linear_solve.specs.declared.step.Step.{Step}
use Rattle.linear_solve.specs.declared.step.Eliminated.{Eliminated}
use Rattle.linear_solve.specs.declared.step.Eliminated.TheVariants as outcomes
use Rattle.linear_solve.specs.declared.limit.Limit.{Limit}
use Rattle.linear_solve.specs.declared.model.UnknownValue.{UnknownValue}
use Rattle.linear_solve.specs.declared.solution.Solved.{Solved}
use Rattle.linear_solve.specs.declared.solution.Solved.TheVariants.{Closed, Open}
use Rattle.linear_solve.specs.Limits.{column_limit}
use Rattle.linear_solve.specs.Levels.{numbered, first_level, elimination}
use Rattle.linear_solve.specs.Models.{value_of, values_of}
use Rattle.linear_solve.specs.Unknowns.{unknowns_of, HasNoZero}
use Rattle.linear_solve.specs.Solutions.{LeadsTo, AnswersWithin, Answers, opened, MeetsAll, AreRefuted}
use Rattle.linear_solve.specs.Solutions.{OnClosed, OnOpen, IsClosed}
use Rattle.linear_solve.proofs.Sums.{weighted_sum}
use Rattle.linear_solve.proofs.Refuted.{Each, refuted_good}
use Rattle.linear_solve.proofs.FailingLemmas.{certificate_valid}
use Rattle.linear_solve.proofs.Completeness.{Met, fold_met}
use Rattle.linear_solve.proofs.Opening.{Outside, IsAbsent, AreNonzero, EachRow, HasOnly, outside_rows}
use Rattle.linear_solve.proofs.Opening.{absent_zero, unknowns_apart, fold_some, goes_on, open_met}

nonzero_all : (es : List (ℕ × ℤ)) → All (λ factor. factor.1 ≢ pos 0) es → AreNonzero es
nonzero_all [] all = tt
nonzero_all (e ∷ es) all =
    (All-head (λ factor. factor.1 ≢ pos 0) e es all, nonzero_all es (All-tail (λ factor. factor.1 ≢ pos 0) e es all))

-- the given rows have only their unknowns
numbered_only : (us : List ℕ) (rows : List Row) (n : ℕ) → All HasNoZero rows
    → ((x : ℕ) → Outside us x → EachRow (λ row. IsAbsent x (entries row.factors)) rows) → Each (HasOnly us) (numbered n rows)
numbered_only us [] n all absent = tt
numbered_only us (row ∷ rows) n all absent = (
  record {
    nonzero = nonzero_all (entries row.factors) (All-head HasNoZero row rows all);
    outside = λ x out. ap (λ o. unwrap_or o (pos 0)) (get-entries row.factors x)
        ∙ absent_zero x (entries row.factors) (absent x out).0;
  },
  numbered_only us rows (n + 1) (All-tail HasNoZero row rows all) (λ x out. (absent x out).1),
)

-- numerators over a positive denominator, as fractions
abbrev fractions_at : (ℕ → ℤ) → (d : ℤ) → pos 0 <ℤ d → Fractions
fractions_at num d positive = record { numerator = num; denominator = unsigned_abs d; positive = abs_above d positive }
  where
    abs_above : (d : ℤ) → pos 0 <ℤ d → 0 < unsigned_abs d
    abs_above (pos n) positive = omega (arith, ints)
    abs_above (negsuc n) positive = absurd (omega (arith, ints))

same_abs : (d : ℤ) → pos 0 <ℤ d → pos (unsigned_abs d) ≡ d
same_abs (pos n) positive = refl
same_abs (negsuc n) positive = absurd (omega (arith, ints))

same_sum : (fr : Fractions) (es : List (ℕ × ℤ)) → numerators_sum fr es ≡ weighted_sum fr.numerator es
same_sum fr [] = refl
same_sum fr (e ∷ es) = ap (λ z. e.1 *ℤ fr.numerator e.0 +ℤ z) (same_sum fr es)

all_hold : (num : ℕ → ℤ) (d : ℤ) (positive : pos 0 <ℤ d) (rows : List Row) (n : ℕ) → Each (Met num d) (numbered n rows)
    → All (Holds (fractions_at num d positive)) rows
all_hold num d positive [] n met = All-nil (Holds (fractions_at num d positive))
all_hold num d positive (row ∷ rows) n met =
    All-cons (Holds (fractions_at num d positive)) row rows
    (subst (Says row.kind)
    (sym (λ i. same_abs d positive i *ℤ row.constant +ℤ same_sum (fractions_at num d positive) (entries row.factors) i)) met.0)
    (all_hold num d positive rows (n + 1) met.1)

model_meets : (rows : List Row) (steps : List Step) (values : List UnknownValue) → All HasNoZero rows
    → elimination (unknowns_of rows) (first_level rows) ≡ Ok (outcomes.Steps steps) → values_of steps ≡ Ok values
    → MeetsAll (record { values = values }) rows
model_meets rows steps values all is is_values =
    let us = unknowns_of rows in
    let level = goes_on us (first_level rows) steps is in
    let only_these = numbered_only us rows 0 all (λ x out. (outside_rows [] rows x out).1) in
    let some = fold_some us [] 0 (numbered 0 rows) level.0 level.1 level.2 tt only_these in
    let met = open_met us level.0 level.1 steps values (unknowns_apart rows) some
    (ap (elimination us) (sym level.2) ∙ is) is_values in
    let given_met = fold_met met.num met.d [] 0 (numbered 0 rows) level.0 level.1 met.positive level.2 met.met in
    record {
      fractions = fractions_at met.num met.d met.positive;
      are_values = record {
        positive = λ x. (met.stand x).positive;
        same = λ x. ap (λ z. (value_of values x).numerator *ℤ z) (same_abs met.d met.positive) ∙ (met.stand x).same;
      };
      hold = all_hold met.num met.d met.positive rows 0 given_met.1;
    }

-- ---- the answers

by_within : (rows : List Row) (answer : Result Solved Limit) (b : Bool) (solved : Solved) → answer ≡ Ok solved
    → AnswersWithin rows b answer → LeadsTo rows (elimination (unknowns_of rows) (first_level rows)) answer
by_within rows answer true solved is answers = absurd (cc)
by_within rows answer false solved is answers = answers

leads : (rows : List Row) (solved : Solved) → Answers rows (Ok solved)
    → LeadsTo rows (elimination (unknowns_of rows) (first_level rows)) (Ok solved)
leads rows solved answers =
    by_within rows (Ok solved) (nat_lt column_limit (length (unknowns_of rows))) solved refl answers

-- what is known of an answer, in either case
abbrev IsWorth : List Row → Solved → Type 0
IsWorth rows (Closed cert) = IsValid rows cert
IsWorth rows (Open model) = MeetsAll model rows

opened_worth : (rows : List Row) (solved : Solved) (r : Result (List UnknownValue) Limit)
    → ((values : List UnknownValue) → r ≡ Ok values → MeetsAll (record { values = values }) rows)
    → Ok solved ≡ opened r → IsWorth rows solved
opened_worth rows solved (Err l) meets is = absurd (cc)
opened_worth rows solved (Ok values) meets is =
    let same : Open (record { values = values }) ≡ solved = cc in subst (IsWorth rows) same (meets values refl)

pub worth : (rows : List Row) (solved : Solved) → All HasNoZero rows → Answers rows (Ok solved) → IsWorth rows solved
worth rows solved all answers =
    by_outcome (elimination (unknowns_of rows) (first_level rows)) refl (leads rows solved answers)
  where
    by_outcome : (outcome : Result Eliminated Limit) → elimination (unknowns_of rows) (first_level rows) ≡ outcome
        → LeadsTo rows outcome (Ok solved) → IsWorth rows solved
    by_outcome (Err l) is answer = absurd (cc)
    by_outcome (Ok (outcomes.Refuted failing)) is answer =
        let good = refuted_good rows (unknowns_of rows) failing is in
        subst (IsWorth rows) (sym answer.0) (certificate_valid rows failing good.0 good.1)
    by_outcome (Ok (outcomes.Steps steps)) is answer =
        opened_worth rows solved (values_of steps) (λ values is_values. model_meets rows steps values all is is_values) answer

pub certificate_worth : (rows : List Row) (solved : Solved) → All HasNoZero rows → Answers rows (Ok solved)
    → OnClosed solved (IsValid rows)
certificate_worth rows (Closed cert) all answers = worth rows (Closed cert) all answers
certificate_worth rows (Open model) all answers = tt

pub model_worth : (rows : List Row) (solved : Solved) → All HasNoZero rows → Answers rows (Ok solved)
    → OnOpen solved (λ model. MeetsAll model rows)
model_worth rows (Closed cert) all answers = tt
model_worth rows (Open model) all answers = worth rows (Open model) all answers

pub closed_exactly : (rows : List Row) (solved : Solved) → All HasNoZero rows → Answers rows (Ok solved)
    → IsClosed solved ↔ AreRefuted rows
closed_exactly rows (Closed cert) all answers =
    (λ _ fractions hold. refutes rows cert fractions (worth rows (Closed cert) all answers) hold, λ _. tt)
closed_exactly rows (Open model) all answers =
    let meets = worth rows (Open model) all answers in (λ closed. absurd closed, λ refuted. refuted meets.fractions meets.hold)

pub both_ok : {X E Q : Type 0} (r : Result X E) (P R : X → Type 0) → IfOk r P → OnOk r Q → ((x : X) → P x → Q → R x) → IfOk r R
both_ok (Ok x) P R first second more = more x first second
both_ok (Err e) P R first second more = tt
