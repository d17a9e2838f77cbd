-- What rows come to: closed with a certificate, open with a model, or a limit. And what each answer is worth.
use Rattle.std.specs.Prelude.{ℕ, ◌≡◌, ◌^◌, List, length, Bool, true, false, IsTrue, Result, Ok, Err, All, ◌⊎◌, ⊤}
use Rattle.std.specs.Prelude.{pos, ◌*ℤ◌, ◌<ℤ◌, unsigned_abs, nat_lt, nat_le}
use Rattle.std.specs.List.{list_any}
use Rattle.rc_terms.specs.declared.cert.Cert.{Cert}
use Rattle.linear_certs.specs.declared.row.Row.{Row}
use Rattle.linear_certs.specs.Certificate.{PassesWidth, Fractions, Holds}
use Rattle.linear_solve.specs.declared.step.Eliminated.{Eliminated}
use Rattle.linear_solve.specs.declared.step.Eliminated.TheVariants as outcomes
use Rattle.linear_solve.specs.declared.limit.Limit.{Limit}
use Rattle.linear_solve.specs.declared.limit.Limit.TheVariants as limits
use Rattle.linear_solve.specs.declared.model.UnknownValue.{UnknownValue}
use Rattle.linear_solve.specs.declared.model.Model.{Model}
use Rattle.linear_solve.specs.declared.solution.Solved.{Solved}
use Rattle.linear_solve.specs.declared.solution.Solved.TheVariants.{Closed, Open}
use Rattle.linear_solve.specs.Limits.{column_limit}
use Rattle.linear_solve.specs.Levels.{first_level, elimination}
use Rattle.linear_solve.specs.Failing.{certificate_of}
use Rattle.linear_solve.specs.Models.{value_of, values_of}
use Rattle.linear_solve.specs.Unknowns.{unknowns_of}

-- a multiplier that isn't a signed number of 128 bits
abbrev pub has_long_multiplier : Cert → Bool
has_long_multiplier cert = list_any (λ entry. nat_le (2 ^ 127) (unsigned_abs entry.multiplier)) cert.entries

-- a certificate with a partial sum beyond 2^120, or a multiplier beyond 128 bits, which makes such a sum
abbrev pub IsWideCert : List Row → Cert → Type 0
IsWideCert rows cert = IsTrue (has_long_multiplier cert) ⊎ PassesWidth rows cert

-- a certificate closes the rows, unless it passes the limit on numbers
abbrev pub ClosesBy : List Row → Cert → Result Solved Limit → Type 0
ClosesBy rows cert (Ok solved) = (solved ≡ Closed cert) × (¬ IsWideCert rows cert)
ClosesBy rows cert (Err limit) = (limit ≡ limits.Width) × IsWideCert rows cert

-- values leave the rows open, unless a limit is passed
abbrev pub opened : Result (List UnknownValue) Limit → Result Solved Limit
opened (Ok values) = Ok (Open (record { values = values }))
opened (Err limit) = Err limit

-- the answer that an elimination leads to
abbrev pub LeadsTo : List Row → Result Eliminated Limit → Result Solved Limit → Type 0
LeadsTo rows (Err limit) answer = answer ≡ Err limit
LeadsTo rows (Ok (outcomes.Refuted derived)) answer = ClosesBy rows (certificate_of derived) answer
LeadsTo rows (Ok (outcomes.Steps steps)) answer = answer ≡ opened (values_of steps)

-- the unknowns are counted first
abbrev pub AnswersWithin : List Row → Bool → Result Solved Limit → Type 0
AnswersWithin rows true answer = answer ≡ Err limits.Columns
AnswersWithin rows false answer = LeadsTo rows (elimination (unknowns_of rows) (first_level rows)) answer

-- the answer to rows
abbrev pub Answers : List Row → Result Solved Limit → Type 0
Answers rows answer = AnswersWithin rows (nat_lt column_limit (length (unknowns_of rows))) answer

-- these fractions are the values of a model
pub record AreValues (model : Model) (fractions : Fractions) : Type 0 where
  pub positive : (unknown : ℕ) → pos 0 <ℤ (value_of model.values unknown).denominator
  pub same : (unknown : ℕ) → (value_of model.values unknown).numerator *ℤ pos fractions.denominator
      ≡ fractions.numerator unknown *ℤ (value_of model.values unknown).denominator

-- the model's values meet all rows
pub record MeetsAll (model : Model) (rows : List Row) : Type 0 where
  pub fractions : Fractions
  pub are_values : AreValues model fractions
  pub hold : All (Holds fractions) rows

-- no fractions meet all rows
abbrev pub AreRefuted : List Row → Type 0
AreRefuted rows = (fractions : Fractions) → ¬ All (Holds fractions) rows

-- what is said of the certificate of rows that are closed
abbrev pub OnClosed : Solved → (Cert → Type 0) → Type 0
OnClosed (Closed cert) P = P cert
OnClosed (Open model) P = ⊤

-- what is said of the model of rows that are open
abbrev pub OnOpen : Solved → (Model → Type 0) → Type 0
OnOpen (Closed cert) P = ⊤
OnOpen (Open model) P = P model

-- the rows are closed
abbrev pub IsClosed : Solved → Type 0
IsClosed (Closed cert) = ⊤
IsClosed (Open model) = ⊥
