-- What a term means under an environment (this project's own, after the pure terms of RefinedC, PLDI 2021), on whole
-- numbers without a bound; and when a number on the way leaves 128 bits.
use Rattle.std.specs.Prelude.{◌≡◌, ℕ, Result, Ok, Err, Bool, true, false, not, ◌||◌, List, map, cond, pos, unwrap_or}
use Rattle.std.specs.List.{list_any}
use Rattle.rc_terms.specs.declared.term.Term.{Term}
use Rattle.rc_terms.specs.declared.term.Term.TheOpen.{Term-F}
use Rattle.rc_terms.specs.declared.term.Term.TheFolds.{fold-Term, para-Term}
use Rattle.rc_terms.specs.declared.location.Loc.TheVariants as locations
use Rattle.rc_terms.specs.declared.refusal.TermRefusal.{TermRefusal}
use Rattle.rc_terms.specs.declared.refusal.TermRefusal.TheVariants as refusals
use Rattle.rc_terms.specs.declared.value.TermValue.{TermValue}
use Rattle.rc_terms.specs.declared.value.TermValue.TheVariants as values
use Rattle.rc_terms.specs.Bindings.{binding_of}
use Rattle.rc_terms.specs.Operators.{number_of, truth_of, list_of, unary, binary, updated, is_within}

-- names with their values
abbrev pub Environment : Type 0
Environment = List (List ℕ × TermValue)

-- one node's value, with its parts' values in their place; a name without a value counts as 0
abbrev pub value_step : Environment → Term-F TermValue → TermValue
value_step env (Term-F.Variable name) = unwrap_or (binding_of name env) (values.Integer (pos 0))
value_step env (Term-F.Integer number) = values.Integer number
value_step env (Term-F.Truth truth) = values.Truth truth
value_step env Term-F.Null = values.Location locations.Null
value_step env (Term-F.List elements) = values.List (map number_of elements)
value_step env (Term-F.Unary operator operand) = unary operator operand
value_step env (Term-F.Binary operator left right) = binary operator left right
value_step env (Term-F.Conditional test then otherwise) = cond (truth_of test) then otherwise
value_step env (Term-F.Update list index number) =
    values.List (updated (list_of list) (number_of index) (number_of number))

-- a term's value
abbrev pub value_of : Environment → Term → TermValue
value_of env = fold-Term TermValue (value_step env)

-- whether a number that 128 bits don't hold is formed at a node or in the parts that its value asks: each part comes
-- with whether one is formed in it
abbrev pub width_step : Environment → Term-F (Term × Bool) → Bool
width_step env (Term-F.List elements) = list_any (λ element. element.1) elements
width_step env (Term-F.Unary operator operand) =
    operand.1 || not (is_within (unary operator (value_of env operand.0)))
width_step env (Term-F.Binary operator left right) =
    left.1 || right.1 || not (is_within (binary operator (value_of env left.0) (value_of env right.0)))
width_step env (Term-F.Conditional test then otherwise) =
    test.1 || cond (truth_of (value_of env test.0)) then.1 otherwise.1
width_step env (Term-F.Update list index number) = list.1 || index.1 || number.1
width_step env node = false

-- whether evaluating a term forms a number that 128 bits don't hold; of a conditional term the branch that isn't taken
-- isn't evaluated
abbrev pub passes_width : Environment → Term → Bool
passes_width env = para-Term Bool (width_step env)

-- a call gives this and no number left the 128 bits, says that one did, or finds no memory
abbrev pub Computes : {T : Type 0} → Result T TermRefusal → T → Bool → Type 0
Computes (Ok found) value wide = (found ≡ value) × (wide ≡ false)
Computes (Err refusals.Width) value wide = wide ≡ true
Computes (Err refusals.NoMemory) value wide = Unit {0}
Computes (Err refusals.TermLimit) value wide = ⊥
