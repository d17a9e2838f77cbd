-- The value of each form of node.
use Rattle.std.proofs.Common.{◌≡◌, Bool, cond, ap, ◌∙◌, sym, ℤ}
use Rattle.rc_terms.specs.declared.term.Term.{Term}
use Rattle.rc_terms.specs.declared.term.Term.TheOpen.{Term-F}
use Rattle.rc_terms.specs.declared.term.Term.TheFolds.{fold-roll-Term}
use Rattle.rc_terms.specs.declared.term.Term.TheVariants as terms
use Rattle.rc_terms.specs.declared.operator.UnaryOperator.{UnaryOperator}
use Rattle.rc_terms.specs.declared.operator.BinaryOperator.{BinaryOperator}
use Rattle.rc_terms.specs.declared.value.TermValue.{TermValue}
use Rattle.rc_terms.specs.declared.value.TermValue.TheVariants as values
use Rattle.rc_terms.specs.Operators.{truth_of, unary, binary}
use Rattle.rc_terms.specs.Evaluation.{Environment, value_of, value_step}

module _ (env : Environment) where
  pub value-Integer : (number : ℤ) → value_of env (terms.Integer number) ≡ values.Integer number
  value-Integer number =
      ap (value_of env) (sym (terms.rolls-Integer number)) ∙ fold-roll-Term TermValue (value_step env) (Term-F.Integer number)

  pub value-Truth : (truth : Bool) → value_of env (terms.Truth truth) ≡ values.Truth truth
  value-Truth truth =
      ap (value_of env) (sym (terms.rolls-Truth truth)) ∙ fold-roll-Term TermValue (value_step env) (Term-F.Truth truth)

  pub value-Unary : (operator : UnaryOperator) (operand : Term)
      → value_of env (terms.Unary operator operand) ≡ unary operator (value_of env operand)
  value-Unary operator operand =
      ap (value_of env) (sym (terms.rolls-Unary operator operand))
      ∙ fold-roll-Term TermValue (value_step env) (Term-F.Unary operator operand)

  pub value-Binary : (operator : BinaryOperator) (left right : Term)
      → value_of env (terms.Binary operator left right) ≡ binary operator (value_of env left) (value_of env right)
  value-Binary operator left right =
      ap (value_of env) (sym (terms.rolls-Binary operator left right))
      ∙ fold-roll-Term TermValue (value_step env) (Term-F.Binary operator left right)

  pub value-Conditional : (test then otherwise : Term)
      → value_of env (terms.Conditional test then otherwise)
      ≡ cond (truth_of (value_of env test)) (value_of env then) (value_of env otherwise)
  value-Conditional test then otherwise =
      ap (value_of env) (sym (terms.rolls-Conditional test then otherwise))
      ∙ fold-roll-Term TermValue (value_step env) (Term-F.Conditional test then otherwise)
