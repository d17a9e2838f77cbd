-- When evaluating each form of term passes the width.
use Rattle.std.proofs.Common.{◌≡◌, ℕ, Bool, false, not, ◌||◌, cond, List, [], ◌∷◌, map, refl, ap, ◌∙◌, sym, ℤ}
use Rattle.std.specs.List.{list_any}
use Rattle.rc_terms.specs.declared.term.Term.{Term}
use Rattle.rc_terms.specs.declared.term.Term.TheOpen.{Term-F}
use Rattle.rc_terms.specs.declared.term.Term.TheFolds.{para-roll-Term}
use Rattle.rc_terms.specs.declared.term.Term.TheVariants as terms
use Rattle.rc_terms.specs.declared.operator.UnaryOperator.{UnaryOperator}
use Rattle.rc_terms.specs.declared.operator.BinaryOperator.{BinaryOperator}
use Rattle.rc_terms.specs.Operators.{truth_of, unary, binary, is_within}
use Rattle.rc_terms.specs.Evaluation.{Environment, value_of, passes_width, width_step}

module _ (env : Environment) where
  pub width-Variable : (name : List ℕ) → passes_width env (terms.Variable name) ≡ false
  width-Variable name =
      ap (passes_width env) (sym (terms.rolls-Variable name)) ∙ para-roll-Term Bool (width_step env) (Term-F.Variable name)

  pub width-Integer : (number : ℤ) → passes_width env (terms.Integer number) ≡ false
  width-Integer number =
      ap (passes_width env) (sym (terms.rolls-Integer number)) ∙ para-roll-Term Bool (width_step env) (Term-F.Integer number)

  pub width-Truth : (truth : Bool) → passes_width env (terms.Truth truth) ≡ false
  width-Truth truth =
      ap (passes_width env) (sym (terms.rolls-Truth truth)) ∙ para-roll-Term Bool (width_step env) (Term-F.Truth truth)

  pub width-Null : passes_width env terms.Null ≡ false
  width-Null = ap (passes_width env) (sym terms.rolls-Null) ∙ para-roll-Term Bool (width_step env) Term-F.Null

  any_of : (elements : List Term)
      → list_any (λ (element : Term × Bool). element.1) (map (λ element. (element, passes_width env element)) elements) ≡ list_any (passes_width env) elements
  any_of [] = refl
  any_of (element ∷ elements) = ap (λ b. passes_width env element || b) (any_of elements)

  pub width-List : (elements : List Term) → passes_width env (terms.List elements) ≡ list_any (passes_width env) elements
  width-List elements =
      ap (passes_width env) (sym (terms.rolls-List elements)) ∙ para-roll-Term Bool (width_step env) (Term-F.List elements)
      ∙ any_of elements

  pub width-Unary : (operator : UnaryOperator) (operand : Term)
      → passes_width env (terms.Unary operator operand)
      ≡ (passes_width env operand || not (is_within (unary operator (value_of env operand))))
  width-Unary operator operand =
      ap (passes_width env) (sym (terms.rolls-Unary operator operand))
      ∙ para-roll-Term Bool (width_step env) (Term-F.Unary operator operand)

  pub width-Binary : (operator : BinaryOperator) (left right : Term)
      → passes_width env (terms.Binary operator left right)
      ≡ (passes_width env left || passes_width env right || not (is_within (binary operator (value_of env left) (value_of env right))))
  width-Binary operator left right =
      ap (passes_width env) (sym (terms.rolls-Binary operator left right))
      ∙ para-roll-Term Bool (width_step env) (Term-F.Binary operator left right)

  pub width-Conditional : (test then otherwise : Term)
      → passes_width env (terms.Conditional test then otherwise)
      ≡ (passes_width env test || cond (truth_of (value_of env test)) (passes_width env then) (passes_width env otherwise))
  width-Conditional test then otherwise =
      ap (passes_width env) (sym (terms.rolls-Conditional test then otherwise))
      ∙ para-roll-Term Bool (width_step env) (Term-F.Conditional test then otherwise)

  pub width-Update : (list index number : Term)
      → passes_width env (terms.Update list index number)
      ≡ (passes_width env list || passes_width env index || passes_width env number)
  width-Update list index number =
      ap (passes_width env) (sym (terms.rolls-Update list index number))
      ∙ para-roll-Term Bool (width_step env) (Term-F.Update list index number)

-- each of them
pub ruleset widths = (width-Variable, width-Integer, width-Truth, width-Null, width-List, width-Unary, width-Binary, width-Conditional, width-Update)
