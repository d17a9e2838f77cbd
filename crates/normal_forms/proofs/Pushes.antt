-- What pushing negations makes of each form of node.
use Rattle.std.proofs.Common.{◌≡◌, ℕ, Bool, true, false, not, cond, List, [], ◌∷◌, map, refl, ap, ◌∙◌, sym, subst, ℤ, Result}
use mathlib.Core.Bool.{beq}
use Rattle.std.specs.Result.{IfOk}
use Rattle.rc_terms.specs.declared.term.Term.{Term, roll-Term}
use Rattle.rc_terms.specs.declared.term.Term.TheOpen.{Term-F}
use Rattle.rc_terms.specs.declared.term.Term.TheFolds.{map-Term, para-roll-Term}
use Rattle.rc_terms.specs.declared.term.Term.TheVariants as terms
use Rattle.rc_terms.specs.declared.operator.UnaryOperator.{UnaryOperator}
use Rattle.rc_terms.specs.declared.operator.UnaryOperator.TheVariants as unary
use Rattle.rc_terms.specs.declared.operator.BinaryOperator.{BinaryOperator}
use Rattle.normal_forms.specs.declared.negation.Role.TheVariants as roles
use Rattle.normal_forms.specs.Negation.{signed, turned, Side, role_of, pushed_as, unary_pushed, pushed_step, pushed}

rolled_by : (x : Term-F Term) (negative : Bool)
    → pushed (roll-Term x) negative ≡ pushed_step (map-Term Term Side (λ part. (part, pushed part)) x) negative
rolled_by x negative = ap (λ f. f negative) (para-roll-Term (Bool → Term) pushed_step x)

-- the answer of a call, of what is equal
pub answers : {E : Type 0} (r : Result Term E) (x y : Term) → x ≡ y → IfOk r (λ after. after ≡ x) → IfOk r (λ after. after ≡ y)
answers r x y e h = subst (λ z. IfOk r (λ after. after ≡ z)) e h

kept_elements : (elements : List Term)
    → map (λ (part : Side). part.0) (map (λ (part : Term). (part, pushed part)) elements) ≡ elements
kept_elements [] = refl
kept_elements (element ∷ elements) = ap (λ l. element ∷ l) (kept_elements elements)

module _ (term : Term) (negative : Bool) where
  pub pushed-Variable : (name : List ℕ) → term ≡ terms.Variable name → pushed term negative ≡ signed negative term
  pushed-Variable name is =
      ap (λ t. pushed t negative) (is ∙ sym (terms.rolls-Variable name)) ∙ rolled_by (Term-F.Variable name) negative ∙ ap (signed negative) (sym is)

  pub pushed-Integer : (number : ℤ) → term ≡ terms.Integer number → pushed term negative ≡ signed negative term
  pushed-Integer number is =
      ap (λ t. pushed t negative) (is ∙ sym (terms.rolls-Integer number)) ∙ rolled_by (Term-F.Integer number) negative ∙ ap (signed negative) (sym is)

  pub pushed-Null : term ≡ terms.Null → pushed term negative ≡ signed negative term
  pushed-Null is =
      ap (λ t. pushed t negative) (is ∙ sym terms.rolls-Null) ∙ rolled_by Term-F.Null negative ∙ ap (signed negative) (sym is)

  pub pushed-List : (elements : List Term) → term ≡ terms.List elements → pushed term negative ≡ signed negative term
  pushed-List elements is =
      ap (λ t. pushed t negative) (is ∙ sym (terms.rolls-List elements)) ∙ rolled_by (Term-F.List elements) negative
      ∙ ap (λ l. signed negative (terms.List l)) (kept_elements elements) ∙ ap (signed negative) (sym is)

  pub pushed-Update : (a b c : Term) → term ≡ terms.Update a b c → pushed term negative ≡ signed negative term
  pushed-Update a b c is =
      ap (λ t. pushed t negative) (is ∙ sym (terms.rolls-Update a b c)) ∙ rolled_by (Term-F.Update a b c) negative ∙ ap (signed negative) (sym is)

  pub pushed-Truth : (truth : Bool) → term ≡ terms.Truth truth → pushed term negative ≡ terms.Truth (cond negative (not truth) truth)
  pushed-Truth truth is =
      ap (λ t. pushed t negative) (is ∙ sym (terms.rolls-Truth truth)) ∙ rolled_by (Term-F.Truth truth) negative

  pub pushed-Not : (operator : UnaryOperator) (a : Term) → term ≡ terms.Unary operator a → operator ≡ unary.Not
      → pushed term negative ≡ pushed a (not negative)
  pushed-Not operator a is at =
      ap (λ t. pushed t negative) (is ∙ ap (λ o. terms.Unary o a) at ∙ sym (terms.rolls-Unary unary.Not a)) ∙ rolled_by (Term-F.Unary unary.Not a) negative

  other_unary : (operator : UnaryOperator) (a : Term) → (operator ≡ unary.Not → ⊥)
      → unary_pushed operator (a, pushed a) negative ≡ signed negative (terms.Unary operator a)
  other_unary unary.Not a h = absurd (h refl)
  other_unary unary.Negative a h = refl
  other_unary unary.Length a h = refl
  other_unary unary.Reverse a h = refl

  pub pushed-Unary : (operator : UnaryOperator) (a : Term) → term ≡ terms.Unary operator a → (operator ≡ unary.Not → ⊥)
      → pushed term negative ≡ signed negative term
  pushed-Unary operator a is h =
      ap (λ t. pushed t negative) (is ∙ sym (terms.rolls-Unary operator a)) ∙ rolled_by (Term-F.Unary operator a) negative
      ∙ other_unary operator a h ∙ ap (signed negative) (sym is)

  pub pushed-Binary : (operator : BinaryOperator) (a b : Term) → term ≡ terms.Binary operator a b
      → pushed term negative ≡ pushed_as (role_of operator) operator (a, pushed a) (b, pushed b) negative
  pushed-Binary operator a b is =
      ap (λ t. pushed t negative) (is ∙ sym (terms.rolls-Binary operator a b)) ∙ rolled_by (Term-F.Binary operator a b) negative

  pub pushed-Conditional : (test a b : Term) → term ≡ terms.Conditional test a b
      → pushed term negative ≡ terms.Conditional (pushed test false) (pushed a negative) (pushed b negative)
  pushed-Conditional test a b is =
      ap (λ t. pushed t negative) (is ∙ sym (terms.rolls-Conditional test a b)) ∙ rolled_by (Term-F.Conditional test a b) negative

  pub pushed-Comparison : (operator : BinaryOperator) (a b : Term) → term ≡ terms.Binary operator a b → roles.Comparison ≡ role_of operator
      → pushed term negative ≡ terms.Binary (turned negative operator) a b
  pushed-Comparison operator a b is e =
      pushed-Binary operator a b is ∙ ap (λ r. pushed_as r operator (a, pushed a) (b, pushed b) negative) (sym e)

  pub pushed-Connective : (operator : BinaryOperator) (a b : Term) → term ≡ terms.Binary operator a b → roles.Connective ≡ role_of operator
      → pushed term negative ≡ terms.Binary (turned negative operator) (pushed a negative) (pushed b negative)
  pushed-Connective operator a b is e =
      pushed-Binary operator a b is ∙ ap (λ r. pushed_as r operator (a, pushed a) (b, pushed b) negative) (sym e)

  pub pushed-Implication : (operator : BinaryOperator) (a b : Term) → term ≡ terms.Binary operator a b → roles.Implication ≡ role_of operator
      → pushed term negative ≡ terms.Binary (turned negative operator) (pushed a false) (pushed b negative)
  pushed-Implication operator a b is e =
      pushed-Binary operator a b is ∙ ap (λ r. pushed_as r operator (a, pushed a) (b, pushed b) negative) (sym e)

  pub pushed-Opaque : (operator : BinaryOperator) (a b : Term) → term ≡ terms.Binary operator a b → roles.Opaque ≡ role_of operator
      → pushed term negative ≡ signed negative term
  pushed-Opaque operator a b is e =
      pushed-Binary operator a b is ∙ ap (λ r. pushed_as r operator (a, pushed a) (b, pushed b) negative) (sym e) ∙ ap (signed negative) (sym is)

pub truth_turned : (truth negative : Bool) → not (beq truth negative) ≡ cond negative (not truth) truth
truth_turned true true = refl
truth_turned true false = refl
truth_turned false true = refl
truth_turned false false = refl
