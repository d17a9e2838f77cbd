-- A proposition with its negations pushed inwards holds where the proposition does, and its negation where it doesn't.
use Rattle.std.proofs.Common.{◌≡◌, Bool, true, false, not, ◌&&◌, ◌||◌, cond, List, [], ◌∷◌, map, refl, ap, ◌∙◌, sym, subst, ℤ, pos, negsuc, arith}
use Rattle.std.proofs.lemmas.Bool.Decides.{nat_tests}
use Rattle.std.specs.Prelude.{int_lt, int_le}
use Rattle.rc_terms.specs.declared.term.Term.{Term, roll-Term}
use Rattle.rc_terms.specs.declared.term.Term.TheOpen.{Term-F}
use Rattle.rc_terms.specs.declared.term.Term.TheFolds.{map-Term, para-roll-Term, ind-Term}
use Rattle.rc_terms.specs.declared.term.Term.TheVariants as terms
use Rattle.rc_terms.specs.declared.value.TermValue.{TermValue}
use Rattle.rc_terms.specs.declared.operator.UnaryOperator.{UnaryOperator}
use Rattle.rc_terms.specs.declared.operator.UnaryOperator.TheVariants as unary
use Rattle.rc_terms.specs.declared.operator.BinaryOperator.{BinaryOperator}
use Rattle.rc_terms.specs.declared.operator.BinaryOperator.TheVariants as binary
use Rattle.rc_terms.specs.Operators.{truth_of, number_of, same}
use Rattle.rc_terms.specs.Operators.{binary as binary_value}
use Rattle.rc_terms.specs.Evaluation.{Environment, value_of}
use Rattle.normal_forms.specs.Negation.{signed, opposite, turned, Side, role_of, pushed_as, unary_pushed, pushed_step, pushed}
use Rattle.normal_forms.proofs.Values.{value-Truth, value-Unary, value-Binary, value-Conditional}

-- a truth value, or the other one
abbrev turned_truth : Bool → Bool → Bool
turned_truth negative truth = cond negative (not truth) truth

at_most_is_not_above : (a b : ℤ) → int_le a b ≡ not (int_lt b a)
at_most_is_not_above (pos a) (pos b) = grind (arith, nat_tests)
at_most_is_not_above (pos a) (negsuc b) = refl
at_most_is_not_above (negsuc a) (pos b) = refl
at_most_is_not_above (negsuc a) (negsuc b) = grind (arith, nat_tests)

not_not : (b : Bool) → not (not b) ≡ b
not_not true = refl
not_not false = refl

turned_twice : (negative truth : Bool) → turned_truth (not negative) truth ≡ turned_truth negative (not truth)
turned_twice true truth = sym (not_not truth)
turned_twice false truth = refl

and_turned : (a b : Bool) → (not a || not b) ≡ not (a && b)
and_turned true b = refl
and_turned false b = refl

or_turned : (a b : Bool) → (not a && not b) ≡ not (a || b)
or_turned true b = refl
or_turned false b = refl

implies_turned : (a b : Bool) → (a && not b) ≡ not (not a || b)
implies_turned true b = refl
implies_turned false b = refl

-- what a comparison's value is, of either sign
compared : (operator : BinaryOperator) (a b : TermValue) (negative : Bool)
    → truth_of (binary_value (opposite operator) a b) ≡ not (truth_of (binary_value operator a b))
    → truth_of (binary_value (turned negative operator) a b) ≡ turned_truth negative (truth_of (binary_value operator a b))
compared operator a b true e = e
compared operator a b false e = refl

module _ (env : Environment) where
  abbrev holds : Term → Bool
  holds term = truth_of (value_of env term)

  abbrev Keeps : Term → Type 0
  Keeps term = (negative : Bool) → holds (pushed term negative) ≡ turned_truth negative (holds term)

  abbrev Part : Type 0
  Part = (term : Term) × Keeps term

  abbrev side : Part → Side
  side part = (part.0, pushed part.0)

  signed_holds : (term : Term) (negative : Bool) → holds (signed negative term) ≡ turned_truth negative (holds term)
  signed_holds term true = ap truth_of (value-Unary env unary.Not term)
  signed_holds term false = refl

  comparison : (operator : BinaryOperator) (a b : Term) (negative : Bool)
      → ((v w : TermValue) → truth_of (binary_value (opposite operator) v w) ≡ not (truth_of (binary_value operator v w)))
      → holds (terms.Binary (turned negative operator) a b) ≡ turned_truth negative (holds (terms.Binary operator a b))
  comparison operator a b negative e =
      ap truth_of (value-Binary env (turned negative operator) a b)
      ∙ compared operator (value_of env a) (value_of env b) negative (e (value_of env a) (value_of env b))
      ∙ ap (λ v. turned_truth negative (truth_of v)) (sym (value-Binary env operator a b))

  and_or : (a b : Part) (negative : Bool)
      → holds (terms.Binary (turned negative binary.And) (pushed a.0 negative) (pushed b.0 negative))
      ≡ turned_truth negative (holds (terms.Binary binary.And a.0 b.0))
  and_or a b true =
      ap truth_of (value-Binary env binary.Or (pushed a.0 true) (pushed b.0 true))
      ∙ ap (λ t. t || holds (pushed b.0 true)) (a.1 true) ∙ ap (λ t. not (holds a.0) || t) (b.1 true)
      ∙ and_turned (holds a.0) (holds b.0) ∙ ap (λ v. not (truth_of v)) (sym (value-Binary env binary.And a.0 b.0))
  and_or a b false =
      ap truth_of (value-Binary env binary.And (pushed a.0 false) (pushed b.0 false))
      ∙ ap (λ t. t && holds (pushed b.0 false)) (a.1 false) ∙ ap (λ t. holds a.0 && t) (b.1 false)
      ∙ ap truth_of (sym (value-Binary env binary.And a.0 b.0))

  or_and : (a b : Part) (negative : Bool)
      → holds (terms.Binary (turned negative binary.Or) (pushed a.0 negative) (pushed b.0 negative))
      ≡ turned_truth negative (holds (terms.Binary binary.Or a.0 b.0))
  or_and a b true =
      ap truth_of (value-Binary env binary.And (pushed a.0 true) (pushed b.0 true))
      ∙ ap (λ t. t && holds (pushed b.0 true)) (a.1 true) ∙ ap (λ t. not (holds a.0) && t) (b.1 true)
      ∙ or_turned (holds a.0) (holds b.0) ∙ ap (λ v. not (truth_of v)) (sym (value-Binary env binary.Or a.0 b.0))
  or_and a b false =
      ap truth_of (value-Binary env binary.Or (pushed a.0 false) (pushed b.0 false))
      ∙ ap (λ t. t || holds (pushed b.0 false)) (a.1 false) ∙ ap (λ t. holds a.0 || t) (b.1 false)
      ∙ ap truth_of (sym (value-Binary env binary.Or a.0 b.0))

  implication : (a b : Part) (negative : Bool)
      → holds (terms.Binary (turned negative binary.Implies) (pushed a.0 false) (pushed b.0 negative))
      ≡ turned_truth negative (holds (terms.Binary binary.Implies a.0 b.0))
  implication a b true =
      ap truth_of (value-Binary env binary.And (pushed a.0 false) (pushed b.0 true))
      ∙ ap (λ t. t && holds (pushed b.0 true)) (a.1 false) ∙ ap (λ t. holds a.0 && t) (b.1 true)
      ∙ implies_turned (holds a.0) (holds b.0) ∙ ap (λ v. not (truth_of v)) (sym (value-Binary env binary.Implies a.0 b.0))
  implication a b false =
      ap truth_of (value-Binary env binary.Implies (pushed a.0 false) (pushed b.0 false))
      ∙ ap (λ t. not t || holds (pushed b.0 false)) (a.1 false) ∙ ap (λ t. not (holds a.0) || t) (b.1 false)
      ∙ ap truth_of (sym (value-Binary env binary.Implies a.0 b.0))

  chosen : (test : Bool) (a b v w : TermValue) (negative : Bool)
      → truth_of a ≡ turned_truth negative (truth_of v) → truth_of b ≡ turned_truth negative (truth_of w)
      → truth_of (cond test a b) ≡ turned_truth negative (truth_of (cond test v w))
  chosen true a b v w negative e f = e
  chosen false a b v w negative e f = f

  binary_keeps : (operator : BinaryOperator) (a b : Part) (negative : Bool)
      → holds (pushed_as (role_of operator) operator (side a) (side b) negative) ≡ turned_truth negative (holds (terms.Binary operator a.0 b.0))
  binary_keeps binary.Equal a b negative = comparison binary.Equal a.0 b.0 negative (λ v w. refl)
  binary_keeps binary.Unequal a b negative = comparison binary.Unequal a.0 b.0 negative (λ v w. sym (not_not (same v w)))
  binary_keeps binary.Below a b negative =
      comparison binary.Below a.0 b.0 negative (λ v w. at_most_is_not_above (number_of w) (number_of v))
  binary_keeps binary.AtMost a b negative =
      comparison binary.AtMost a.0 b.0 negative (λ v w. sym (not_not _) ∙ ap not (sym (at_most_is_not_above (number_of v) (number_of w))))
  binary_keeps binary.Above a b negative =
      comparison binary.Above a.0 b.0 negative (λ v w. at_most_is_not_above (number_of v) (number_of w))
  binary_keeps binary.AtLeast a b negative =
      comparison binary.AtLeast a.0 b.0 negative (λ v w. sym (not_not _) ∙ ap not (sym (at_most_is_not_above (number_of w) (number_of v))))
  binary_keeps binary.And a b negative = and_or a b negative
  binary_keeps binary.Or a b negative = or_and a b negative
  binary_keeps binary.Implies a b negative = implication a b negative
  binary_keeps operator a b negative = signed_holds (terms.Binary operator a.0 b.0) negative

  unary_keeps : (operator : UnaryOperator) (a : Part) (negative : Bool)
      → holds (unary_pushed operator (side a) negative) ≡ turned_truth negative (holds (terms.Unary operator a.0))
  unary_keeps unary.Not a negative =
      a.1 (not negative) ∙ turned_twice negative (holds a.0) ∙ ap (λ v. turned_truth negative (truth_of v)) (sym (value-Unary env unary.Not a.0))
  unary_keeps operator a negative = signed_holds (terms.Unary operator a.0) negative

  truth_keeps : (truth negative : Bool) → holds (terms.Truth (cond negative (not truth) truth)) ≡ turned_truth negative (holds (terms.Truth truth))
  truth_keeps truth true = ap truth_of (value-Truth env (not truth)) ∙ ap (λ v. not (truth_of v)) (sym (value-Truth env truth))
  truth_keeps truth false = refl

  rolled_by : (x : Term-F Term) (negative : Bool)
      → pushed (roll-Term x) negative ≡ pushed_step (map-Term Term Side (λ part. (part, pushed part)) x) negative
  rolled_by x negative = ap (λ f. f negative) (para-roll-Term (Bool → Term) pushed_step x)

  kept_parts : (parts : List Part)
      → map (λ (part : Side). part.0) (map (λ (part : Term). (part, pushed part)) (map (λ (part : Part). part.0) parts)) ≡ map (λ (part : Part). part.0) parts
  kept_parts [] = refl
  kept_parts (part ∷ parts) = ap (λ l. part.0 ∷ l) (kept_parts parts)

  node_keeps : (y : Term-F Part) → Keeps (roll-Term (map-Term Part Term (λ part. part.0) y))
  node_keeps (Term-F.Variable name) negative =
      ap holds (rolled_by (Term-F.Variable name) negative) ∙ signed_holds (terms.Variable name) negative
      ∙ ap (λ t. turned_truth negative (holds t)) (sym (terms.rolls-Variable name))
  node_keeps (Term-F.Integer number) negative =
      ap holds (rolled_by (Term-F.Integer number) negative) ∙ signed_holds (terms.Integer number) negative
      ∙ ap (λ t. turned_truth negative (holds t)) (sym (terms.rolls-Integer number))
  node_keeps (Term-F.Truth truth) negative =
      ap holds (rolled_by (Term-F.Truth truth) negative) ∙ truth_keeps truth negative
      ∙ ap (λ t. turned_truth negative (holds t)) (sym (terms.rolls-Truth truth))
  node_keeps Term-F.Null negative =
      ap holds (rolled_by Term-F.Null negative) ∙ signed_holds terms.Null negative
      ∙ ap (λ t. turned_truth negative (holds t)) (sym terms.rolls-Null)
  node_keeps (Term-F.List parts) negative =
      ap holds (rolled_by (Term-F.List (map (λ part. part.0) parts)) negative)
      ∙ ap (λ l. holds (signed negative (terms.List l))) (kept_parts parts)
      ∙ signed_holds (terms.List (map (λ part. part.0) parts)) negative
      ∙ ap (λ t. turned_truth negative (holds t)) (sym (terms.rolls-List (map (λ part. part.0) parts)))
  node_keeps (Term-F.Unary operator a) negative =
      ap holds (rolled_by (Term-F.Unary operator a.0) negative) ∙ unary_keeps operator a negative
      ∙ ap (λ t. turned_truth negative (holds t)) (sym (terms.rolls-Unary operator a.0))
  node_keeps (Term-F.Binary operator a b) negative =
      ap holds (rolled_by (Term-F.Binary operator a.0 b.0) negative) ∙ binary_keeps operator a b negative
      ∙ ap (λ t. turned_truth negative (holds t)) (sym (terms.rolls-Binary operator a.0 b.0))
  node_keeps (Term-F.Conditional test a b) negative =
      ap holds (rolled_by (Term-F.Conditional test.0 a.0 b.0) negative)
      ∙ ap truth_of (value-Conditional env (pushed test.0 false) (pushed a.0 negative) (pushed b.0 negative))
      ∙ ap (λ t. truth_of (cond t (value_of env (pushed a.0 negative)) (value_of env (pushed b.0 negative)))) (test.1 false)
      ∙ chosen (holds test.0) (value_of env (pushed a.0 negative)) (value_of env (pushed b.0 negative)) (value_of env a.0) (value_of env b.0)
      negative (a.1 negative) (b.1 negative)
      ∙ ap (λ v. turned_truth negative (truth_of v)) (sym (value-Conditional env test.0 a.0 b.0))
      ∙ ap (λ t. turned_truth negative (holds t)) (sym (terms.rolls-Conditional test.0 a.0 b.0))
  node_keeps (Term-F.Update a b c) negative =
      ap holds (rolled_by (Term-F.Update a.0 b.0 c.0) negative) ∙ signed_holds (terms.Update a.0 b.0 c.0) negative
      ∙ ap (λ t. turned_truth negative (holds t)) (sym (terms.rolls-Update a.0 b.0 c.0))

  pub pushed_keeps : (term : Term) → Keeps term
  pushed_keeps = ind-Term Keeps (λ x y is. subst (λ z. Keeps (roll-Term z)) is (node_keeps y))
