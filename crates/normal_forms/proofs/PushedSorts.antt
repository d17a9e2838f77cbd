-- A proposition stays one where its negations are pushed inwards.
use Rattle.std.proofs.Common.{◌≡◌, Bool, true, false, not, ◌&&◌, cond, List, [], ◌∷◌, map, refl, ap, ◌∙◌, sym, subst, Option, Some, None}
use Rattle.std.specs.Option.{option_and_then}
use Rattle.rc_terms.specs.declared.term.Term.{Term, roll-Term}
use Rattle.rc_terms.specs.declared.term.Term.TheOpen.{Term-F}
use Rattle.rc_terms.specs.declared.term.Term.TheFolds.{map-Term, fold-roll-Term, para-roll-Term, ind-Term}
use Rattle.rc_terms.specs.declared.term.Term.TheVariants as terms
use Rattle.rc_terms.specs.declared.sort.Sort.{Sort}
use Rattle.rc_terms.specs.declared.sort.Sort.TheVariants as sorts
use Rattle.rc_terms.specs.declared.operator.UnaryOperator.{UnaryOperator}
use Rattle.rc_terms.specs.declared.operator.UnaryOperator.TheVariants as unary
use Rattle.rc_terms.specs.declared.operator.BinaryOperator.{BinaryOperator}
use Rattle.rc_terms.specs.declared.operator.BinaryOperator.TheVariants as binary
use Rattle.rc_terms.specs.Sorting.{sort_under, sort_step, unary_sort, binary_sort, same_sort, has, given, are, conditional_sort}
use Rattle.normal_forms.specs.Negation.{signed, turned, role_of, Side, pushed_as, unary_pushed, pushed_step, pushed}
use Rattle.normal_forms.specs.Normal.{Names}
use Rattle.normal_forms.proofs.Foldings.{both, given_is, same_is, has_is, branch_sorts}

abbrev truths_given : Option Sort → Option Sort → Option Sort
truths_given o p = option_and_then (λ first. option_and_then (λ second. given (are first second sorts.Bool sorts.Bool) sorts.Bool) p) o

truths : (o p : Option Sort) → truths_given o p ≡ Some sorts.Bool → (o ≡ Some sorts.Bool) × (p ≡ Some sorts.Bool)
truths None p e = (cc, cc)
truths (Some s) None e = (cc, cc)
truths (Some s) (Some t) e =
    let h = both (same_sort s sorts.Bool) (same_sort t sorts.Bool)
    (given_is [] (are s t sorts.Bool sorts.Bool) sorts.Bool sorts.Bool e).0 in
    (ap Some (same_is [] s sorts.Bool h.0), ap Some (same_is [] t sorts.Bool h.1))

module _ (names : Names) where
  abbrev sort : Term → Option Sort
  sort t = sort_under names t

  abbrev IsBool : Term → Type 0
  IsBool t = sort t ≡ Some sorts.Bool

  at : (x : Term-F Term) → sort (roll-Term x) ≡ sort_step names (map-Term Term (Option Sort) sort x)
  at x = fold-roll-Term (Option Sort) (sort_step names) x

  binary_at : (operator : BinaryOperator) (a b : Term)
      → sort (terms.Binary operator a b) ≡ option_and_then (λ first. option_and_then (binary_sort operator first) (sort b)) (sort a)
  binary_at operator a b = ap sort (sym (terms.rolls-Binary operator a b)) ∙ at (Term-F.Binary operator a b)

  signed_sort : (t : Term) (negative : Bool) → IsBool t → IsBool (signed negative t)
  signed_sort t true e =
      ap sort (sym (terms.rolls-Unary unary.Not t)) ∙ at (Term-F.Unary unary.Not t) ∙ ap (option_and_then (unary_sort unary.Not)) e
  signed_sort t false e = e

  abbrev Keeps : Term → Type 0
  Keeps t = (negative : Bool) → IsBool t → IsBool (pushed t negative)

  abbrev Part : Type 0
  Part = (t : Term) × Keeps t

  abbrev side : Part → Side
  side part = (part.0, pushed part.0)

  comparison : (operator : BinaryOperator) (a b : Term) (negative : Bool) → binary_sort (turned negative operator) ≡ binary_sort operator
      → IsBool (terms.Binary operator a b) → IsBool (terms.Binary (turned negative operator) a b)
  comparison operator a b negative e h =
      binary_at (turned negative operator) a b
      ∙ ap (λ f. option_and_then (λ first. option_and_then (f first) (sort b)) (sort a)) e ∙ sym (binary_at operator a b) ∙ h

  pub truth_parts : (operator : BinaryOperator) (a b : Term)
      → binary_sort operator ≡ (λ first second. given (are first second sorts.Bool sorts.Bool) sorts.Bool)
      → IsBool (terms.Binary operator a b) → IsBool a × IsBool b
  truth_parts operator a b e h =
      truths (sort a) (sort b)
      (sym (binary_at operator a b ∙ ap (λ f. option_and_then (λ first. option_and_then (f first) (sort b)) (sort a)) e) ∙ h)

  truth_whole : (operator : BinaryOperator) (a b : Term)
      → binary_sort operator sorts.Bool sorts.Bool ≡ Some sorts.Bool → IsBool a → IsBool b → IsBool (terms.Binary operator a b)
  truth_whole operator a b e h g =
      binary_at operator a b ∙ ap (λ s. option_and_then (λ first. option_and_then (binary_sort operator first) (sort b)) s) h
      ∙ ap (λ s. option_and_then (binary_sort operator sorts.Bool) s) g ∙ e

  same_turned : (operator : BinaryOperator) (negative : Bool) → binary_sort (turned true operator) ≡ binary_sort operator
      → binary_sort (turned negative operator) ≡ binary_sort operator
  same_turned operator true e = e
  same_turned operator false e = refl

  truth_turned : (operator : BinaryOperator) (negative : Bool) → binary_sort (turned true operator) sorts.Bool sorts.Bool ≡ Some sorts.Bool
      → binary_sort operator sorts.Bool sorts.Bool ≡ Some sorts.Bool → binary_sort (turned negative operator) sorts.Bool sorts.Bool ≡ Some sorts.Bool
  truth_turned operator true e f = e
  truth_turned operator false e f = f

  binary_keeps : (operator : BinaryOperator) (a b : Part) (negative : Bool) → IsBool (terms.Binary operator a.0 b.0)
      → IsBool (pushed_as (role_of operator) operator (side a) (side b) negative)
  binary_keeps binary.Equal a b negative h = comparison binary.Equal a.0 b.0 negative (same_turned binary.Equal negative refl) h
  binary_keeps binary.Unequal a b negative h = comparison binary.Unequal a.0 b.0 negative (same_turned binary.Unequal negative refl) h
  binary_keeps binary.Below a b negative h = comparison binary.Below a.0 b.0 negative (same_turned binary.Below negative refl) h
  binary_keeps binary.AtMost a b negative h = comparison binary.AtMost a.0 b.0 negative (same_turned binary.AtMost negative refl) h
  binary_keeps binary.Above a b negative h = comparison binary.Above a.0 b.0 negative (same_turned binary.Above negative refl) h
  binary_keeps binary.AtLeast a b negative h = comparison binary.AtLeast a.0 b.0 negative (same_turned binary.AtLeast negative refl) h
  binary_keeps binary.And a b negative h =
      let parts = truth_parts binary.And a.0 b.0 refl h in
      truth_whole (turned negative binary.And) (pushed a.0 negative) (pushed b.0 negative) (truth_turned binary.And negative refl refl)
      (a.1 negative parts.0) (b.1 negative parts.1)
  binary_keeps binary.Or a b negative h =
      let parts = truth_parts binary.Or a.0 b.0 refl h in
      truth_whole (turned negative binary.Or) (pushed a.0 negative) (pushed b.0 negative) (truth_turned binary.Or negative refl refl)
      (a.1 negative parts.0) (b.1 negative parts.1)
  binary_keeps binary.Implies a b negative h =
      let parts = truth_parts binary.Implies a.0 b.0 refl h in
      truth_whole (turned negative binary.Implies) (pushed a.0 false) (pushed b.0 negative) (truth_turned binary.Implies negative refl refl)
      (a.1 false parts.0) (b.1 negative parts.1)
  binary_keeps operator a b negative h = signed_sort (terms.Binary operator a.0 b.0) negative h

  negated : (o : Option Sort) → option_and_then (unary_sort unary.Not) o ≡ Some sorts.Bool → o ≡ Some sorts.Bool
  negated (Some sorts.Bool) e = refl
  negated o e = cc

  pub operand_truth : (a : Term) → IsBool (terms.Unary unary.Not a) → IsBool a
  operand_truth a h =
      negated (sort a) (sym (ap sort (sym (terms.rolls-Unary unary.Not a)) ∙ at (Term-F.Unary unary.Not a)) ∙ h)

  unary_keeps : (operator : UnaryOperator) (a : Part) (negative : Bool) → IsBool (terms.Unary operator a.0)
      → IsBool (unary_pushed operator (side a) negative)
  unary_keeps unary.Not a negative h =
      a.1 (not negative) (operand_truth a.0 h)
  unary_keeps operator a negative h = signed_sort (terms.Unary operator a.0) negative h

  rolled_by : (x : Term-F Term) (negative : Bool)
      → pushed (roll-Term x) negative ≡ pushed_step (map-Term Term Side (λ part. (part, pushed part)) x) negative
  rolled_by x negative = ap (λ f. f negative) (para-roll-Term (Bool → Term) pushed_step x)

  kept_parts : (parts : List Part)
      → map (λ (part : Side). part.0) (map (λ (part : Term). (part, pushed part)) (map (λ (part : Part). part.0) parts)) ≡ map (λ (part : Part). part.0) parts
  kept_parts [] = refl
  kept_parts (part ∷ parts) = ap (λ l. part.0 ∷ l) (kept_parts parts)

  -- a node that keeps a negation before it
  as_signed : (x : Term-F Term) (t : Term) (negative : Bool) → pushed (roll-Term x) negative ≡ signed negative t → roll-Term x ≡ t
      → IsBool (roll-Term x) → IsBool (pushed (roll-Term x) negative)
  as_signed x t negative e is h = ap sort e ∙ signed_sort t negative (ap sort (sym is) ∙ h)

  pub test_sort : (a b c : Option Sort) → conditional_sort a b c ≡ Some sorts.Bool → a ≡ Some sorts.Bool
  test_sort a None c e = cc
  test_sort a (Some t) c e =
      has_is names sorts.Bool a (both (has sorts.Bool a) (has t c) (given_is names (has sorts.Bool a && has t c) t sorts.Bool e).0).0

  node_keeps : (y : Term-F Part) → Keeps (roll-Term (map-Term Part Term (λ part. part.0) y))
  node_keeps (Term-F.Variable name) negative h =
      as_signed (Term-F.Variable name) (terms.Variable name) negative (rolled_by (Term-F.Variable name) negative) (terms.rolls-Variable name) h
  node_keeps (Term-F.Integer n) negative h =
      as_signed (Term-F.Integer n) (terms.Integer n) negative (rolled_by (Term-F.Integer n) negative) (terms.rolls-Integer n) h
  node_keeps (Term-F.Truth b) negative h =
      let after = cond negative (not b) b in
      ap sort (rolled_by (Term-F.Truth b) negative ∙ sym (terms.rolls-Truth after)) ∙ at (Term-F.Truth after)
  node_keeps Term-F.Null negative h = as_signed Term-F.Null terms.Null negative (rolled_by Term-F.Null negative) terms.rolls-Null h
  node_keeps (Term-F.List parts) negative h =
      let elements = map (λ (part : Part). part.0) parts in
      as_signed (Term-F.List elements) (terms.List elements) negative
      (rolled_by (Term-F.List elements) negative ∙ ap (λ l. signed negative (terms.List l)) (kept_parts parts)) (terms.rolls-List elements) h
  node_keeps (Term-F.Unary operator a) negative h =
      ap sort (rolled_by (Term-F.Unary operator a.0) negative)
      ∙ unary_keeps operator a negative (ap sort (sym (terms.rolls-Unary operator a.0)) ∙ h)
  node_keeps (Term-F.Binary operator a b) negative h =
      ap sort (rolled_by (Term-F.Binary operator a.0 b.0) negative)
      ∙ binary_keeps operator a b negative (ap sort (sym (terms.rolls-Binary operator a.0 b.0)) ∙ h)
  node_keeps (Term-F.Conditional a b c) negative h =
      let is = sym (at (Term-F.Conditional a.0 b.0 c.0)) ∙ h in
      let branches = branch_sorts names (sort a.0) (sort b.0) (sort c.0) sorts.Bool is in
      let x = pushed a.0 false in
      let y = pushed b.0 negative in
      let z = pushed c.0 negative in
      ap sort (rolled_by (Term-F.Conditional a.0 b.0 c.0) negative ∙ sym (terms.rolls-Conditional x y z)) ∙ at (Term-F.Conditional x y z)
      ∙ ap (λ s. conditional_sort s (sort y) (sort z)) (a.1 false (test_sort (sort a.0) (sort b.0) (sort c.0) is))
      ∙ ap (λ s. conditional_sort (Some sorts.Bool) s (sort z)) (b.1 negative branches.0)
      ∙ ap (λ s. conditional_sort (Some sorts.Bool) (Some sorts.Bool) s) (c.1 negative branches.1)
  node_keeps (Term-F.Update a b c) negative h =
      as_signed (Term-F.Update a.0 b.0 c.0) (terms.Update a.0 b.0 c.0) negative (rolled_by (Term-F.Update a.0 b.0 c.0) negative)
      (terms.rolls-Update a.0 b.0 c.0) h

  pub pushed_sort : (t : Term) → Keeps t
  pushed_sort = ind-Term Keeps (λ x y is. subst (λ z. Keeps (roll-Term z)) is (node_keeps y))
