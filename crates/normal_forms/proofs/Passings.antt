-- Where each form of node passes the width.
use Rattle.std.proofs.Common.{◌≡◌, ℕ, zero, suc, ◌<◌, Bool, true, false, ◌||◌, List, [], ◌∷◌, length, map, take, get_or, refl, ap, ◌∙◌, sym, subst, ℤ, Result, Ok, Err, arith}
use Rattle.std.specs.List.{list_any}
use Rattle.rc_terms.specs.declared.term.Term.{Term, roll-Term}
use Rattle.rc_terms.specs.declared.term.Term.TheOpen.{Term-F}
use Rattle.rc_terms.specs.declared.term.Term.TheFolds.{map-Term, para-roll-Term}
use Rattle.rc_terms.specs.declared.term.Term.TheVariants as terms
use Rattle.rc_terms.specs.declared.operator.UnaryOperator.{UnaryOperator}
use Rattle.rc_terms.specs.declared.operator.BinaryOperator.{BinaryOperator}
use Rattle.rc_terms.specs.Sorting.{sort_under}
use Rattle.normal_forms.specs.declared.failure.Failure.{Failure}
use Rattle.normal_forms.specs.declared.failure.Failure.TheVariants as failures
use Rattle.normal_forms.specs.Polynomials.{parts_unary, parts_binary}
use Rattle.normal_forms.specs.Normal.{Names, staged}
use Rattle.normal_forms.specs.Widths.{Forms, finishing_passes, Passing, staging_step, staging_passes}

module _ {T : Type 0} where
  -- the answer of a call, of what is equal
  pub forms : (r : Result T Failure) (x y : T) (w v : Bool) → x ≡ y → w ≡ v → Forms r x w → Forms r y v
  forms (Ok found) x y w v e f h = (h.0 ∙ e, sym f ∙ h.1)
  forms (Err failures.Width) x y w v e f h = sym f ∙ h
  forms (Err failures.NoMemory) x y w v e f h = tt

-- a refusal stands for a term where it stands for a part whose wide numbers are the term's
pub fails : {T U : Type 0} (e : Failure) (x : T) (y : U) (w v : Bool) → (w ≡ true → v ≡ true) → Forms (Err e) x w → Forms (Err e) y v
fails failures.Width x y w v f h = f h
fails failures.NoMemory x y w v f h = tt

pub first_passes : (a b : Bool) → a ≡ true → a || b ≡ true
first_passes true b e = refl
first_passes false b e = cc

pub later_passes : (a b : Bool) → b ≡ true → a || b ≡ true
later_passes true b e = refl
later_passes false b e = e

module _ (names : Names) where
  rolled_by : (x : Term-F Term) (whole : Bool)
      → staging_passes names (roll-Term x) whole ≡ staging_step names (map-Term Term Passing (λ part. (part, staging_passes names part)) x) whole
  rolled_by x whole = ap (λ f. f whole) (para-roll-Term (Bool → Bool) (staging_step names) x)

  same_elements : (elements : List Term)
      → map (λ (part : Passing). part.0) (map (λ (part : Term). (part, staging_passes names part)) elements) ≡ elements
  same_elements [] = refl
  same_elements (element ∷ elements) = ap (λ l. element ∷ l) (same_elements elements)

  staged_elements : (elements : List Term)
      → map (λ (part : Passing). staged names part.0 true) (map (λ (part : Term). (part, staging_passes names part)) elements)
      ≡ map (λ element. staged names element true) elements
  staged_elements [] = refl
  staged_elements (element ∷ elements) = ap (λ l. staged names element true ∷ l) (staged_elements elements)

  passing_elements : (elements : List Term)
      → list_any (λ (part : Passing). part.1 true) (map (λ (part : Term). (part, staging_passes names part)) elements)
      ≡ list_any (λ element. staging_passes names element true) elements
  passing_elements [] = refl
  passing_elements (element ∷ elements) = ap (λ b. staging_passes names element true || b) (passing_elements elements)

  module _ (term : Term) (whole : Bool) where
    abbrev finishing : Term → Bool
    finishing inner = finishing_passes (sort_under names term) inner whole

    by : (t inner : Term) (w : Bool) → term ≡ t → staging_passes names t whole ≡ w || finishing_passes (sort_under names t) inner whole
        → staging_passes names term whole ≡ w || finishing inner
    by t inner w is e =
        ap (λ x. staging_passes names x whole) is ∙ e ∙ ap (λ x. w || finishing_passes (sort_under names x) inner whole) (sym is)

    pub passing-Variable : (name : List ℕ) → term ≡ terms.Variable name → staging_passes names term whole ≡ finishing term
    passing-Variable name is =
        by (terms.Variable name) (terms.Variable name) false is
        (ap (λ x. staging_passes names x whole) (sym (terms.rolls-Variable name)) ∙ rolled_by (Term-F.Variable name) whole)
        ∙ ap finishing (sym is)

    pub passing-Integer : (number : ℤ) → term ≡ terms.Integer number → staging_passes names term whole ≡ finishing term
    passing-Integer number is =
        by (terms.Integer number) (terms.Integer number) false is
        (ap (λ x. staging_passes names x whole) (sym (terms.rolls-Integer number)) ∙ rolled_by (Term-F.Integer number) whole)
        ∙ ap finishing (sym is)

    pub passing-Truth : (truth : Bool) → term ≡ terms.Truth truth → staging_passes names term whole ≡ finishing term
    passing-Truth truth is =
        by (terms.Truth truth) (terms.Truth truth) false is
        (ap (λ x. staging_passes names x whole) (sym (terms.rolls-Truth truth)) ∙ rolled_by (Term-F.Truth truth) whole)
        ∙ ap finishing (sym is)

    pub passing-Null : term ≡ terms.Null → staging_passes names term whole ≡ finishing term
    passing-Null is =
        by terms.Null terms.Null false is
        (ap (λ x. staging_passes names x whole) (sym terms.rolls-Null) ∙ rolled_by Term-F.Null whole)
        ∙ ap finishing (sym is)

    pub passing-List : (elements : List Term) → term ≡ terms.List elements
        → staging_passes names term whole
        ≡ list_any (λ element. staging_passes names element true) elements
        || finishing (terms.List (map (λ element. staged names element true) elements))
    passing-List elements is =
        by (terms.List elements) (terms.List (map (λ element. staged names element true) elements))
        (list_any (λ element. staging_passes names element true) elements) is
        (ap (λ x. staging_passes names x whole) (sym (terms.rolls-List elements)) ∙ rolled_by (Term-F.List elements) whole
        ∙ ap (λ b. b || finishing_passes (sort_under names (terms.List (map (λ (part : Passing). part.0) (map (λ (part : Term). (part, staging_passes names part)) elements))))
        (terms.List (map (λ (part : Passing). staged names part.0 true) (map (λ (part : Term). (part, staging_passes names part)) elements))) whole) (passing_elements elements)
        ∙ ap (λ l. list_any (λ element. staging_passes names element true) elements || finishing_passes (sort_under names (terms.List l))
        (terms.List (map (λ (part : Passing). staged names part.0 true) (map (λ (part : Term). (part, staging_passes names part)) elements))) whole) (same_elements elements)
        ∙ ap (λ l. list_any (λ element. staging_passes names element true) elements || finishing_passes (sort_under names (terms.List elements)) (terms.List l) whole)
        (staged_elements elements))

    pub passing-Unary : (operator : UnaryOperator) (a : Term) → term ≡ terms.Unary operator a
        → staging_passes names term whole
        ≡ staging_passes names a (parts_unary operator) || finishing (terms.Unary operator (staged names a (parts_unary operator)))
    passing-Unary operator a is =
        by (terms.Unary operator a) (terms.Unary operator (staged names a (parts_unary operator))) (staging_passes names a (parts_unary operator)) is
        (ap (λ x. staging_passes names x whole) (sym (terms.rolls-Unary operator a)) ∙ rolled_by (Term-F.Unary operator a) whole)

    pub passing-Binary : (operator : BinaryOperator) (a b : Term) → term ≡ terms.Binary operator a b
        → staging_passes names term whole
        ≡ staging_passes names a (parts_binary operator) || staging_passes names b (parts_binary operator)
        || finishing (terms.Binary operator (staged names a (parts_binary operator)) (staged names b (parts_binary operator)))
    passing-Binary operator a b is =
        let inner = terms.Binary operator (staged names a (parts_binary operator)) (staged names b (parts_binary operator)) in
        ap (λ x. staging_passes names x whole) (is ∙ sym (terms.rolls-Binary operator a b)) ∙ rolled_by (Term-F.Binary operator a b) whole
        ∙ ap (λ x. staging_passes names a (parts_binary operator) || staging_passes names b (parts_binary operator)
        || finishing_passes (sort_under names x) inner whole) (sym is)

    pub passing-Conditional : (a b c : Term) → term ≡ terms.Conditional a b c
        → staging_passes names term whole
        ≡ staging_passes names a true || staging_passes names b true || staging_passes names c true
        || finishing (terms.Conditional (staged names a true) (staged names b true) (staged names c true))
    passing-Conditional a b c is =
        let inner = terms.Conditional (staged names a true) (staged names b true) (staged names c true) in
        ap (λ x. staging_passes names x whole) (is ∙ sym (terms.rolls-Conditional a b c)) ∙ rolled_by (Term-F.Conditional a b c) whole
        ∙ ap (λ x. staging_passes names a true || staging_passes names b true || staging_passes names c true
        || finishing_passes (sort_under names x) inner whole) (sym is)

    pub passing-Update : (a b c : Term) → term ≡ terms.Update a b c
        → staging_passes names term whole
        ≡ staging_passes names a true || staging_passes names b true || staging_passes names c true
        || finishing (terms.Update (staged names a true) (staged names b true) (staged names c true))
    passing-Update a b c is =
        let inner = terms.Update (staged names a true) (staged names b true) (staged names c true) in
        ap (λ x. staging_passes names x whole) (is ∙ sym (terms.rolls-Update a b c)) ∙ rolled_by (Term-F.Update a b c) whole
        ∙ ap (λ x. staging_passes names a true || staging_passes names b true || staging_passes names c true
        || finishing_passes (sort_under names x) inner whole) (sym is)
