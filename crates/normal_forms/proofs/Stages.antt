-- The stages of each form of node.
use Rattle.std.proofs.Common.{◌≡◌, ℕ, zero, suc, ◌<◌, Bool, true, List, [], ◌∷◌, ◌++◌, length, map, take, get_or, refl, ap, ◌∙◌, sym, subst, ℤ, Result, arith}
use Rattle.std.specs.Result.{IfOk}
use Rattle.rc_terms.specs.declared.term.Term.{Term, roll-Term}
use Rattle.rc_terms.specs.declared.term.Term.TheOpen.{Term-F}
use Rattle.rc_terms.specs.declared.term.Term.TheFolds.{map-Term, para-roll-Term}
use Rattle.rc_terms.specs.declared.term.Term.TheVariants as terms
use Rattle.rc_terms.specs.declared.operator.UnaryOperator.{UnaryOperator}
use Rattle.rc_terms.specs.declared.operator.BinaryOperator.{BinaryOperator}
use Rattle.rc_terms.specs.Sorting.{sort_under}
use Rattle.normal_forms.specs.Polynomials.{parts_unary, parts_binary}
use Rattle.normal_forms.specs.Normal.{Names, finished, Stage, staged_step, staged}

-- the answer of a call, of what is equal
pub gives : {E : Type 0} (r : Result Term E) (x y : Term) → x ≡ y → IfOk r (λ after. after ≡ x) → IfOk r (λ after. after ≡ y)
gives r x y e h = subst (λ z. IfOk r (λ after. after ≡ z)) e h

module _ (names : Names) where
  rolled_by : (x : Term-F Term) (whole : Bool)
      → staged names (roll-Term x) whole ≡ staged_step names (map-Term Term Stage (λ part. (part, staged names part)) x) whole
  rolled_by x whole = ap (λ f. f whole) (para-roll-Term (Bool → Term) (staged_step names) x)

  same_elements : (elements : List Term)
      → map (λ (part : Stage). part.0) (map (λ (part : Term). (part, staged names part)) elements) ≡ elements
  same_elements [] = refl
  same_elements (element ∷ elements) = ap (λ l. element ∷ l) (same_elements elements)

  whole_elements : (elements : List Term)
      → map (λ (part : Stage). part.1 true) (map (λ (part : Term). (part, staged names part)) elements)
      ≡ map (λ element. staged names element true) elements
  whole_elements [] = refl
  whole_elements (element ∷ elements) = ap (λ l. staged names element true ∷ l) (whole_elements elements)

  pub one_stage_more : (items : List Term) (i : ℕ) (item : Term) → i < length items → item ≡ get_or items i item
      → map (λ element. staged names element true) (take (suc i) items)
      ≡ map (λ element. staged names element true) (take i items) ++ staged names item true ∷ []
  one_stage_more [] i item lt is = absurd (omega arith)
  one_stage_more (x ∷ xs) zero item lt is = ap (λ t. staged names t true ∷ []) (sym is)
  one_stage_more (x ∷ xs) (suc i) item lt is = ap (λ l. staged names x true ∷ l) (one_stage_more xs i item (omega arith) is)

  module _ (term : Term) (whole : Bool) where
    by : (t inner : Term) → term ≡ t → staged names t whole ≡ finished (sort_under names t) inner whole
        → staged names term whole ≡ finished (sort_under names term) inner whole
    by t inner is e =
        ap (λ x. staged names x whole) is ∙ e ∙ ap (λ x. finished (sort_under names x) inner whole) (sym is)

    pub staged-Variable : (name : List ℕ) → term ≡ terms.Variable name → staged names term whole ≡ finished (sort_under names term) term whole
    staged-Variable name is =
        by (terms.Variable name) (terms.Variable name) is
        (ap (λ x. staged names x whole) (sym (terms.rolls-Variable name)) ∙ rolled_by (Term-F.Variable name) whole)
        ∙ ap (λ x. finished (sort_under names term) x whole) (sym is)

    pub staged-Integer : (number : ℤ) → term ≡ terms.Integer number → staged names term whole ≡ finished (sort_under names term) term whole
    staged-Integer number is =
        by (terms.Integer number) (terms.Integer number) is
        (ap (λ x. staged names x whole) (sym (terms.rolls-Integer number)) ∙ rolled_by (Term-F.Integer number) whole)
        ∙ ap (λ x. finished (sort_under names term) x whole) (sym is)

    pub staged-Truth : (truth : Bool) → term ≡ terms.Truth truth → staged names term whole ≡ finished (sort_under names term) term whole
    staged-Truth truth is =
        by (terms.Truth truth) (terms.Truth truth) is
        (ap (λ x. staged names x whole) (sym (terms.rolls-Truth truth)) ∙ rolled_by (Term-F.Truth truth) whole)
        ∙ ap (λ x. finished (sort_under names term) x whole) (sym is)

    pub staged-Null : term ≡ terms.Null → staged names term whole ≡ finished (sort_under names term) term whole
    staged-Null is =
        by terms.Null terms.Null is
        (ap (λ x. staged names x whole) (sym terms.rolls-Null) ∙ rolled_by Term-F.Null whole)
        ∙ ap (λ x. finished (sort_under names term) x whole) (sym is)

    pub staged-List : (elements : List Term) → term ≡ terms.List elements
        → staged names term whole ≡ finished (sort_under names term) (terms.List (map (λ element. staged names element true) elements)) whole
    staged-List elements is =
        by (terms.List elements) (terms.List (map (λ element. staged names element true) elements)) is
        (ap (λ x. staged names x whole) (sym (terms.rolls-List elements)) ∙ rolled_by (Term-F.List elements) whole
        ∙ ap (λ l. finished (sort_under names (terms.List l)) (terms.List (map (λ (part : Stage). part.1 true) (map (λ (part : Term). (part, staged names part)) elements))) whole) (same_elements elements)
        ∙ ap (λ l. finished (sort_under names (terms.List elements)) (terms.List l) whole) (whole_elements elements))

    pub staged-Unary : (operator : UnaryOperator) (a : Term) → term ≡ terms.Unary operator a
        → staged names term whole ≡ finished (sort_under names term) (terms.Unary operator (staged names a (parts_unary operator))) whole
    staged-Unary operator a is =
        by (terms.Unary operator a) (terms.Unary operator (staged names a (parts_unary operator))) is
        (ap (λ x. staged names x whole) (sym (terms.rolls-Unary operator a)) ∙ rolled_by (Term-F.Unary operator a) whole)

    pub staged-Binary : (operator : BinaryOperator) (a b : Term) → term ≡ terms.Binary operator a b
        → staged names term whole
        ≡ finished (sort_under names term) (terms.Binary operator (staged names a (parts_binary operator)) (staged names b (parts_binary operator))) whole
    staged-Binary operator a b is =
        by (terms.Binary operator a b) (terms.Binary operator (staged names a (parts_binary operator)) (staged names b (parts_binary operator))) is
        (ap (λ x. staged names x whole) (sym (terms.rolls-Binary operator a b)) ∙ rolled_by (Term-F.Binary operator a b) whole)

    pub staged-Conditional : (a b c : Term) → term ≡ terms.Conditional a b c
        → staged names term whole
        ≡ finished (sort_under names term) (terms.Conditional (staged names a true) (staged names b true) (staged names c true)) whole
    staged-Conditional a b c is =
        by (terms.Conditional a b c) (terms.Conditional (staged names a true) (staged names b true) (staged names c true)) is
        (ap (λ x. staged names x whole) (sym (terms.rolls-Conditional a b c)) ∙ rolled_by (Term-F.Conditional a b c) whole)

    pub staged-Update : (a b c : Term) → term ≡ terms.Update a b c
        → staged names term whole
        ≡ finished (sort_under names term) (terms.Update (staged names a true) (staged names b true) (staged names c true)) whole
    staged-Update a b c is =
        by (terms.Update a b c) (terms.Update (staged names a true) (staged names b true) (staged names c true)) is
        (ap (λ x. staged names x whole) (sym (terms.rolls-Update a b c)) ∙ rolled_by (Term-F.Update a b c) whole)
