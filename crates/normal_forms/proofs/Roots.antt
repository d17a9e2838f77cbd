-- The root and the offset of each form of node.
use Rattle.std.proofs.Common.{◌≡◌, ℕ, Bool, List, [], ◌∷◌, ◌++◌, map, refl, ap, ◌∙◌, sym, subst, ℤ}
use Rattle.rc_terms.specs.declared.term.Term.{Term, roll-Term}
use Rattle.rc_terms.specs.declared.term.Term.TheOpen.{Term-F}
use Rattle.rc_terms.specs.declared.term.Term.TheFolds.{map-Term, para-roll-Term, ind-Term}
use Rattle.rc_terms.specs.declared.term.Term.TheVariants as terms
use Rattle.rc_terms.specs.declared.operator.UnaryOperator.{UnaryOperator}
use Rattle.rc_terms.specs.declared.operator.BinaryOperator.{BinaryOperator}
use Rattle.rc_terms.specs.declared.operator.BinaryOperator.TheVariants as binary
use Rattle.normal_forms.specs.declared.summand.Summand.{Summand}
use Rattle.normal_forms.specs.Polynomials.{Expansion, expanded}
use Rattle.normal_forms.specs.Locations.{Rooted, binary_root, root_step, root, binary_offset, offset_step, offset}

root_rolled : (x : Term-F Term) → root (roll-Term x) ≡ root_step (map-Term Term Rooted (λ part. (part, root part)) x)
root_rolled x = para-roll-Term Term root_step x

offset_rolled : (x : Term-F Term) → offset (roll-Term x) ≡ offset_step (map-Term Term Expansion (λ part. (part, offset part)) x)
offset_rolled x = para-roll-Term (List Summand) offset_step x

same_elements : (elements : List Term)
    → map (λ (part : Rooted). part.0) (map (λ (part : Term). (part, root part)) elements) ≡ elements
same_elements [] = refl
same_elements (element ∷ elements) = ap (λ l. element ∷ l) (same_elements elements)

other_root : (operator : BinaryOperator) (a b : Rooted) → (operator ≡ binary.Add → ⊥) → binary_root operator a b ≡ terms.Binary operator a.0 b.0
other_root binary.Add a b h = absurd (h refl)
other_root operator a b h = refl

other_offset : (operator : BinaryOperator) (a b : Expansion) → (operator ≡ binary.Add → ⊥) → binary_offset operator a b ≡ []
other_offset binary.Add a b h = absurd (h refl)
other_offset operator a b h = refl

-- the term is its own root, and nothing is added to it
abbrev pub IsAlone : Term → Type 0
IsAlone term = (root term ≡ term) × (offset term ≡ [])

module _ (term : Term) where
  pub alone-Variable : (name : List ℕ) → term ≡ terms.Variable name → IsAlone term
  alone-Variable name is =
      let rolled = is ∙ sym (terms.rolls-Variable name) in
      (ap root rolled ∙ root_rolled (Term-F.Variable name) ∙ sym is, ap offset rolled ∙ offset_rolled (Term-F.Variable name))

  pub alone-Integer : (number : ℤ) → term ≡ terms.Integer number → IsAlone term
  alone-Integer number is =
      let rolled = is ∙ sym (terms.rolls-Integer number) in
      (ap root rolled ∙ root_rolled (Term-F.Integer number) ∙ sym is, ap offset rolled ∙ offset_rolled (Term-F.Integer number))

  pub alone-Truth : (truth : Bool) → term ≡ terms.Truth truth → IsAlone term
  alone-Truth truth is =
      let rolled = is ∙ sym (terms.rolls-Truth truth) in
      (ap root rolled ∙ root_rolled (Term-F.Truth truth) ∙ sym is, ap offset rolled ∙ offset_rolled (Term-F.Truth truth))

  pub alone-Null : term ≡ terms.Null → IsAlone term
  alone-Null is =
      let rolled = is ∙ sym terms.rolls-Null in
      (ap root rolled ∙ root_rolled Term-F.Null ∙ sym is, ap offset rolled ∙ offset_rolled Term-F.Null)

  pub alone-List : (elements : List Term) → term ≡ terms.List elements → IsAlone term
  alone-List elements is =
      let rolled = is ∙ sym (terms.rolls-List elements) in (
        ap root rolled ∙ root_rolled (Term-F.List elements) ∙ ap terms.List (same_elements elements) ∙ sym is,
        ap offset rolled ∙ offset_rolled (Term-F.List elements),
      )

  pub alone-Unary : (operator : UnaryOperator) (a : Term) → term ≡ terms.Unary operator a → IsAlone term
  alone-Unary operator a is =
      let rolled = is ∙ sym (terms.rolls-Unary operator a) in
      (ap root rolled ∙ root_rolled (Term-F.Unary operator a) ∙ sym is, ap offset rolled ∙ offset_rolled (Term-F.Unary operator a))

  pub alone-Conditional : (a b c : Term) → term ≡ terms.Conditional a b c → IsAlone term
  alone-Conditional a b c is =
      let rolled = is ∙ sym (terms.rolls-Conditional a b c) in
      (ap root rolled ∙ root_rolled (Term-F.Conditional a b c) ∙ sym is, ap offset rolled ∙ offset_rolled (Term-F.Conditional a b c))

  pub alone-Update : (a b c : Term) → term ≡ terms.Update a b c → IsAlone term
  alone-Update a b c is =
      let rolled = is ∙ sym (terms.rolls-Update a b c) in
      (ap root rolled ∙ root_rolled (Term-F.Update a b c) ∙ sym is, ap offset rolled ∙ offset_rolled (Term-F.Update a b c))

  pub alone-Binary : (operator : BinaryOperator) (a b : Term) → term ≡ terms.Binary operator a b → (operator ≡ binary.Add → ⊥) → IsAlone term
  alone-Binary operator a b is h =
      let rolled = is ∙ sym (terms.rolls-Binary operator a b) in (
        ap root rolled ∙ root_rolled (Term-F.Binary operator a b) ∙ other_root operator (a, root a) (b, root b) h ∙ sym is,
        ap offset rolled ∙ offset_rolled (Term-F.Binary operator a b) ∙ other_offset operator (a, offset a) (b, offset b) h,
      )

  pub root-Add : (operator : BinaryOperator) (a b : Term) → term ≡ terms.Binary operator a b → operator ≡ binary.Add → root term ≡ root a
  root-Add operator a b is at =
      ap root (is ∙ ap (λ o. terms.Binary o a b) at ∙ sym (terms.rolls-Binary binary.Add a b)) ∙ root_rolled (Term-F.Binary binary.Add a b)

  pub offset-Add : (operator : BinaryOperator) (a b : Term) → term ≡ terms.Binary operator a b → operator ≡ binary.Add
      → offset term ≡ offset a ++ expanded b
  offset-Add operator a b is at =
      ap offset (is ∙ ap (λ o. terms.Binary o a b) at ∙ sym (terms.rolls-Binary binary.Add a b)) ∙ offset_rolled (Term-F.Binary binary.Add a b)

-- what is so of terms to which nothing is added, and stays so where a number is added, is so of all terms
module _ (P : Term → Type 0) (alone : (t : Term) → IsAlone t → P t) (sum : (a b : Term) → P a → P (terms.Binary binary.Add a b)) where
  abbrev Part : Type 0
  Part = (t : Term) × P t

  node_binary : (operator : BinaryOperator) (a b : Part) → P (terms.Binary operator a.0 b.0)
  node_binary binary.Add a b = sum a.0 b.0 a.1
  node_binary operator a b =
      let t = terms.Binary operator a.0 b.0 in alone t (alone-Binary t operator a.0 b.0 refl (λ e. cc))

  at : (x : Term-F Term) (t : Term) → roll-Term x ≡ t → P t → P (roll-Term x)
  at x t is h = subst P (sym is) h

  node : (y : Term-F Part) → P (roll-Term (map-Term Part Term (λ part. part.0) y))
  node (Term-F.Variable name) =
      at (Term-F.Variable name) (terms.Variable name) (terms.rolls-Variable name) (alone (terms.Variable name) (alone-Variable (terms.Variable name) name refl))
  node (Term-F.Integer n) =
      at (Term-F.Integer n) (terms.Integer n) (terms.rolls-Integer n) (alone (terms.Integer n) (alone-Integer (terms.Integer n) n refl))
  node (Term-F.Truth b) =
      at (Term-F.Truth b) (terms.Truth b) (terms.rolls-Truth b) (alone (terms.Truth b) (alone-Truth (terms.Truth b) b refl))
  node Term-F.Null = at Term-F.Null terms.Null terms.rolls-Null (alone terms.Null (alone-Null terms.Null refl))
  node (Term-F.List parts) =
      let elements = map (λ (part : Part). part.0) parts in
      at (Term-F.List elements) (terms.List elements) (terms.rolls-List elements) (alone (terms.List elements) (alone-List (terms.List elements) elements refl))
  node (Term-F.Unary operator a) =
      let t = terms.Unary operator a.0 in
      at (Term-F.Unary operator a.0) t (terms.rolls-Unary operator a.0) (alone t (alone-Unary t operator a.0 refl))
  node (Term-F.Binary operator a b) =
      at (Term-F.Binary operator a.0 b.0) (terms.Binary operator a.0 b.0) (terms.rolls-Binary operator a.0 b.0) (node_binary operator a b)
  node (Term-F.Conditional a b c) =
      let t = terms.Conditional a.0 b.0 c.0 in
      at (Term-F.Conditional a.0 b.0 c.0) t (terms.rolls-Conditional a.0 b.0 c.0) (alone t (alone-Conditional t a.0 b.0 c.0 refl))
  node (Term-F.Update a b c) =
      let t = terms.Update a.0 b.0 c.0 in
      at (Term-F.Update a.0 b.0 c.0) t (terms.rolls-Update a.0 b.0 c.0) (alone t (alone-Update t a.0 b.0 c.0 refl))

  pub ind-root : (t : Term) → P t
  ind-root = ind-Term P (λ x y is. subst (λ z. P (roll-Term z)) is (node y))
