-- What the summands of a number multiply is numbers; so a number in normal form has its value.
use Rattle.std.proofs.Common.{◌≡◌, ℕ, List, [], ◌∷◌, ◌++◌, map, refl, ap, ◌∙◌, sym, subst, ℤ, negsuc, Option, Some}
use Rattle.rc_terms.specs.declared.term.Term.{Term, roll-Term}
use Rattle.rc_terms.specs.declared.term.Term.TheOpen.{Term-F}
use Rattle.rc_terms.specs.declared.term.Term.TheFolds.{map-Term, fold-roll-Term, para-roll-Term, ind-Term}
use Rattle.rc_terms.specs.declared.term.Term.TheVariants as terms
use Rattle.rc_terms.specs.declared.value.TermValue.{TermValue}
use Rattle.rc_terms.specs.declared.value.TermValue.TheVariants as values
use Rattle.rc_terms.specs.declared.sort.Sort.{Sort}
use Rattle.rc_terms.specs.declared.sort.Sort.TheVariants as sorts
use Rattle.rc_terms.specs.declared.operator.UnaryOperator.{UnaryOperator}
use Rattle.rc_terms.specs.declared.operator.UnaryOperator.TheVariants as unary
use Rattle.rc_terms.specs.declared.operator.BinaryOperator.{BinaryOperator}
use Rattle.rc_terms.specs.declared.operator.BinaryOperator.TheVariants as binary
use Rattle.rc_terms.specs.Operators.{number_of}
use Rattle.rc_terms.specs.Evaluation.{Environment, value_of}
use Rattle.rc_terms.specs.Sorting.{sort_under, sort_step, sorts_of, sort_of_value}
use Rattle.rc_terms.proofs.SortedTerms.{sort_of_value-value_of}
use Rattle.normal_forms.specs.declared.summand.Summand.{Summand}
use Rattle.normal_forms.specs.Polynomials.{opaque, times, multiplied, products, Expansion, unary_expanded, binary_expanded, expanded_step, expanded}
use Rattle.normal_forms.specs.Sums.{normal_sum}
use Rattle.normal_forms.proofs.Expansions.{add_sorts, subtract_sorts, multiply_sorts, operand_sorts, operand_sort, sum-expanded}
use Rattle.normal_forms.proofs.SumValues.{IsWhole, AllAre, SummandsAre, summed-gathered}

whole_value : (v : TermValue) → sort_of_value v ≡ sorts.Int → v ≡ values.Integer (number_of v)
whole_value (values.Integer n) e = refl
whole_value (values.Truth t) e = cc
whole_value (values.Location l) e = cc
whole_value (values.List l) e = cc
whole_value (values.Bytes l) e = cc

module _ (names : List (List ℕ × Sort)) (Q : Term → Type 0) (so : (t : Term) → sort_under names t ≡ Some sorts.Int → Q t) where
  all_append : (a b : List Term) → AllAre Q a → AllAre Q b → AllAre Q (a ++ b)
  all_append [] b h g = g
  all_append (t ∷ a) b h g = (h.0, all_append a b h.1 g)

  sums_append : (a b : List Summand) → SummandsAre Q a → SummandsAre Q b → SummandsAre Q (a ++ b)
  sums_append [] b h g = g
  sums_append (s ∷ a) b h g = (h.0, sums_append a b h.1 g)

  times_whole : (k : ℤ) (a : List Summand) → SummandsAre Q a → SummandsAre Q (map (times k) a)
  times_whole k [] h = tt
  times_whole k (s ∷ a) h = (h.0, times_whole k a h.1)

  multiplied_whole : (s : Summand) (b : List Summand) → AllAre Q s.product → SummandsAre Q b → SummandsAre Q (map (multiplied s) b)
  multiplied_whole s [] h g = tt
  multiplied_whole s (r ∷ b) h g = (all_append s.product r.product h g.0, multiplied_whole s b h g.1)

  products_whole : (a b : List Summand) → SummandsAre Q a → SummandsAre Q b → SummandsAre Q (products a b)
  products_whole [] b h g = tt
  products_whole (s ∷ a) b h g =
      sums_append (map (multiplied s) b) (products a b) (multiplied_whole s b h.0 g) (products_whole a b h.1 g)

  abbrev IsNumber : Term → Type 0
  IsNumber term = sort_under names term ≡ Some sorts.Int

  abbrev HasWholes : Term → Type 0
  HasWholes term = IsNumber term → SummandsAre Q (expanded term)

  abbrev Part : Type 0
  Part = (term : Term) × HasWholes term

  rolled_by : (x : Term-F Term) → expanded (roll-Term x) ≡ expanded_step (map-Term Term Expansion (λ part. (part, expanded part)) x)
  rolled_by x = para-roll-Term (List Summand) expanded_step x

  sorted_as : (x : Term-F Term) → sort_under names (roll-Term x) ≡ sort_step names (map-Term Term (Option Sort) (sort_under names) x)
  sorted_as x = fold-roll-Term (Option Sort) (sort_step names) x

  opaque_whole : (x : Term-F Term) (t : Term) → roll-Term x ≡ t → IsNumber (roll-Term x) → SummandsAre Q (opaque t ∷ [])
  opaque_whole x t is s = ((subst Q is (so (roll-Term x) s), tt), tt)

  moved : {a b : List Summand} → a ≡ b → SummandsAre Q b → SummandsAre Q a
  moved e h = subst (SummandsAre Q) (sym e) h

  binary_whole : (operator : BinaryOperator) (a b : Part) → IsNumber (roll-Term (Term-F.Binary operator a.0 b.0))
      → SummandsAre Q (binary_expanded operator (a.0, expanded a.0) (b.0, expanded b.0))
  binary_whole binary.Add a b s =
      let sorted = operand_sorts binary.Add (sort_under names a.0) (sort_under names b.0) add_sorts
      (sym (sorted_as (Term-F.Binary binary.Add a.0 b.0)) ∙ s) in
      sums_append (expanded a.0) (expanded b.0) (a.1 sorted.0) (b.1 sorted.1)
  binary_whole binary.Subtract a b s =
      let sorted = operand_sorts binary.Subtract (sort_under names a.0) (sort_under names b.0) subtract_sorts
      (sym (sorted_as (Term-F.Binary binary.Subtract a.0 b.0)) ∙ s) in
      sums_append (expanded a.0) (map (times (negsuc 0)) (expanded b.0)) (a.1 sorted.0) (times_whole (negsuc 0) (expanded b.0) (b.1 sorted.1))
  binary_whole binary.Multiply a b s =
      let sorted = operand_sorts binary.Multiply (sort_under names a.0) (sort_under names b.0) multiply_sorts
      (sym (sorted_as (Term-F.Binary binary.Multiply a.0 b.0)) ∙ s) in
      products_whole (expanded a.0) (expanded b.0) (a.1 sorted.0) (b.1 sorted.1)
  binary_whole operator a b s = opaque_whole (Term-F.Binary operator a.0 b.0) (terms.Binary operator a.0 b.0) (terms.rolls-Binary operator a.0 b.0) s

  unary_whole : (operator : UnaryOperator) (a : Part) → IsNumber (roll-Term (Term-F.Unary operator a.0))
      → SummandsAre Q (unary_expanded operator (a.0, expanded a.0))
  unary_whole unary.Negative a s =
      let sorted = operand_sort (sort_under names a.0) (sym (sorted_as (Term-F.Unary unary.Negative a.0)) ∙ s) in
      times_whole (negsuc 0) (expanded a.0) (a.1 sorted)
  unary_whole operator a s = opaque_whole (Term-F.Unary operator a.0) (terms.Unary operator a.0) (terms.rolls-Unary operator a.0) s

  whole_elements : (elements : List Term)
      → map (λ (part : Expansion). part.0) (map (λ (part : Term). (part, expanded part)) elements) ≡ elements
  whole_elements [] = refl
  whole_elements (element ∷ elements) = ap (λ l. element ∷ l) (whole_elements elements)

  node_whole : (y : Term-F Part) → HasWholes (roll-Term (map-Term Part Term (λ part. part.0) y))
  node_whole (Term-F.Variable name) s =
      moved (rolled_by (Term-F.Variable name)) (opaque_whole (Term-F.Variable name) (terms.Variable name) (terms.rolls-Variable name) s)
  node_whole (Term-F.Integer n) s = moved (rolled_by (Term-F.Integer n)) (tt, tt)
  node_whole (Term-F.Truth t) s = moved (rolled_by (Term-F.Truth t)) (opaque_whole (Term-F.Truth t) (terms.Truth t) (terms.rolls-Truth t) s)
  node_whole Term-F.Null s = moved (rolled_by Term-F.Null) (opaque_whole Term-F.Null terms.Null terms.rolls-Null s)
  node_whole (Term-F.List parts) s =
      let elements = map (λ (part : Part). part.0) parts in
      moved (rolled_by (Term-F.List elements) ∙ ap (λ l. opaque (terms.List l) ∷ []) (whole_elements elements))
      (opaque_whole (Term-F.List elements) (terms.List elements) (terms.rolls-List elements) s)
  node_whole (Term-F.Unary operator a) s = moved (rolled_by (Term-F.Unary operator a.0)) (unary_whole operator a s)
  node_whole (Term-F.Binary operator a b) s = moved (rolled_by (Term-F.Binary operator a.0 b.0)) (binary_whole operator a b s)
  node_whole (Term-F.Conditional a b c) s =
      moved (rolled_by (Term-F.Conditional a.0 b.0 c.0))
      (opaque_whole (Term-F.Conditional a.0 b.0 c.0) (terms.Conditional a.0 b.0 c.0) (terms.rolls-Conditional a.0 b.0 c.0) s)
  node_whole (Term-F.Update a b c) s =
      moved (rolled_by (Term-F.Update a.0 b.0 c.0))
      (opaque_whole (Term-F.Update a.0 b.0 c.0) (terms.Update a.0 b.0 c.0) (terms.rolls-Update a.0 b.0 c.0) s)

  pub expanded_whole : (term : Term) → HasWholes term
  expanded_whole = ind-Term HasWholes (λ x y is. subst (λ z. HasWholes (roll-Term z)) is (node_whole y))

module _ (env : Environment) where
  pub number_is_whole : (t : Term) → sort_under (sorts_of env) t ≡ Some sorts.Int → IsWhole env t
  number_is_whole t s = whole_value (value_of env t) (sort_of_value-value_of env t sorts.Int s)

  pub normal_sum_keeps : (term : Term) → sort_under (sorts_of env) term ≡ Some sorts.Int → value_of env (normal_sum term) ≡ value_of env term
  normal_sum_keeps term s =
      summed-gathered env (expanded term) (expanded_whole (sorts_of env) (IsWhole env) number_is_whole term s)
      ∙ ap values.Integer (sym (sum-expanded env term s)) ∙ sym (number_is_whole term s)
