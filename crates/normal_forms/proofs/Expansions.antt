-- A term of the sort of numbers is what its summands add up to.
use Rattle.std.proofs.Common.{◌≡◌, List, [], ◌∷◌, ◌++◌, map, refl, ap, ◌∙◌, sym, subst, ℤ, pos, negsuc, ◌+ℤ◌, ◌-ℤ◌, ◌*ℤ◌, neg_ℤ, Option, Some, None}
use Rattle.std.specs.Option.{option_and_then}
use Rattle.std.proofs.Math.IntN.{*ℤ-zero, zero-*ℤ, +ℤ_assoc, +ℤ_idl, +ℤ_idr}
use Rattle.rc_terms.specs.declared.term.Term.{Term, roll-Term}
use Rattle.rc_terms.specs.declared.term.Term.TheOpen.{Term-F}
use Rattle.rc_terms.specs.declared.term.Term.TheFolds.{map-Term, fold-roll-Term, para-roll-Term, ind-Term}
use Rattle.rc_terms.specs.declared.term.Term.TheVariants as terms
use Rattle.rc_terms.specs.declared.value.TermValue.{TermValue}
use Rattle.rc_terms.specs.declared.value.TermValue.TheVariants as values
use Rattle.rc_terms.specs.declared.sort.Sort.{Sort}
use Rattle.rc_terms.specs.declared.sort.Sort.TheVariants as sorts
use Rattle.rc_terms.specs.declared.operator.UnaryOperator.{UnaryOperator}
use Rattle.rc_terms.specs.declared.operator.UnaryOperator.TheVariants as unary
use Rattle.rc_terms.specs.declared.operator.BinaryOperator.{BinaryOperator}
use Rattle.rc_terms.specs.declared.operator.BinaryOperator.TheVariants as binary
use Rattle.rc_terms.specs.Operators.{number_of, plus}
use Rattle.rc_terms.specs.Evaluation.{Environment, value_of, value_step}
use Rattle.rc_terms.specs.Sorting.{sort_under, sort_step, sorts_of, sort_of_value, unary_sort, binary_sort}
use Rattle.rc_terms.proofs.SortedTerms.{sort_of_value-value_of}
use Rattle.normal_forms.specs.declared.summand.Summand.{Summand}
use Rattle.normal_forms.specs.Polynomials.{constant, opaque, times, multiplied, products, Expansion, unary_expanded, binary_expanded, expanded_step, expanded, product_value, sum_value}
use Rattle.normal_forms.proofs.Integers.{mul_add, add_mul, mul_assoc, mul_one, one_mul, minus_one, minus_is, products_meet}
use Rattle.normal_forms.proofs.Values.{value-Integer}

plus_number : (a b : TermValue) → sort_of_value a ≡ sorts.Int → number_of (plus a b) ≡ number_of a +ℤ number_of b
plus_number (values.Integer n) b e = refl
plus_number (values.Truth t) b e = refl
plus_number (values.Location l) b e = cc
plus_number (values.List l) b e = refl
plus_number (values.Bytes l) b e = refl

-- the operands of a sum, a difference and a product that is a number are numbers
pub add_sorts : (a b : Sort) → binary_sort binary.Add a b ≡ Some sorts.Int → (a ≡ sorts.Int) × (b ≡ sorts.Int)
add_sorts sorts.Int sorts.Int e = (refl, refl)
add_sorts sorts.Loc sorts.Int e = cc
add_sorts sorts.Loc sorts.Bool e = cc
add_sorts sorts.Loc sorts.Loc e = cc
add_sorts sorts.Loc sorts.List e = cc
add_sorts sorts.Loc sorts.Val e = cc
add_sorts a b e = cc

pub subtract_sorts : (a b : Sort) → binary_sort binary.Subtract a b ≡ Some sorts.Int → (a ≡ sorts.Int) × (b ≡ sorts.Int)
subtract_sorts sorts.Int sorts.Int e = (refl, refl)
subtract_sorts a b e = cc

pub multiply_sorts : (a b : Sort) → binary_sort binary.Multiply a b ≡ Some sorts.Int → (a ≡ sorts.Int) × (b ≡ sorts.Int)
multiply_sorts sorts.Int sorts.Int e = (refl, refl)
multiply_sorts a b e = cc

negative_sort : (a : Sort) → unary_sort unary.Negative a ≡ Some sorts.Int → a ≡ sorts.Int
negative_sort sorts.Int e = refl
negative_sort a e = cc

pub operand_sorts : (operator : BinaryOperator) (x y : Option Sort)
    → ((a b : Sort) → binary_sort operator a b ≡ Some sorts.Int → (a ≡ sorts.Int) × (b ≡ sorts.Int))
    → option_and_then (λ first. option_and_then (binary_sort operator first) y) x ≡ Some sorts.Int
    → (x ≡ Some sorts.Int) × (y ≡ Some sorts.Int)
operand_sorts operator None y are e = cc
operand_sorts operator (Some a) None are e = cc
operand_sorts operator (Some a) (Some b) are e = let h = are a b e in (ap Some h.0, ap Some h.1)

pub operand_sort : (x : Option Sort) → option_and_then (unary_sort unary.Negative) x ≡ Some sorts.Int → x ≡ Some sorts.Int
operand_sort None e = cc
operand_sort (Some a) e = ap Some (negative_sort a e)

module _ (env : Environment) where
  pub product-append : (a b : List Term) → product_value env (a ++ b) ≡ product_value env a *ℤ product_value env b
  product-append [] b = sym (one_mul (product_value env b))
  product-append (t ∷ a) b =
      ap (λ x. number_of (value_of env t) *ℤ x) (product-append a b)
      ∙ sym (mul_assoc (number_of (value_of env t)) (product_value env a) (product_value env b))

  pub sum-append : (a b : List Summand) → sum_value env (a ++ b) ≡ sum_value env a +ℤ sum_value env b
  sum-append [] b = sym (+ℤ_idl (sum_value env b))
  sum-append (s ∷ a) b =
      ap (λ x. s.factor *ℤ product_value env s.product +ℤ x) (sum-append a b)
      ∙ sym (+ℤ_assoc (s.factor *ℤ product_value env s.product) (sum_value env a) (sum_value env b))

  pub sum-times : (k : ℤ) (a : List Summand) → sum_value env (map (times k) a) ≡ k *ℤ sum_value env a
  sum-times k [] = sym (*ℤ-zero k)
  sum-times k (s ∷ a) =
      ap (λ x. (k *ℤ s.factor) *ℤ product_value env s.product +ℤ x) (sum-times k a)
      ∙ ap (λ x. x +ℤ k *ℤ sum_value env a) (mul_assoc k s.factor (product_value env s.product))
      ∙ sym (mul_add k (s.factor *ℤ product_value env s.product) (sum_value env a))

  sum-multiplied : (s : Summand) (b : List Summand)
      → sum_value env (map (multiplied s) b) ≡ (s.factor *ℤ product_value env s.product) *ℤ sum_value env b
  sum-multiplied s [] = sym (*ℤ-zero (s.factor *ℤ product_value env s.product))
  sum-multiplied s (r ∷ b) =
      ap (λ x. (s.factor *ℤ r.factor) *ℤ product_value env (s.product ++ r.product) +ℤ x) (sum-multiplied s b)
      ∙ ap (λ x. (s.factor *ℤ r.factor) *ℤ x +ℤ (s.factor *ℤ product_value env s.product) *ℤ sum_value env b) (product-append s.product r.product)
      ∙ ap (λ x. x +ℤ (s.factor *ℤ product_value env s.product) *ℤ sum_value env b)
      (products_meet s.factor r.factor (product_value env s.product) (product_value env r.product))
      ∙ sym (mul_add (s.factor *ℤ product_value env s.product) (r.factor *ℤ product_value env r.product) (sum_value env b))

  pub sum-products : (a b : List Summand) → sum_value env (products a b) ≡ sum_value env a *ℤ sum_value env b
  sum-products [] b = sym (zero-*ℤ (sum_value env b))
  sum-products (s ∷ a) b =
      sum-append (map (multiplied s) b) (products a b)
      ∙ ap (λ x. x +ℤ sum_value env (products a b)) (sum-multiplied s b)
      ∙ ap (λ x. (s.factor *ℤ product_value env s.product) *ℤ sum_value env b +ℤ x) (sum-products a b)
      ∙ sym (add_mul (s.factor *ℤ product_value env s.product) (sum_value env a) (sum_value env b))

  sum-opaque : (t : Term) → sum_value env (opaque t ∷ []) ≡ number_of (value_of env t)
  sum-opaque t =
      +ℤ_idr (pos 1 *ℤ (number_of (value_of env t) *ℤ pos 1))
      ∙ one_mul (number_of (value_of env t) *ℤ pos 1) ∙ mul_one (number_of (value_of env t))

  sum-constant : (n : ℤ) → sum_value env (constant n ∷ []) ≡ n
  sum-constant n = +ℤ_idr (n *ℤ pos 1) ∙ mul_one n

  abbrev number : Term → ℤ
  number term = number_of (value_of env term)

  abbrev IsNumber : Term → Type 0
  IsNumber term = sort_under (sorts_of env) term ≡ Some sorts.Int

  abbrev Keeps : Term → Type 0
  Keeps term = IsNumber term → number term ≡ sum_value env (expanded term)

  abbrev Part : Type 0
  Part = (term : Term) × Keeps term

  rolled_by : (x : Term-F Term) → expanded (roll-Term x) ≡ expanded_step (map-Term Term Expansion (λ part. (part, expanded part)) x)
  rolled_by x = para-roll-Term (List Summand) expanded_step x

  sorted_as : (x : Term-F Term) → sort_under (sorts_of env) (roll-Term x) ≡ sort_step (sorts_of env) (map-Term Term (Option Sort) (sort_under (sorts_of env)) x)
  sorted_as x = fold-roll-Term (Option Sort) (sort_step (sorts_of env)) x

  valued_as : (x : Term-F Term) → value_of env (roll-Term x) ≡ value_step env (map-Term Term TermValue (value_of env) x)
  valued_as x = fold-roll-Term TermValue (value_step env) x

  -- a node that is opaque
  kept_whole : (x : Term-F Term) (t : Term) → roll-Term x ≡ t → expanded (roll-Term x) ≡ opaque t ∷ [] → number (roll-Term x) ≡ sum_value env (expanded (roll-Term x))
  kept_whole x t is e = ap number is ∙ sym (sum-opaque t) ∙ ap (sum_value env) (sym e)

  add_keeps : (a b : Part) → IsNumber (roll-Term (Term-F.Binary binary.Add a.0 b.0))
      → number (roll-Term (Term-F.Binary binary.Add a.0 b.0)) ≡ sum_value env (expanded a.0 ++ expanded b.0)
  add_keeps a b s =
      let sorted = operand_sorts binary.Add (sort_under (sorts_of env) a.0) (sort_under (sorts_of env) b.0) add_sorts
      (sym (sorted_as (Term-F.Binary binary.Add a.0 b.0)) ∙ s) in
      ap number_of (valued_as (Term-F.Binary binary.Add a.0 b.0))
      ∙ plus_number (value_of env a.0) (value_of env b.0) (sort_of_value-value_of env a.0 sorts.Int sorted.0)
      ∙ ap (λ x. x +ℤ number b.0) (a.1 sorted.0) ∙ ap (λ x. sum_value env (expanded a.0) +ℤ x) (b.1 sorted.1)
      ∙ sym (sum-append (expanded a.0) (expanded b.0))

  subtract_keeps : (a b : Part) → IsNumber (roll-Term (Term-F.Binary binary.Subtract a.0 b.0))
      → number (roll-Term (Term-F.Binary binary.Subtract a.0 b.0)) ≡ sum_value env (expanded a.0 ++ map (times (negsuc 0)) (expanded b.0))
  subtract_keeps a b s =
      let sorted = operand_sorts binary.Subtract (sort_under (sorts_of env) a.0) (sort_under (sorts_of env) b.0) subtract_sorts
      (sym (sorted_as (Term-F.Binary binary.Subtract a.0 b.0)) ∙ s) in
      ap number_of (valued_as (Term-F.Binary binary.Subtract a.0 b.0))
      ∙ ap (λ x. x -ℤ number b.0) (a.1 sorted.0) ∙ ap (λ x. sum_value env (expanded a.0) -ℤ x) (b.1 sorted.1)
      ∙ minus_is (sum_value env (expanded a.0)) (sum_value env (expanded b.0))
      ∙ ap (λ x. sum_value env (expanded a.0) +ℤ x) (sym (sum-times (negsuc 0) (expanded b.0)))
      ∙ sym (sum-append (expanded a.0) (map (times (negsuc 0)) (expanded b.0)))

  multiply_keeps : (a b : Part) → IsNumber (roll-Term (Term-F.Binary binary.Multiply a.0 b.0))
      → number (roll-Term (Term-F.Binary binary.Multiply a.0 b.0)) ≡ sum_value env (products (expanded a.0) (expanded b.0))
  multiply_keeps a b s =
      let sorted = operand_sorts binary.Multiply (sort_under (sorts_of env) a.0) (sort_under (sorts_of env) b.0) multiply_sorts
      (sym (sorted_as (Term-F.Binary binary.Multiply a.0 b.0)) ∙ s) in
      ap number_of (valued_as (Term-F.Binary binary.Multiply a.0 b.0))
      ∙ ap (λ x. x *ℤ number b.0) (a.1 sorted.0) ∙ ap (λ x. sum_value env (expanded a.0) *ℤ x) (b.1 sorted.1)
      ∙ sym (sum-products (expanded a.0) (expanded b.0))

  negative_keeps : (a : Part) → IsNumber (roll-Term (Term-F.Unary unary.Negative a.0))
      → number (roll-Term (Term-F.Unary unary.Negative a.0)) ≡ sum_value env (map (times (negsuc 0)) (expanded a.0))
  negative_keeps a s =
      let sorted = operand_sort (sort_under (sorts_of env) a.0) (sym (sorted_as (Term-F.Unary unary.Negative a.0)) ∙ s) in
      ap number_of (valued_as (Term-F.Unary unary.Negative a.0))
      ∙ ap neg_ℤ (a.1 sorted) ∙ sym (minus_one (sum_value env (expanded a.0)))
      ∙ sym (sum-times (negsuc 0) (expanded a.0))

  binary_keeps : (operator : BinaryOperator) (a b : Part) → IsNumber (roll-Term (Term-F.Binary operator a.0 b.0))
      → number (roll-Term (Term-F.Binary operator a.0 b.0)) ≡ sum_value env (binary_expanded operator (a.0, expanded a.0) (b.0, expanded b.0))
  binary_keeps binary.Add a b s = add_keeps a b s
  binary_keeps binary.Subtract a b s = subtract_keeps a b s
  binary_keeps binary.Multiply a b s = multiply_keeps a b s
  binary_keeps operator a b s = ap number (terms.rolls-Binary operator a.0 b.0) ∙ sym (sum-opaque (terms.Binary operator a.0 b.0))

  unary_keeps : (operator : UnaryOperator) (a : Part) → IsNumber (roll-Term (Term-F.Unary operator a.0))
      → number (roll-Term (Term-F.Unary operator a.0)) ≡ sum_value env (unary_expanded operator (a.0, expanded a.0))
  unary_keeps unary.Negative a s = negative_keeps a s
  unary_keeps operator a s = ap number (terms.rolls-Unary operator a.0) ∙ sym (sum-opaque (terms.Unary operator a.0))

  whole_elements : (elements : List Term)
      → map (λ (part : Expansion). part.0) (map (λ (part : Term). (part, expanded part)) elements) ≡ elements
  whole_elements [] = refl
  whole_elements (element ∷ elements) = ap (λ l. element ∷ l) (whole_elements elements)

  node_keeps : (y : Term-F Part) → Keeps (roll-Term (map-Term Part Term (λ part. part.0) y))
  node_keeps (Term-F.Variable name) s = kept_whole (Term-F.Variable name) (terms.Variable name) (terms.rolls-Variable name) (rolled_by (Term-F.Variable name))
  node_keeps (Term-F.Integer n) s =
      ap number (terms.rolls-Integer n) ∙ ap number_of (value-Integer env n) ∙ sym (sum-constant n) ∙ ap (sum_value env) (sym (rolled_by (Term-F.Integer n)))
  node_keeps (Term-F.Truth t) s = kept_whole (Term-F.Truth t) (terms.Truth t) (terms.rolls-Truth t) (rolled_by (Term-F.Truth t))
  node_keeps Term-F.Null s = kept_whole Term-F.Null terms.Null terms.rolls-Null (rolled_by Term-F.Null)
  node_keeps (Term-F.List parts) s =
      let elements = map (λ (part : Part). part.0) parts in
      kept_whole (Term-F.List elements) (terms.List elements) (terms.rolls-List elements)
      (rolled_by (Term-F.List elements) ∙ ap (λ l. opaque (terms.List l) ∷ []) (whole_elements elements))
  node_keeps (Term-F.Unary operator a) s = unary_keeps operator a s ∙ ap (sum_value env) (sym (rolled_by (Term-F.Unary operator a.0)))
  node_keeps (Term-F.Binary operator a b) s = binary_keeps operator a b s ∙ ap (sum_value env) (sym (rolled_by (Term-F.Binary operator a.0 b.0)))
  node_keeps (Term-F.Conditional a b c) s =
      kept_whole (Term-F.Conditional a.0 b.0 c.0) (terms.Conditional a.0 b.0 c.0) (terms.rolls-Conditional a.0 b.0 c.0) (rolled_by (Term-F.Conditional a.0 b.0 c.0))
  node_keeps (Term-F.Update a b c) s =
      kept_whole (Term-F.Update a.0 b.0 c.0) (terms.Update a.0 b.0 c.0) (terms.rolls-Update a.0 b.0 c.0) (rolled_by (Term-F.Update a.0 b.0 c.0))

  pub sum-expanded : (term : Term) → Keeps term
  sum-expanded = ind-Term Keeps (λ x y is. subst (λ z. Keeps (roll-Term z)) is (node_keeps y))
