-- The summands of each form of node, and what signs do to sums.
use Rattle.std.proofs.Common.{◌≡◌, ℕ, Bool, true, false, not, List, [], ◌∷◌, ◌++◌, map, refl, ap, ◌∙◌, sym, ℤ, negsuc, ◌*ℤ◌, Result, Ok, Err, arith}
use Rattle.std.proofs.lemmas.Int.{ints}
use Rattle.std.specs.Result.{OnOk}
use Rattle.rc_terms.specs.declared.term.Term.{Term, roll-Term}
use Rattle.rc_terms.specs.declared.term.Term.TheOpen.{Term-F}
use Rattle.rc_terms.specs.declared.term.Term.TheFolds.{map-Term, para-roll-Term}
use Rattle.rc_terms.specs.declared.term.Term.TheVariants as terms
use Rattle.rc_terms.specs.declared.operator.UnaryOperator.{UnaryOperator}
use Rattle.rc_terms.specs.declared.operator.UnaryOperator.TheVariants as unary
use Rattle.rc_terms.specs.declared.operator.BinaryOperator.{BinaryOperator}
use Rattle.rc_terms.specs.declared.operator.BinaryOperator.TheVariants as binary
use Rattle.normal_forms.specs.declared.summand.Summand.{Summand}
use Rattle.normal_forms.specs.Polynomials.{constant, opaque, times, multiplied, products, Expansion, unary_expanded, binary_expanded, expanded_step, expanded}
use Rattle.normal_forms.specs.Scanning.{signed_sum}
use Rattle.normal_forms.proofs.Integers.{mul_assoc}

-- the answer of a call that writes what is equal
pub told : {A E X : Type 0} (r : Result A E) (new x y : X) → x ≡ y → OnOk r (new ≡ x) → OnOk r (new ≡ y)
told (Ok v) new x y e h = h ∙ e
told (Err v) new x y e h = tt

rolled_by : (x : Term-F Term) → expanded (roll-Term x) ≡ expanded_step (map-Term Term Expansion (λ part. (part, expanded part)) x)
rolled_by x = para-roll-Term (List Summand) expanded_step x

whole_elements : (elements : List Term)
    → map (λ (part : Expansion). part.0) (map (λ (part : Term). (part, expanded part)) elements) ≡ elements
whole_elements [] = refl
whole_elements (element ∷ elements) = ap (λ l. element ∷ l) (whole_elements elements)

other_unary : (operator : UnaryOperator) (a : Expansion) → (operator ≡ unary.Negative → ⊥)
    → unary_expanded operator a ≡ opaque (terms.Unary operator a.0) ∷ []
other_unary unary.Negative a h = absurd (h refl)
other_unary operator a h = refl

other_binary : (operator : BinaryOperator) (a b : Expansion)
    → (operator ≡ binary.Add → ⊥) → (operator ≡ binary.Subtract → ⊥) → (operator ≡ binary.Multiply → ⊥)
    → binary_expanded operator a b ≡ opaque (terms.Binary operator a.0 b.0) ∷ []
other_binary binary.Add a b h g f = absurd (h refl)
other_binary binary.Subtract a b h g f = absurd (g refl)
other_binary binary.Multiply a b h g f = absurd (f refl)
other_binary operator a b h g f = refl

module _ (term : Term) where
  whole : (x : Term-F Term) → term ≡ roll-Term x → expanded term ≡ expanded_step (map-Term Term Expansion (λ part. (part, expanded part)) x)
  whole x is = ap expanded is ∙ rolled_by x

  pub expanded-Variable : (name : List ℕ) → term ≡ terms.Variable name → expanded term ≡ opaque term ∷ []
  expanded-Variable name is = whole (Term-F.Variable name) (is ∙ sym (terms.rolls-Variable name)) ∙ ap (λ t. opaque t ∷ []) (sym is)

  pub expanded-Truth : (truth : Bool) → term ≡ terms.Truth truth → expanded term ≡ opaque term ∷ []
  expanded-Truth truth is = whole (Term-F.Truth truth) (is ∙ sym (terms.rolls-Truth truth)) ∙ ap (λ t. opaque t ∷ []) (sym is)

  pub expanded-Null : term ≡ terms.Null → expanded term ≡ opaque term ∷ []
  expanded-Null is = whole Term-F.Null (is ∙ sym terms.rolls-Null) ∙ ap (λ t. opaque t ∷ []) (sym is)

  pub expanded-List : (elements : List Term) → term ≡ terms.List elements → expanded term ≡ opaque term ∷ []
  expanded-List elements is =
      whole (Term-F.List elements) (is ∙ sym (terms.rolls-List elements))
      ∙ ap (λ l. opaque (terms.List l) ∷ []) (whole_elements elements) ∙ ap (λ t. opaque t ∷ []) (sym is)

  pub expanded-Conditional : (a b c : Term) → term ≡ terms.Conditional a b c → expanded term ≡ opaque term ∷ []
  expanded-Conditional a b c is =
      whole (Term-F.Conditional a b c) (is ∙ sym (terms.rolls-Conditional a b c)) ∙ ap (λ t. opaque t ∷ []) (sym is)

  pub expanded-Update : (a b c : Term) → term ≡ terms.Update a b c → expanded term ≡ opaque term ∷ []
  expanded-Update a b c is =
      whole (Term-F.Update a b c) (is ∙ sym (terms.rolls-Update a b c)) ∙ ap (λ t. opaque t ∷ []) (sym is)

  pub expanded-Integer : (number : ℤ) → term ≡ terms.Integer number → expanded term ≡ constant number ∷ []
  expanded-Integer number is = whole (Term-F.Integer number) (is ∙ sym (terms.rolls-Integer number))

  pub expanded-Negative : (operator : UnaryOperator) (a : Term) → term ≡ terms.Unary operator a → operator ≡ unary.Negative
      → expanded term ≡ map (times (negsuc 0)) (expanded a)
  expanded-Negative operator a is at =
      whole (Term-F.Unary unary.Negative a) (is ∙ ap (λ o. terms.Unary o a) at ∙ sym (terms.rolls-Unary unary.Negative a))

  pub expanded-Unary : (operator : UnaryOperator) (a : Term) → term ≡ terms.Unary operator a → (operator ≡ unary.Negative → ⊥)
      → expanded term ≡ opaque term ∷ []
  expanded-Unary operator a is h =
      whole (Term-F.Unary operator a) (is ∙ sym (terms.rolls-Unary operator a))
      ∙ other_unary operator (a, expanded a) h ∙ ap (λ t. opaque t ∷ []) (sym is)

  at_operator : (operator given : BinaryOperator) (a b : Term) → term ≡ terms.Binary operator a b → operator ≡ given
      → expanded term ≡ binary_expanded given (a, expanded a) (b, expanded b)
  at_operator operator given a b is at =
      whole (Term-F.Binary given a b) (is ∙ ap (λ o. terms.Binary o a b) at ∙ sym (terms.rolls-Binary given a b))

  pub expanded-Add : (operator : BinaryOperator) (a b : Term) → term ≡ terms.Binary operator a b → operator ≡ binary.Add
      → expanded term ≡ expanded a ++ expanded b
  expanded-Add operator a b is at = at_operator operator binary.Add a b is at

  pub expanded-Subtract : (operator : BinaryOperator) (a b : Term) → term ≡ terms.Binary operator a b → operator ≡ binary.Subtract
      → expanded term ≡ expanded a ++ map (times (negsuc 0)) (expanded b)
  expanded-Subtract operator a b is at = at_operator operator binary.Subtract a b is at

  pub expanded-Multiply : (operator : BinaryOperator) (a b : Term) → term ≡ terms.Binary operator a b → operator ≡ binary.Multiply
      → expanded term ≡ products (expanded a) (expanded b)
  expanded-Multiply operator a b is at = at_operator operator binary.Multiply a b is at

  pub expanded-Binary : (operator : BinaryOperator) (a b : Term) → term ≡ terms.Binary operator a b
      → (operator ≡ binary.Add → ⊥) → (operator ≡ binary.Subtract → ⊥) → (operator ≡ binary.Multiply → ⊥)
      → expanded term ≡ opaque term ∷ []
  expanded-Binary operator a b is h g f =
      whole (Term-F.Binary operator a b) (is ∙ sym (terms.rolls-Binary operator a b))
      ∙ other_binary operator (a, expanded a) (b, expanded b) h g f ∙ ap (λ t. opaque t ∷ []) (sym is)

opposite_twice : (k : ℤ) → negsuc 0 *ℤ (negsuc 0 *ℤ k) ≡ k
opposite_twice k = sym (mul_assoc (negsuc 0) (negsuc 0) k) ∙ omega (arith, ints)

opposites_twice : (l : List Summand) → map (times (negsuc 0)) (map (times (negsuc 0)) l) ≡ l
opposites_twice [] = refl
opposites_twice (s ∷ l) =
    ap (λ k. record { factor = k; product = s.product } ∷ map (times (negsuc 0)) (map (times (negsuc 0)) l)) (opposite_twice s.factor)
    ∙ ap (λ m. s ∷ m) (opposites_twice l)

pub signed-opposite : (negative : Bool) (l : List Summand) → signed_sum (not negative) l ≡ signed_sum negative (map (times (negsuc 0)) l)
signed-opposite true l = sym (opposites_twice l)
signed-opposite false l = refl

times-append : (k : ℤ) (a b : List Summand) → map (times k) (a ++ b) ≡ map (times k) a ++ map (times k) b
times-append k [] b = refl
times-append k (s ∷ a) b = ap (λ l. times k s ∷ l) (times-append k a b)

pub signed-append : (negative : Bool) (a b : List Summand) → signed_sum negative (a ++ b) ≡ signed_sum negative a ++ signed_sum negative b
signed-append true a b = times-append (negsuc 0) a b
signed-append false a b = refl

times-multiplied : (k : ℤ) (s : Summand) (b : List Summand) → map (multiplied (times k s)) b ≡ map (times k) (map (multiplied s) b)
times-multiplied k s [] = refl
times-multiplied k s (r ∷ b) =
    ap (λ n. record { factor = n; product = s.product ++ r.product } ∷ map (multiplied (times k s)) b) (mul_assoc k s.factor r.factor)
    ∙ ap (λ l. times k (multiplied s r) ∷ l) (times-multiplied k s b)

times-products : (k : ℤ) (a b : List Summand) → products (map (times k) a) b ≡ map (times k) (products a b)
times-products k [] b = refl
times-products k (s ∷ a) b =
    ap (λ l. l ++ products (map (times k) a) b) (times-multiplied k s b)
    ∙ ap (λ l. map (times k) (map (multiplied s) b) ++ l) (times-products k a b)
    ∙ sym (times-append k (map (multiplied s) b) (products a b))

pub signed-products : (negative : Bool) (a b : List Summand) → products (signed_sum negative a) b ≡ signed_sum negative (products a b)
signed-products true a b = times-products (negsuc 0) a b
signed-products false a b = refl
