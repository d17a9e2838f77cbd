-- A proposition in normal form is its own normal form.
use Rattle.std.proofs.Common.{◌≡◌, ℕ, Bool, true, false, not, ◌&&◌, cond, List, [], ◌∷◌, map, refl, ap, ◌∙◌, sym, subst, Option, Some, None}
use Rattle.std.specs.Ordering.{is_eq}
use Rattle.rc_terms.specs.declared.term.Term.{Term, roll-Term}
use Rattle.rc_terms.specs.declared.term.Term.TheOpen.{Term-F}
use Rattle.rc_terms.specs.declared.term.Term.TheFolds.{map-Term, fold-roll-Term, ind-Term}
use Rattle.rc_terms.specs.declared.term.Term.TheVariants as terms
use Rattle.rc_terms.specs.declared.value.TermValue.{TermValue}
use Rattle.rc_terms.specs.declared.value.TermValue.TheVariants as values
use Rattle.rc_terms.specs.declared.sort.Sort.{Sort}
use Rattle.rc_terms.specs.declared.sort.Sort.TheVariants as sorts
use Rattle.rc_terms.specs.declared.operator.UnaryOperator.{UnaryOperator}
use Rattle.rc_terms.specs.declared.operator.UnaryOperator.TheVariants as unary
use Rattle.rc_terms.specs.declared.operator.BinaryOperator.{BinaryOperator}
use Rattle.rc_terms.specs.declared.operator.BinaryOperator.TheVariants as binary
use Rattle.rc_terms.specs.Operators.{truth_of}
use Rattle.rc_terms.specs.Evaluation.{value_of}
use Rattle.rc_terms.specs.Sorting.{sort_under, sort_step}
use Rattle.normal_forms.specs.Order.{term_order}
use Rattle.normal_forms.specs.Polynomials.{parts_unary, parts_binary}
use Rattle.normal_forms.specs.declared.negation.Role.TheVariants as roles
use Rattle.normal_forms.specs.Negation.{signed, turned, role_of, pushed}
use Rattle.normal_forms.specs.Folding.{literal_step, is_literal, is_computable, literal_of, truth_literal, branch, chosen, folded}
use Rattle.normal_forms.specs.Normal.{Names, finished, staged}
use Rattle.normal_forms.proofs.Values.{value-Unary}
use Rattle.normal_forms.proofs.Foldings.{computable-Unary, computable_at, chosen_at, branch_sorts, unary_chosen, binary_chosen, same_elements}
use Rattle.normal_forms.proofs.Idempotence.{term_again}
use Rattle.normal_forms.proofs.PushedSorts.{pushed_sort, truth_parts, test_sort, operand_truth}
use Rattle.normal_forms.proofs.Pushes.{pushed-Variable, pushed-Truth, pushed-Integer, pushed-Null, pushed-List, pushed-Update, pushed-Not, pushed-Unary, pushed-Comparison, pushed-Connective, pushed-Implication, pushed-Opaque, pushed-Conditional}
use Rattle.normal_forms.proofs.Stages.{staged-Variable, staged-Integer, staged-Truth, staged-Null, staged-List, staged-Unary, staged-Binary, staged-Conditional, staged-Update}

-- a term whose negations are pushed stays as it is
abbrev IsPushed : Term → Type 0
IsPushed t = pushed t false ≡ t

literal_pushed : (v : TermValue) (t : Term) → IsPushed t → IsPushed (literal_of v t)
literal_pushed (values.Integer n) t h = pushed-Integer (terms.Integer n) false n refl
literal_pushed (values.Truth b) t h = pushed-Truth (terms.Truth b) false b refl
literal_pushed v t h = h

computed_pushed : (here : Bool) (t : Term) → chosen t ≡ t → IsPushed t → IsPushed (cond here (literal_of (value_of [] t) t) (chosen t))
computed_pushed true t e h = literal_pushed (value_of [] t) t h
computed_pushed false t e h = subst IsPushed (sym e) h

folded_pushed : (t : Term) → chosen t ≡ t → IsPushed t → IsPushed (folded t)
folded_pushed t e h = computed_pushed (is_computable t) t e h

literal_here : (x : Term-F Term) (t : Term) → roll-Term x ≡ t → literal_step (map-Term Term Bool is_literal x) ≡ true → is_literal t ≡ true
literal_here x t is e = ap is_literal (sym is) ∙ fold-roll-Term Bool literal_step x ∙ e

-- what stands behind a negation that folding leaves
literal_negated : (v : TermValue) (t : Term) → pushed t true ≡ terms.Unary unary.Not t → is_literal (literal_of v t) ≡ false
    → pushed (literal_of v t) true ≡ terms.Unary unary.Not (literal_of v t)
literal_negated (values.Integer n) t h e =
    let is : true ≡ false = sym (literal_here (Term-F.Integer n) (terms.Integer n) (terms.rolls-Integer n) refl) ∙ e in absurd cc
literal_negated (values.Truth b) t h e =
    let is : true ≡ false = sym (literal_here (Term-F.Truth b) (terms.Truth b) (terms.rolls-Truth b) refl) ∙ e in absurd cc
literal_negated v t h e = h

computed_negated : (here : Bool) (t : Term) → chosen t ≡ t → pushed t true ≡ terms.Unary unary.Not t
    → let w = cond here (literal_of (value_of [] t) t) (chosen t) in is_literal w ≡ false → pushed w true ≡ terms.Unary unary.Not w
computed_negated true t e h is = literal_negated (value_of [] t) t h is
computed_negated false t e h is = subst (λ u. pushed u true ≡ terms.Unary unary.Not u) (sym e) h

not_computed : (here : Bool) (w : Term) → is_computable (terms.Unary unary.Not w) ≡ here → (is_literal w ≡ false → pushed w true ≡ terms.Unary unary.Not w)
    → let t = terms.Unary unary.Not w in IsPushed (cond here (literal_of (value_of [] t) t) (chosen t))
not_computed true w e h =
    let t = terms.Unary unary.Not w in
    let value : value_of [] t ≡ values.Truth (not (truth_of (value_of [] w))) = value-Unary [] unary.Not w in
    subst (λ v. IsPushed (literal_of v t)) (sym value)
    (pushed-Truth (terms.Truth (not (truth_of (value_of [] w)))) false (not (truth_of (value_of [] w))) refl)
not_computed false w e h =
    let t = terms.Unary unary.Not w in
    let apart : is_literal w ≡ false = sym (computable-Unary t unary.Not w refl) ∙ e in
    subst IsPushed (sym (unary_chosen unary.Not w)) (pushed-Not t false unary.Not w refl refl ∙ h apart)

module _ (names : Names) where
  abbrev IsBool : Term → Type 0
  IsBool t = sort_under names t ≡ Some sorts.Bool

  abbrev whole : Term → Term
  whole t = staged names t true

  -- a proposition's normal form, from its node
  folds : (u inner : Term) → staged names u true ≡ finished (sort_under names u) inner true → IsBool u → whole u ≡ folded inner
  folds u inner e h = e ∙ ap (λ s. finished s inner true) h

  kept_as : (u inner : Term) → staged names u true ≡ finished (sort_under names u) inner true → IsBool u → chosen inner ≡ inner → IsPushed inner
      → IsPushed (whole u)
  kept_as u inner e h plain is = subst IsPushed (sym (folds u inner e h)) (folded_pushed inner plain is)

  abbrev Keeps : Term → Type 0
  Keeps t = (negative : Bool) → IsBool t → IsPushed (whole (pushed t negative))

  abbrev Part : Type 0
  Part = (t : Term) × Keeps t

  -- a node that keeps a negation before it
  signed_kept : (a inner : Term) (negative : Bool) → staged names a true ≡ finished (sort_under names a) inner true → IsBool a
      → IsBool (signed negative a) → chosen inner ≡ inner → ((n : Bool) → pushed inner n ≡ signed n inner) → IsPushed (whole (signed negative a))
  signed_kept a inner false e h g plain is = kept_as a inner e h plain (is false)
  signed_kept a inner true e h g plain is =
      let u = terms.Unary unary.Not a in
      let after = folds a inner e h in
      subst IsPushed
      (sym (folds u (terms.Unary unary.Not (whole a)) (staged-Unary names u true unary.Not a refl) g ∙ ap (λ w. folded (terms.Unary unary.Not w)) after))
      (not_computed (is_computable (terms.Unary unary.Not (folded inner))) (folded inner) refl
      (computed_negated (is_computable inner) inner plain (is true)))

  as_signed : (x : Term-F Term) (inner : Term) (negative : Bool) → ((n : Bool) → pushed (roll-Term x) n ≡ signed n (roll-Term x))
      → staged names (roll-Term x) true ≡ finished (sort_under names (roll-Term x)) inner true → chosen inner ≡ inner
      → ((n : Bool) → pushed inner n ≡ signed n inner) → IsBool (roll-Term x) → IsPushed (whole (pushed (roll-Term x) negative))
  as_signed x inner negative e f plain is h =
      let t = roll-Term x in
      subst (λ u. IsPushed (whole u)) (sym (e negative))
      (signed_kept t inner negative f h (ap (sort_under names) (sym (e negative)) ∙ pushed_sort names t negative h) plain is)

  turned_role : (operator : BinaryOperator) (negative : Bool) → roles.Comparison ≡ role_of operator → roles.Comparison ≡ role_of (turned true operator)
      → roles.Comparison ≡ role_of (turned negative operator)
  turned_role operator true e f = f
  turned_role operator false e f = e

  turned_parts : (operator : BinaryOperator) (negative : Bool) → parts_binary operator ≡ true → parts_binary (turned true operator) ≡ true
      → parts_binary (turned negative operator) ≡ true
  turned_parts operator true e f = f
  turned_parts operator false e f = e

  -- a node of two whole parts
  binary_kept : (operator : BinaryOperator) (a b : Term) → parts_binary operator ≡ true → IsBool (terms.Binary operator a b)
      → IsPushed (terms.Binary operator (whole a) (whole b)) → IsPushed (whole (terms.Binary operator a b))
  binary_kept operator a b e h is =
      let u = terms.Binary operator a b in
      kept_as u (terms.Binary operator (whole a) (whole b))
      (staged-Binary names u true operator a b refl
      ∙ ap (λ w. finished (sort_under names u) (terms.Binary operator (staged names a w) (staged names b w)) true) e)
      h (binary_chosen operator (whole a) (whole b)) is

  comparison : (operator : BinaryOperator) (a b : Term) (negative : Bool) → roles.Comparison ≡ role_of operator
      → roles.Comparison ≡ role_of (turned true operator) → parts_binary operator ≡ true → parts_binary (turned true operator) ≡ true
      → IsBool (roll-Term (Term-F.Binary operator a b)) → IsPushed (whole (pushed (roll-Term (Term-F.Binary operator a b)) negative))
  comparison operator a b negative e f p q h =
      let t = roll-Term (Term-F.Binary operator a b) in
      let after = turned negative operator in
      let is = pushed-Comparison t negative operator a b (terms.rolls-Binary operator a b) e in
      subst (λ u. IsPushed (whole u)) (sym is)
      (binary_kept after a b (turned_parts operator negative p q) (ap (sort_under names) (sym is) ∙ pushed_sort names t negative h)
      (pushed-Comparison (terms.Binary after (whole a) (whole b)) false after (whole a) (whole b) refl (turned_role operator negative e f)))

  both_pushed : (operator : BinaryOperator) (x y : Term) → roles.Connective ≡ role_of operator → IsPushed x → IsPushed y → IsPushed (terms.Binary operator x y)
  both_pushed operator x y e h g =
      pushed-Connective (terms.Binary operator x y) false operator x y refl e
      ∙ ap (λ z. terms.Binary operator z (pushed y false)) h ∙ ap (terms.Binary operator x) g

  implication_pushed : (x y : Term) → IsPushed x → IsPushed y → IsPushed (terms.Binary binary.Implies x y)
  implication_pushed x y h g =
      pushed-Implication (terms.Binary binary.Implies x y) false binary.Implies x y refl refl
      ∙ ap (λ z. terms.Binary binary.Implies z (pushed y false)) h ∙ ap (terms.Binary binary.Implies x) g

  -- a connective whose parts are pushed
  connected : (t : Term) (operator : BinaryOperator) (x y : Term) (negative : Bool) → pushed t negative ≡ terms.Binary operator x y
      → parts_binary operator ≡ true → IsBool t → IsPushed (terms.Binary operator (whole x) (whole y)) → IsPushed (whole (pushed t negative))
  connected t operator x y negative is p h after =
      subst (λ u. IsPushed (whole u)) (sym is)
      (binary_kept operator x y p (ap (sort_under names) (sym is) ∙ pushed_sort names t negative h) after)

  binary_keeps : (operator : BinaryOperator) (a b : Part) → Keeps (roll-Term (Term-F.Binary operator a.0 b.0))
  binary_keeps binary.Equal a b negative h = comparison binary.Equal a.0 b.0 negative refl refl refl refl h
  binary_keeps binary.Unequal a b negative h = comparison binary.Unequal a.0 b.0 negative refl refl refl refl h
  binary_keeps binary.Below a b negative h = comparison binary.Below a.0 b.0 negative refl refl refl refl h
  binary_keeps binary.AtMost a b negative h = comparison binary.AtMost a.0 b.0 negative refl refl refl refl h
  binary_keeps binary.Above a b negative h = comparison binary.Above a.0 b.0 negative refl refl refl refl h
  binary_keeps binary.AtLeast a b negative h = comparison binary.AtLeast a.0 b.0 negative refl refl refl refl h
  binary_keeps binary.And a b true h =
      let t = roll-Term (Term-F.Binary binary.And a.0 b.0) in
      let is = terms.rolls-Binary binary.And a.0 b.0 in
      let parts = truth_parts names binary.And a.0 b.0 refl (ap (sort_under names) (sym is) ∙ h) in
      connected t binary.Or (pushed a.0 true) (pushed b.0 true) true (pushed-Connective t true binary.And a.0 b.0 is refl) refl h
      (both_pushed binary.Or (whole (pushed a.0 true)) (whole (pushed b.0 true)) refl (a.1 true parts.0) (b.1 true parts.1))
  binary_keeps binary.And a b false h =
      let t = roll-Term (Term-F.Binary binary.And a.0 b.0) in
      let is = terms.rolls-Binary binary.And a.0 b.0 in
      let parts = truth_parts names binary.And a.0 b.0 refl (ap (sort_under names) (sym is) ∙ h) in
      connected t binary.And (pushed a.0 false) (pushed b.0 false) false (pushed-Connective t false binary.And a.0 b.0 is refl) refl h
      (both_pushed binary.And (whole (pushed a.0 false)) (whole (pushed b.0 false)) refl (a.1 false parts.0) (b.1 false parts.1))
  binary_keeps binary.Or a b true h =
      let t = roll-Term (Term-F.Binary binary.Or a.0 b.0) in
      let is = terms.rolls-Binary binary.Or a.0 b.0 in
      let parts = truth_parts names binary.Or a.0 b.0 refl (ap (sort_under names) (sym is) ∙ h) in
      connected t binary.And (pushed a.0 true) (pushed b.0 true) true (pushed-Connective t true binary.Or a.0 b.0 is refl) refl h
      (both_pushed binary.And (whole (pushed a.0 true)) (whole (pushed b.0 true)) refl (a.1 true parts.0) (b.1 true parts.1))
  binary_keeps binary.Or a b false h =
      let t = roll-Term (Term-F.Binary binary.Or a.0 b.0) in
      let is = terms.rolls-Binary binary.Or a.0 b.0 in
      let parts = truth_parts names binary.Or a.0 b.0 refl (ap (sort_under names) (sym is) ∙ h) in
      connected t binary.Or (pushed a.0 false) (pushed b.0 false) false (pushed-Connective t false binary.Or a.0 b.0 is refl) refl h
      (both_pushed binary.Or (whole (pushed a.0 false)) (whole (pushed b.0 false)) refl (a.1 false parts.0) (b.1 false parts.1))
  binary_keeps binary.Implies a b true h =
      let t = roll-Term (Term-F.Binary binary.Implies a.0 b.0) in
      let is = terms.rolls-Binary binary.Implies a.0 b.0 in
      let parts = truth_parts names binary.Implies a.0 b.0 refl (ap (sort_under names) (sym is) ∙ h) in
      connected t binary.And (pushed a.0 false) (pushed b.0 true) true (pushed-Implication t true binary.Implies a.0 b.0 is refl) refl h
      (both_pushed binary.And (whole (pushed a.0 false)) (whole (pushed b.0 true)) refl (a.1 false parts.0) (b.1 true parts.1))
  binary_keeps binary.Implies a b false h =
      let t = roll-Term (Term-F.Binary binary.Implies a.0 b.0) in
      let is = terms.rolls-Binary binary.Implies a.0 b.0 in
      let parts = truth_parts names binary.Implies a.0 b.0 refl (ap (sort_under names) (sym is) ∙ h) in
      connected t binary.Implies (pushed a.0 false) (pushed b.0 false) false (pushed-Implication t false binary.Implies a.0 b.0 is refl) refl h
      (implication_pushed (whole (pushed a.0 false)) (whole (pushed b.0 false)) (a.1 false parts.0) (b.1 false parts.1))
  binary_keeps operator a b negative h =
      let t = roll-Term (Term-F.Binary operator a.0 b.0) in
      let is = terms.rolls-Binary operator a.0 b.0 in
      let left = staged names a.0 (parts_binary operator) in
      let right = staged names b.0 (parts_binary operator) in
      as_signed (Term-F.Binary operator a.0 b.0) (terms.Binary operator left right) negative (λ n. pushed-Opaque t n operator a.0 b.0 is refl)
      (staged-Binary names t true operator a.0 b.0 is) (binary_chosen operator left right)
      (λ n. pushed-Opaque (terms.Binary operator left right) n operator left right refl refl) h

  unary_keeps : (operator : UnaryOperator) (a : Part) → Keeps (roll-Term (Term-F.Unary operator a.0))
  unary_keeps unary.Not a negative h =
      let t = roll-Term (Term-F.Unary unary.Not a.0) in
      let is = terms.rolls-Unary unary.Not a.0 in
      subst (λ u. IsPushed (whole u)) (sym (pushed-Not t negative unary.Not a.0 is refl))
      (a.1 (not negative) (operand_truth names a.0 (ap (sort_under names) (sym is) ∙ h)))
  unary_keeps operator a negative h =
      let t = roll-Term (Term-F.Unary operator a.0) in
      let is = terms.rolls-Unary operator a.0 in
      let part = staged names a.0 (parts_unary operator) in
      as_signed (Term-F.Unary operator a.0) (terms.Unary operator part) negative (λ n. pushed-Unary t n operator a.0 is (λ e. cc))
      (staged-Unary names t true operator a.0 is) (unary_chosen operator part)
      (λ n. pushed-Unary (terms.Unary operator part) n operator part refl (λ e. cc)) h

  either_pushed : (here : Bool) (y t : Term) → IsPushed y → IsPushed t → IsPushed (cond here y t)
  either_pushed true y t h g = h
  either_pushed false y t h g = g

  branch_pushed : (o : Option Bool) (y z t : Term) → IsPushed y → IsPushed z → IsPushed t → IsPushed (branch o y z t)
  branch_pushed (Some true) y z t h g f = h
  branch_pushed (Some false) y z t h g f = g
  branch_pushed None y z t h g f = either_pushed (is_eq (term_order y z)) y t h f

  conditional_keeps : (a b c : Part) → Keeps (roll-Term (Term-F.Conditional a.0 b.0 c.0))
  conditional_keeps a b c negative h =
      let t = roll-Term (Term-F.Conditional a.0 b.0 c.0) in
      let rolled = terms.rolls-Conditional a.0 b.0 c.0 in
      let is = pushed-Conditional t negative a.0 b.0 c.0 rolled in
      let sort_is = sym (fold-roll-Term (Option Sort) (sort_step names) (Term-F.Conditional a.0 b.0 c.0)) ∙ h in
      let branches = branch_sorts names (sort_under names a.0) (sort_under names b.0) (sort_under names c.0) sorts.Bool sort_is in
      let u = terms.Conditional (pushed a.0 false) (pushed b.0 negative) (pushed c.0 negative) in
      let x = whole (pushed a.0 false) in
      let y = whole (pushed b.0 negative) in
      let z = whole (pushed c.0 negative) in
      let inner = terms.Conditional x y z in
      let test = a.1 false (test_sort names (sort_under names a.0) (sort_under names b.0) (sort_under names c.0) sort_is) in
      let then = b.1 negative branches.0 in
      let otherwise = c.1 negative branches.1 in
      let inner_is : IsPushed inner =
      pushed-Conditional inner false x y z refl ∙ ap (λ s. terms.Conditional s (pushed y false) (pushed z false)) test
      ∙ ap (λ s. terms.Conditional x s (pushed z false)) then ∙ ap (terms.Conditional x y) otherwise in
      let after : folded inner ≡ branch (truth_literal x) y z inner =
      ap (λ s. cond s (literal_of (value_of [] inner) inner) (chosen inner))
      (ap is_computable (sym (terms.rolls-Conditional x y z)) ∙ computable_at (Term-F.Conditional x y z))
      ∙ ap chosen (sym (terms.rolls-Conditional x y z)) ∙ chosen_at (Term-F.Conditional x y z) in
      subst (λ v. IsPushed (whole v)) (sym is)
      (subst IsPushed
      (sym (folds u inner (staged-Conditional names u true (pushed a.0 false) (pushed b.0 negative) (pushed c.0 negative) refl)
      (ap (sort_under names) (sym is) ∙ pushed_sort names t negative h) ∙ after))
      (branch_pushed (truth_literal x) y z inner then otherwise inner_is))

  node_keeps : (v : Term-F Part) → Keeps (roll-Term (map-Term Part Term (λ part. part.0) v))
  node_keeps (Term-F.Variable name) negative h =
      let t = roll-Term (Term-F.Variable name) in
      let is = terms.rolls-Variable name in
      as_signed (Term-F.Variable name) t negative (λ n. pushed-Variable t n name is) (staged-Variable names t true name is)
      (chosen_at (Term-F.Variable name) ∙ sym is) (λ n. pushed-Variable t n name is) h
  node_keeps (Term-F.Integer k) negative h =
      let t = roll-Term (Term-F.Integer k) in
      let is = terms.rolls-Integer k in
      as_signed (Term-F.Integer k) t negative (λ n. pushed-Integer t n k is) (staged-Integer names t true k is)
      (chosen_at (Term-F.Integer k) ∙ sym is) (λ n. pushed-Integer t n k is) h
  node_keeps (Term-F.Truth b) negative h =
      let t = roll-Term (Term-F.Truth b) in
      let is = pushed-Truth t negative b (terms.rolls-Truth b) in
      let after = cond negative (not b) b in
      let u = terms.Truth after in
      subst (λ v. IsPushed (whole v)) (sym is)
      (kept_as u u (staged-Truth names u true after refl) (ap (sort_under names) (sym is) ∙ pushed_sort names t negative h)
      (ap chosen (sym (terms.rolls-Truth after)) ∙ chosen_at (Term-F.Truth after)) (pushed-Truth u false after refl))
  node_keeps Term-F.Null negative h =
      let t = roll-Term Term-F.Null in
      let is = terms.rolls-Null in
      as_signed Term-F.Null t negative (λ n. pushed-Null t n is) (staged-Null names t true is)
      (chosen_at Term-F.Null ∙ sym is) (λ n. pushed-Null t n is) h
  node_keeps (Term-F.List parts) negative h =
      let elements = map (λ (part : Part). part.0) parts in
      let t = roll-Term (Term-F.List elements) in
      let is = terms.rolls-List elements in
      let after = map (λ u. whole u) elements in
      as_signed (Term-F.List elements) (terms.List after) negative (λ n. pushed-List t n elements is) (staged-List names t true elements is)
      (ap chosen (sym (terms.rolls-List after)) ∙ chosen_at (Term-F.List after) ∙ ap terms.List (same_elements after))
      (λ n. pushed-List (terms.List after) n after refl) h
  node_keeps (Term-F.Unary operator a) negative h = unary_keeps operator a negative h
  node_keeps (Term-F.Binary operator a b) negative h = binary_keeps operator a b negative h
  node_keeps (Term-F.Conditional a b c) negative h = conditional_keeps a b c negative h
  node_keeps (Term-F.Update a b c) negative h =
      let t = roll-Term (Term-F.Update a.0 b.0 c.0) in
      let is = terms.rolls-Update a.0 b.0 c.0 in
      let x = whole a.0 in
      let y = whole b.0 in
      let z = whole c.0 in
      as_signed (Term-F.Update a.0 b.0 c.0) (terms.Update x y z) negative (λ n. pushed-Update t n a.0 b.0 c.0 is)
      (staged-Update names t true a.0 b.0 c.0 is) (ap chosen (sym (terms.rolls-Update x y z)) ∙ chosen_at (Term-F.Update x y z))
      (λ n. pushed-Update (terms.Update x y z) n x y z refl) h

  pushed_kept : (t : Term) → Keeps t
  pushed_kept = ind-Term Keeps (λ x y is. subst (λ z. Keeps (roll-Term z)) is (node_keeps y))

  pub prop_again : (t : Term) → IsBool t → whole (pushed (whole (pushed t false)) false) ≡ whole (pushed t false)
  prop_again t h = ap (λ u. whole u) (pushed_kept t false h) ∙ term_again names (pushed t false)
