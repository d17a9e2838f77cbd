-- Folding literals keeps a term's value and its sort.
use Rattle.std.proofs.Common.{◌≡◌, ℕ, Bool, true, false, ◌&&◌, cond, List, [], ◌∷◌, map, refl, ap, ◌∙◌, sym, subst, ℤ, Option, Some, None}
use Rattle.std.specs.Ordering.{is_eq}
use Rattle.std.specs.declared.cmp.Ordering.{Ordering}
use Rattle.std.specs.declared.cmp.Ordering.TheVariants.{Less, Equal, Greater}
use Rattle.std.specs.Option.{option_and_then}
use Rattle.rc_terms.specs.declared.term.Term.{Term, roll-Term}
use Rattle.rc_terms.specs.declared.term.Term.TheOpen.{Term-F}
use Rattle.rc_terms.specs.declared.term.Term.TheFolds.{map-Term, fold-roll-Term, para-roll-Term, ind-Term}
use Rattle.rc_terms.specs.declared.term.Term.TheVariants as terms
use Rattle.rc_terms.specs.declared.value.TermValue.{TermValue}
use Rattle.rc_terms.specs.declared.value.TermValue.TheVariants as values
use Rattle.rc_terms.specs.declared.sort.Sort.{Sort}
use Rattle.rc_terms.specs.declared.sort.Sort.TheVariants as sorts
use Rattle.rc_terms.specs.declared.operator.UnaryOperator.{UnaryOperator}
use Rattle.rc_terms.specs.declared.operator.BinaryOperator.{BinaryOperator}
use Rattle.rc_terms.specs.Operators.{truth_of, unary, binary}
use Rattle.rc_terms.specs.Evaluation.{Environment, value_of, value_step, passes_width}
use Rattle.rc_terms.specs.Sorting.{sort_under, sort_step, sort_of_value, same_sort, given, has, conditional_sort, unary_sort, binary_sort}
use Rattle.rc_terms.proofs.SortedTerms.{sort_of_value-value_of}
use Rattle.normal_forms.specs.Order.{term_order}
use Rattle.normal_forms.specs.Normal.{Names, folded_by_sort}
use Rattle.normal_forms.specs.Widths.{sorted_folding_passes}
use Rattle.normal_forms.specs.Polynomials.{parts_unary, parts_binary}
use Rattle.normal_forms.specs.Folding.{literal_step, is_literal, computable_step, is_computable, literal_of, truth_step, truth_literal, branch, chosen_step, chosen, folded, folding_passes}
use Rattle.normal_forms.proofs.Keys.{terms_apart}
use Rattle.normal_forms.proofs.Values.{value-Integer, value-Truth, value-Conditional}

pub both : (a b : Bool) → a && b ≡ true → (a ≡ true) × (b ≡ true)
both true b e = (refl, e)
both false b e = cc

pub computable_at : (x : Term-F Term) → is_computable (roll-Term x) ≡ computable_step (map-Term Term (Term × Bool) (λ part. (part, is_computable part)) x)
computable_at x = para-roll-Term Bool computable_step x

pub chosen_at : (x : Term-F Term) → chosen (roll-Term x) ≡ chosen_step (map-Term Term (Term × Term) (λ part. (part, chosen part)) x)
chosen_at x = para-roll-Term Term chosen_step x

pub same_elements : (elements : List Term)
    → map (λ (part : Term × Term). part.0) (map (λ (part : Term). (part, chosen part)) elements) ≡ elements
same_elements [] = refl
same_elements (element ∷ elements) = ap (λ l. element ∷ l) (same_elements elements)

-- what is chosen is the branch of a conditional term, or the term itself
module _ (P : Term → Term → Type 0) (same : (t : Term) → P t t)
    (settled : (a b c : Term) → P (branch (truth_literal a) b c (terms.Conditional a b c)) (terms.Conditional a b c)) where
  as_it_is : (t u : Term) → chosen t ≡ u → u ≡ t → P (chosen t) t
  as_it_is t u e is = subst (λ z. P z t) (sym (e ∙ is)) (same t)

  chosen_node : (x : Term-F Term) → P (chosen (roll-Term x)) (roll-Term x)
  chosen_node (Term-F.Variable name) =
      as_it_is (roll-Term (Term-F.Variable name)) (terms.Variable name) (chosen_at (Term-F.Variable name)) (sym (terms.rolls-Variable name))
  chosen_node (Term-F.Integer n) =
      as_it_is (roll-Term (Term-F.Integer n)) (terms.Integer n) (chosen_at (Term-F.Integer n)) (sym (terms.rolls-Integer n))
  chosen_node (Term-F.Truth b) =
      as_it_is (roll-Term (Term-F.Truth b)) (terms.Truth b) (chosen_at (Term-F.Truth b)) (sym (terms.rolls-Truth b))
  chosen_node Term-F.Null = as_it_is (roll-Term Term-F.Null) terms.Null (chosen_at Term-F.Null) (sym terms.rolls-Null)
  chosen_node (Term-F.List elements) =
      as_it_is (roll-Term (Term-F.List elements)) (terms.List elements)
      (chosen_at (Term-F.List elements) ∙ ap terms.List (same_elements elements)) (sym (terms.rolls-List elements))
  chosen_node (Term-F.Unary operator a) =
      as_it_is (roll-Term (Term-F.Unary operator a)) (terms.Unary operator a) (chosen_at (Term-F.Unary operator a)) (sym (terms.rolls-Unary operator a))
  chosen_node (Term-F.Binary operator a b) =
      as_it_is (roll-Term (Term-F.Binary operator a b)) (terms.Binary operator a b) (chosen_at (Term-F.Binary operator a b))
      (sym (terms.rolls-Binary operator a b))
  chosen_node (Term-F.Conditional a b c) =
      subst (λ z. P z (roll-Term (Term-F.Conditional a b c))) (sym (chosen_at (Term-F.Conditional a b c)))
      (subst (λ z. P (branch (truth_literal a) b c (terms.Conditional a b c)) z) (sym (terms.rolls-Conditional a b c)) (settled a b c))
  chosen_node (Term-F.Update a b c) =
      as_it_is (roll-Term (Term-F.Update a b c)) (terms.Update a b c) (chosen_at (Term-F.Update a b c)) (sym (terms.rolls-Update a b c))

  pub chosen_is : (t : Term) → P (chosen t) t
  chosen_is = ind-Term (λ t. P (chosen t) t) (λ x y is. chosen_node x)

order_equal : (o : Ordering) → is_eq o ≡ true → o ≡ Equal
order_equal Less e = cc
order_equal Equal e = refl
order_equal Greater e = cc

module _ (env : Environment) where
  abbrev value : Term → TermValue
  value t = value_of env t

  at : (x : Term-F Term) → value (roll-Term x) ≡ value_step env (map-Term Term TermValue value x)
  at x = fold-roll-Term TermValue (value_step env) x

  at_nothing : (x : Term-F Term) → value_of [] (roll-Term x) ≡ value_step [] (map-Term Term TermValue (value_of []) x)
  at_nothing x = fold-roll-Term TermValue (value_step []) x

  literal_node : (x : Term-F Term) → literal_step (map-Term Term Bool is_literal x) ≡ true → value (roll-Term x) ≡ value_of [] (roll-Term x)
  literal_node (Term-F.Integer n) e = at (Term-F.Integer n) ∙ sym (at_nothing (Term-F.Integer n))
  literal_node (Term-F.Truth b) e = at (Term-F.Truth b) ∙ sym (at_nothing (Term-F.Truth b))
  literal_node Term-F.Null e = at Term-F.Null ∙ sym (at_nothing Term-F.Null)
  literal_node x e = cc

  -- a literal's value hangs on no name
  literal_keeps : (t : Term) → is_literal t ≡ true → value t ≡ value_of [] t
  literal_keeps =
      ind-Term (λ t. is_literal t ≡ true → value t ≡ value_of [] t)
      (λ x y is e. literal_node x (sym (fold-roll-Term Bool literal_step x) ∙ e))

  computable_node : (x : Term-F Term) → computable_step (map-Term Term (Term × Bool) (λ part. (part, is_computable part)) x) ≡ true
      → value (roll-Term x) ≡ value_of [] (roll-Term x)
  computable_node (Term-F.Unary operator a) e =
      at (Term-F.Unary operator a) ∙ ap (unary operator) (literal_keeps a (both (parts_unary operator) (is_literal a) e).1)
      ∙ sym (at_nothing (Term-F.Unary operator a))
  computable_node (Term-F.Binary operator a b) e =
      let literals = both (is_literal a) (is_literal b) (both (parts_binary operator) (is_literal a && is_literal b) e).1 in
      at (Term-F.Binary operator a b) ∙ ap (λ v. binary operator v (value b)) (literal_keeps a literals.0)
      ∙ ap (binary operator (value_of [] a)) (literal_keeps b literals.1) ∙ sym (at_nothing (Term-F.Binary operator a b))
  computable_node x e = cc

  computable_keeps : (t : Term) → is_computable t ≡ true → value t ≡ value_of [] t
  computable_keeps =
      ind-Term (λ t. is_computable t ≡ true → value t ≡ value_of [] t) (λ x y is e. computable_node x (sym (computable_at x) ∙ e))

  literal_value : (v : TermValue) (t : Term) → value t ≡ v → value (literal_of v t) ≡ v
  literal_value (values.Integer n) t e = value-Integer env n
  literal_value (values.Truth b) t e = value-Truth env b
  literal_value v t e = e

  truth_node : (x : Term-F Term) (b : Bool) → truth_step (map-Term Term (Option Bool) truth_literal x) ≡ Some b → value (roll-Term x) ≡ values.Truth b
  truth_node (Term-F.Truth a) b e =
      let same : a ≡ b = cc in
      at (Term-F.Truth a) ∙ ap values.Truth same
  truth_node x b e = cc

  pub truth_value : (t : Term) (b : Bool) → truth_literal t ≡ Some b → value t ≡ values.Truth b
  truth_value =
      ind-Term (λ t. (b : Bool) → truth_literal t ≡ Some b → value t ≡ values.Truth b)
      (λ x y is b e. truth_node x b (sym (fold-roll-Term (Option Bool) truth_step x) ∙ e))

  either : (c : Bool) (v w : TermValue) → v ≡ w → cond c v w ≡ v
  either true v w e = refl
  either false v w e = sym e

  same_branch : (here : Bool) (a b c : Term) → is_eq (term_order b c) ≡ here
      → value (cond here b (terms.Conditional a b c)) ≡ value (terms.Conditional a b c)
  same_branch true a b c e =
      sym (value-Conditional env a b c ∙ either (truth_of (value a)) (value b) (value c) (ap value (terms_apart b c (order_equal (term_order b c) e))))
  same_branch false a b c e = refl

  branch_value : (o : Option Bool) (a b c : Term) → truth_literal a ≡ o
      → value (branch o b c (terms.Conditional a b c)) ≡ value (terms.Conditional a b c)
  branch_value (Some true) a b c e =
      sym (value-Conditional env a b c ∙ ap (λ v. cond (truth_of v) (value b) (value c)) (truth_value a true e))
  branch_value (Some false) a b c e =
      sym (value-Conditional env a b c ∙ ap (λ v. cond (truth_of v) (value b) (value c)) (truth_value a false e))
  branch_value None a b c e = same_branch (is_eq (term_order b c)) a b c refl

  folded_value : (here : Bool) (t : Term) → is_computable t ≡ here
      → value (cond here (literal_of (value_of [] t) t) (chosen t)) ≡ value t
  folded_value true t e =
      let same = computable_keeps t e in
      literal_value (value_of [] t) t same ∙ sym same
  folded_value false t e =
      chosen_is (λ u v. value u ≡ value v) (λ u. refl) (λ a b c. branch_value (truth_literal a) a b c refl) t

  pub folded_keeps : (t : Term) → value (folded t) ≡ value t
  folded_keeps t = folded_value (is_computable t) t refl

module _ (names : Names) where
  abbrev sort : Term → Option Sort
  sort t = sort_under names t

  sort_at : (x : Term-F Term) → sort (roll-Term x) ≡ sort_step names (map-Term Term (Option Sort) sort x)
  sort_at x = fold-roll-Term (Option Sort) (sort_step names) x

  closed_at : (x : Term-F Term) → sort_under [] (roll-Term x) ≡ sort_step [] (map-Term Term (Option Sort) (sort_under []) x)
  closed_at x = fold-roll-Term (Option Sort) (sort_step []) x

  literal_sorted : (x : Term-F Term) → literal_step (map-Term Term Bool is_literal x) ≡ true → sort (roll-Term x) ≡ sort_under [] (roll-Term x)
  literal_sorted (Term-F.Integer n) e = sort_at (Term-F.Integer n) ∙ sym (closed_at (Term-F.Integer n))
  literal_sorted (Term-F.Truth b) e = sort_at (Term-F.Truth b) ∙ sym (closed_at (Term-F.Truth b))
  literal_sorted Term-F.Null e = sort_at Term-F.Null ∙ sym (closed_at Term-F.Null)
  literal_sorted x e = cc

  literal_sort : (t : Term) → is_literal t ≡ true → sort t ≡ sort_under [] t
  literal_sort =
      ind-Term (λ t. is_literal t ≡ true → sort t ≡ sort_under [] t)
      (λ x y is e. literal_sorted x (sym (fold-roll-Term Bool literal_step x) ∙ e))

  computable_sorted : (x : Term-F Term) → computable_step (map-Term Term (Term × Bool) (λ part. (part, is_computable part)) x) ≡ true
      → sort (roll-Term x) ≡ sort_under [] (roll-Term x)
  computable_sorted (Term-F.Unary operator a) e =
      sort_at (Term-F.Unary operator a)
      ∙ ap (option_and_then (unary_sort operator)) (literal_sort a (both (parts_unary operator) (is_literal a) e).1)
      ∙ sym (closed_at (Term-F.Unary operator a))
  computable_sorted (Term-F.Binary operator a b) e =
      let literals = both (is_literal a) (is_literal b) (both (parts_binary operator) (is_literal a && is_literal b) e).1 in
      sort_at (Term-F.Binary operator a b)
      ∙ ap (λ s. option_and_then (λ first. option_and_then (binary_sort operator first) (sort b)) s) (literal_sort a literals.0)
      ∙ ap (λ s. option_and_then (λ first. option_and_then (binary_sort operator first) s) (sort_under [] a)) (literal_sort b literals.1)
      ∙ sym (closed_at (Term-F.Binary operator a b))
  computable_sorted x e = cc

  computable_sort : (t : Term) → is_computable t ≡ true → sort t ≡ sort_under [] t
  computable_sort =
      ind-Term (λ t. is_computable t ≡ true → sort t ≡ sort_under [] t) (λ x y is e. computable_sorted x (sym (computable_at x) ∙ e))

  literal_of_sort : (v : TermValue) (t : Term) (s : Sort) → sort t ≡ Some s → sort_of_value v ≡ s → sort (literal_of v t) ≡ Some s
  literal_of_sort (values.Integer n) t s e is =
      ap sort (sym (terms.rolls-Integer n)) ∙ sort_at (Term-F.Integer n) ∙ ap Some is
  literal_of_sort (values.Truth b) t s e is = ap sort (sym (terms.rolls-Truth b)) ∙ sort_at (Term-F.Truth b) ∙ ap Some is
  literal_of_sort v t s e is = e

  pub same_is : (s t : Sort) → same_sort s t ≡ true → s ≡ t
  same_is sorts.Int sorts.Int e = refl
  same_is sorts.Bool sorts.Bool e = refl
  same_is sorts.Loc sorts.Loc e = refl
  same_is sorts.List sorts.List e = refl
  same_is sorts.Val sorts.Val e = refl
  same_is s t e = cc

  pub has_is : (s : Sort) (o : Option Sort) → has s o ≡ true → o ≡ Some s
  has_is s None e = cc
  has_is s (Some t) e = ap Some (same_is t s e)

  pub given_is : (b : Bool) (s t : Sort) → given b s ≡ Some t → (b ≡ true) × (s ≡ t)
  given_is true s t e = (refl, cc)
  given_is false s t e = cc

  pub branch_sorts : (a b c : Option Sort) (s : Sort) → conditional_sort a b c ≡ Some s → (b ≡ Some s) × (c ≡ Some s)
  branch_sorts a None c s e = cc
  branch_sorts a (Some t) c s e =
      let is = given_is (has sorts.Bool a && has t c) t s e in
      let same : t ≡ s = is.1 in
      (ap Some same, has_is t c (both (has sorts.Bool a) (has t c) is.0).1 ∙ ap Some same)

  either_sort : (here : Bool) (a b : Term) (s : Sort) → sort a ≡ Some s → sort b ≡ Some s → sort (cond here a b) ≡ Some s
  either_sort true a b s e f = e
  either_sort false a b s e f = f

  branch_sort : (o : Option Bool) (a b c : Term) (s : Sort) → sort (terms.Conditional a b c) ≡ Some s → sort b ≡ Some s → sort c ≡ Some s
      → sort (branch o b c (terms.Conditional a b c)) ≡ Some s
  branch_sort (Some true) a b c s e f g = f
  branch_sort (Some false) a b c s e f g = g
  branch_sort None a b c s e f g = either_sort (is_eq (term_order b c)) b (terms.Conditional a b c) s f e

  settled_sort : (a b c : Term) (s : Sort) → sort (terms.Conditional a b c) ≡ Some s
      → sort (branch (truth_literal a) b c (terms.Conditional a b c)) ≡ Some s
  settled_sort a b c s e =
      let is = branch_sorts (sort a) (sort b) (sort c) s
      (sym (ap sort (sym (terms.rolls-Conditional a b c)) ∙ sort_at (Term-F.Conditional a b c)) ∙ e) in
      branch_sort (truth_literal a) a b c s e is.0 is.1

  folded_sorted : (here : Bool) (t : Term) (s : Sort) → is_computable t ≡ here → sort t ≡ Some s
      → sort (cond here (literal_of (value_of [] t) t) (chosen t)) ≡ Some s
  folded_sorted true t s e is =
      literal_of_sort (value_of [] t) t s is (sort_of_value-value_of [] t s (sym (computable_sort t e) ∙ is))
  folded_sorted false t s e is =
      chosen_is (λ u v. sort v ≡ Some s → sort u ≡ Some s) (λ u h. h) (λ a b c h. settled_sort a b c s h) t is

  pub folded_sort : (t : Term) (s : Sort) → sort t ≡ Some s → sort (folded t) ≡ Some s
  folded_sort t s = folded_sorted (is_computable t) t s refl

module _ (term : Term) where
  pub chosen-Conditional : (a b c : Term) → term ≡ terms.Conditional a b c → chosen term ≡ branch (truth_literal a) b c term
  chosen-Conditional a b c is =
      ap chosen (is ∙ sym (terms.rolls-Conditional a b c)) ∙ chosen_at (Term-F.Conditional a b c) ∙ ap (branch (truth_literal a) b c) (sym is)

  pub chosen_other : ((a b c : Term) → term ≡ terms.Conditional a b c → ⊥) → chosen term ≡ term
  chosen_other =
      chosen_is (λ u v. ((a b c : Term) → v ≡ terms.Conditional a b c → ⊥) → u ≡ v) (λ t h. refl) (λ a b c h. absurd (h a b c refl)) term

  pub computable-Unary : (operator : UnaryOperator) (a : Term) → term ≡ terms.Unary operator a
      → is_computable term ≡ parts_unary operator && is_literal a
  computable-Unary operator a is =
      ap is_computable (is ∙ sym (terms.rolls-Unary operator a)) ∙ computable_at (Term-F.Unary operator a)

  pub computable-Binary : (operator : BinaryOperator) (a b : Term) → term ≡ terms.Binary operator a b
      → is_computable term ≡ parts_binary operator && (is_literal a && is_literal b)
  computable-Binary operator a b is =
      ap is_computable (is ∙ sym (terms.rolls-Binary operator a b)) ∙ computable_at (Term-F.Binary operator a b)

computable_elsewhere : (x : Term-F Term) → ((operator : UnaryOperator) (a : Term) → roll-Term x ≡ terms.Unary operator a → ⊥)
    → ((operator : BinaryOperator) (a b : Term) → roll-Term x ≡ terms.Binary operator a b → ⊥) → is_computable (roll-Term x) ≡ false
computable_elsewhere (Term-F.Unary operator a) h g = absurd (h operator a (terms.rolls-Unary operator a))
computable_elsewhere (Term-F.Binary operator a b) h g = absurd (g operator a b (terms.rolls-Binary operator a b))
computable_elsewhere (Term-F.Variable name) h g = computable_at (Term-F.Variable name)
computable_elsewhere (Term-F.Integer n) h g = computable_at (Term-F.Integer n)
computable_elsewhere (Term-F.Truth b) h g = computable_at (Term-F.Truth b)
computable_elsewhere Term-F.Null h g = computable_at Term-F.Null
computable_elsewhere (Term-F.List elements) h g = computable_at (Term-F.List elements)
computable_elsewhere (Term-F.Conditional a b c) h g = computable_at (Term-F.Conditional a b c)
computable_elsewhere (Term-F.Update a b c) h g = computable_at (Term-F.Update a b c)

pub computable_other : (t : Term) → ((operator : UnaryOperator) (a : Term) → t ≡ terms.Unary operator a → ⊥)
    → ((operator : BinaryOperator) (a b : Term) → t ≡ terms.Binary operator a b → ⊥) → is_computable t ≡ false
computable_other =
    ind-Term (λ t. ((operator : UnaryOperator) (a : Term) → t ≡ terms.Unary operator a → ⊥)
    → ((operator : BinaryOperator) (a b : Term) → t ≡ terms.Binary operator a b → ⊥) → is_computable t ≡ false)
    (λ x y is h g. computable_elsewhere x h g)

folded_when : (t : Term) → is_computable t ≡ false → chosen t ≡ t → (folded t ≡ t) × (folding_passes t ≡ false)
folded_when t e f = (ap (λ b. cond b (literal_of (value_of [] t) t) (chosen t)) e ∙ f, ap (λ b. b && passes_width [] t) e)

pub unary_chosen : (operator : UnaryOperator) (a : Term) → chosen (terms.Unary operator a) ≡ terms.Unary operator a
unary_chosen operator a = ap chosen (sym (terms.rolls-Unary operator a)) ∙ chosen_at (Term-F.Unary operator a)

pub binary_chosen : (operator : BinaryOperator) (a b : Term) → chosen (terms.Binary operator a b) ≡ terms.Binary operator a b
binary_chosen operator a b = ap chosen (sym (terms.rolls-Binary operator a b)) ∙ chosen_at (Term-F.Binary operator a b)

abbrev pub IsFolded : Term → Type 0
IsFolded t = (folded t ≡ t) × (folding_passes t ≡ false)

pub plain-Unary : (t : Term) (operator : UnaryOperator) (a : Term) → t ≡ terms.Unary operator a → parts_unary operator ≡ false → IsFolded t
plain-Unary t operator a is e =
    folded_when t (computable-Unary t operator a is ∙ ap (λ b. b && is_literal a) e) (ap chosen is ∙ unary_chosen operator a ∙ sym is)

pub plain-Binary : (t : Term) (operator : BinaryOperator) (a b : Term) → t ≡ terms.Binary operator a b → parts_binary operator ≡ false → IsFolded t
plain-Binary t operator a b is e =
    folded_when t (computable-Binary t operator a b is ∙ ap (λ x. x && (is_literal a && is_literal b)) e)
    (ap chosen is ∙ binary_chosen operator a b ∙ sym is)

pub plain_other : (t : Term) → ((operator : UnaryOperator) (a : Term) → t ≡ terms.Unary operator a → ⊥)
    → ((operator : BinaryOperator) (a b : Term) → t ≡ terms.Binary operator a b → ⊥)
    → ((a b c : Term) → t ≡ terms.Conditional a b c → ⊥) → IsFolded t
plain_other t h g f = folded_when t (computable_other t h g) (chosen_other t f)

-- what folding leaves as it is, folding by the sort does as well
pub plain_sorted : (s : Option Sort) (t : Term) → IsFolded t → (folded_by_sort s t ≡ t) × (sorted_folding_passes s t ≡ false)
plain_sorted None t h = (refl, refl)
plain_sorted (Some s) t h = h
