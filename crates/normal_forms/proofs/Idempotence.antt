-- A term in normal form is its own normal form.
use Rattle.std.proofs.Common.{◌≡◌, ℕ, Bool, true, false, ◌&&◌, cond, List, [], ◌∷◌, ◌++◌, map, refl, ap, ◌∙◌, sym, subst, negsuc, Option, Some, None}
use Rattle.std.specs.Option.{option_and_then}
use Rattle.std.specs.List.{list_all}
use Rattle.std.specs.Ordering.{is_eq}
use Rattle.rc_terms.specs.declared.term.Term.{Term, roll-Term}
use Rattle.rc_terms.specs.declared.term.Term.TheOpen.{Term-F}
use Rattle.rc_terms.specs.declared.term.Term.TheFolds.{map-Term, fold-roll-Term, ind-Term}
use Rattle.rc_terms.specs.declared.term.Term.TheVariants as terms
use Rattle.rc_terms.specs.declared.sort.Sort.{Sort}
use Rattle.rc_terms.specs.declared.sort.Sort.TheVariants as sorts
use Rattle.rc_terms.specs.declared.operator.UnaryOperator.{UnaryOperator}
use Rattle.rc_terms.specs.declared.operator.UnaryOperator.TheVariants as unary
use Rattle.rc_terms.specs.declared.operator.BinaryOperator.{BinaryOperator}
use Rattle.rc_terms.specs.declared.operator.BinaryOperator.TheVariants as binary
use Rattle.rc_terms.specs.Evaluation.{value_of}
use Rattle.rc_terms.specs.Sorting.{sort_under, sort_step, given, has, unary_sort, binary_sort, conditional_sort}
use Rattle.normal_forms.specs.Order.{term_order}
use Rattle.normal_forms.specs.Polynomials.{parts_unary, parts_binary, times, products, expanded}
use Rattle.normal_forms.specs.Locations.{root, offset}
use Rattle.normal_forms.specs.Folding.{is_literal, is_computable, literal_of, truth_literal, branch, chosen}
use Rattle.normal_forms.specs.Normal.{Names, folded_by_sort, finished, staged}
use Rattle.normal_forms.proofs.Again.{IsOpaque, sums_append, sums_times, sums_products}
use Rattle.normal_forms.proofs.Expands.{expanded-Variable, expanded-Truth, expanded-Null, expanded-List, expanded-Unary, expanded-Negative, expanded-Add, expanded-Subtract, expanded-Multiply, expanded-Binary, expanded-Conditional, expanded-Update}
use Rattle.normal_forms.proofs.Expansions.{add_sorts, subtract_sorts, multiply_sorts, operand_sorts, operand_sort}
use Rattle.normal_forms.proofs.Foldings.{computable_at, chosen_at, same_elements, branch_sorts}
use Rattle.normal_forms.proofs.LocationLaws.{parts_sorts}
use Rattle.normal_forms.proofs.Roots.{IsAlone, root-Add, offset-Add, alone-Variable, alone-Truth, alone-Null, alone-List, alone-Unary, alone-Binary, alone-Conditional, alone-Update}
use Rattle.normal_forms.proofs.Settled.{Stable, Settled, Good, good, kept, integer_stable, integer_settled, settled_opaque, opaque_settled, folded_plain, ring_plain}
use Rattle.normal_forms.proofs.StageLaws.{staged_sort}
use Rattle.normal_forms.proofs.Stages.{staged-Variable, staged-Truth, staged-Null, staged-List, staged-Unary, staged-Binary, staged-Conditional, staged-Update}
use Rattle.normal_forms.proofs.SumValues.{SummandsAre}

module _ (names : Names) where
  abbrev sort : Term → Option Sort
  sort t = sort_under names t

  abbrev loose : Term → Term
  loose t = staged names t false

  abbrev whole : Term → Term
  whole t = staged names t true

  abbrev Part : Type 0
  Part = (t : Term) × Good names t

  at : (x : Term-F Term) → sort (roll-Term x) ≡ sort_step names (map-Term Term (Option Sort) sort x)
  at x = fold-roll-Term (Option Sort) (sort_step names) x

  round : (t : Term) (x : Term-F Term) → roll-Term x ≡ t → sort t ≡ sort_step names (map-Term Term (Option Sort) sort x)
  round t x is = ap sort (sym is) ∙ at x

  -- a node that is no sum and no conditional term
  opaque_node : (t inner : Term) → ((w : Bool) → staged names t w ≡ finished (sort t) inner w) → sort inner ≡ sort t
      → loose inner ≡ folded_by_sort (sort inner) inner → chosen inner ≡ inner → IsOpaque inner → IsAlone inner → Good names t
  opaque_node t inner e same again plain is alone =
      good names t
      (subst (Settled names (sort t)) (sym (e false))
      (opaque_settled names (sort t) (sort t) inner (again ∙ ap (λ s. folded_by_sort s inner) same) plain is alone))

  -- a node of a sum
  ring_node : (t inner : Term) → ((w : Bool) → staged names t w ≡ finished (sort t) inner w) → sort inner ≡ sort t
      → loose inner ≡ folded_by_sort (sort inner) inner → ((s : Option Sort) → folded_by_sort s inner ≡ inner)
      → (sort t ≡ Some sorts.Int → SummandsAre (Stable names) (expanded inner))
      → (Stable names inner → sort t ≡ Some sorts.Loc → Stable names (root inner) × SummandsAre (Stable names) (offset inner)) → Good names t
  ring_node t inner e same again plain sums at_root =
      let stable : Stable names inner = again ∙ plain (sort inner) in
      good names t (subst (Settled names (sort t)) (sym (e false ∙ plain (sort t))) (stable, sums, at_root stable))

  alone_root : (inner : Term) → IsAlone inner → Stable names inner → Stable names (root inner) × SummandsAre (Stable names) (offset inner)
  alone_root inner alone stable = (subst (Stable names) (sym alone.0) stable, subst (SummandsAre (Stable names)) (sym alone.1) tt)

  unary_again : (operator : UnaryOperator) (a : Part)
      → let inner = terms.Unary operator (staged names a.0 (parts_unary operator)) in loose inner ≡ folded_by_sort (sort inner) inner
  unary_again operator a =
      let part = staged names a.0 (parts_unary operator) in
      let inner = terms.Unary operator part in
      staged-Unary names inner false operator part refl
      ∙ ap (λ x. folded_by_sort (sort inner) (terms.Unary operator x)) (kept names a.0 (parts_unary operator) a.1)

  unary_same : (operator : UnaryOperator) (a : Term)
      → sort (terms.Unary operator (staged names a (parts_unary operator))) ≡ sort (roll-Term (Term-F.Unary operator a))
  unary_same operator a =
      let part = staged names a (parts_unary operator) in
      round (terms.Unary operator part) (Term-F.Unary operator part) (terms.rolls-Unary operator part)
      ∙ ap (option_and_then (unary_sort operator)) (staged_sort names a (parts_unary operator)) ∙ sym (at (Term-F.Unary operator a))

  unary_chosen : (operator : UnaryOperator) (a : Term) → chosen (terms.Unary operator a) ≡ terms.Unary operator a
  unary_chosen operator a = ap chosen (sym (terms.rolls-Unary operator a)) ∙ chosen_at (Term-F.Unary operator a)

  negative_plain : (a : Term) (s : Option Sort) → folded_by_sort s (terms.Unary unary.Negative a) ≡ terms.Unary unary.Negative a
  negative_plain a s =
      folded_plain names s (terms.Unary unary.Negative a)
      (ap is_computable (sym (terms.rolls-Unary unary.Negative a)) ∙ computable_at (Term-F.Unary unary.Negative a)) (unary_chosen unary.Negative a)

  unary_good : (operator : UnaryOperator) (a : Part) → Good names (roll-Term (Term-F.Unary operator a.0))
  unary_good unary.Negative a =
      let t = roll-Term (Term-F.Unary unary.Negative a.0) in
      let inner = terms.Unary unary.Negative (loose a.0) in
      ring_node t inner (λ w. staged-Unary names t w unary.Negative a.0 (terms.rolls-Unary unary.Negative a.0)) (unary_same unary.Negative a.0)
      (unary_again unary.Negative a) (negative_plain (loose a.0))
      (λ s. subst (SummandsAre (Stable names)) (sym (expanded-Negative inner unary.Negative (loose a.0) refl refl))
      (sums_times (Stable names) (negsuc 0) (expanded (loose a.0))
      (a.1.0.1 (operand_sort (sort a.0) (sym (at (Term-F.Unary unary.Negative a.0)) ∙ s)))))
      (λ stable s. alone_root inner (alone-Unary inner unary.Negative (loose a.0) refl) stable)
  unary_good operator a =
      let t = roll-Term (Term-F.Unary operator a.0) in
      let part = staged names a.0 (parts_unary operator) in
      let inner = terms.Unary operator part in
      opaque_node t inner (λ w. staged-Unary names t w operator a.0 (terms.rolls-Unary operator a.0)) (unary_same operator a.0)
      (unary_again operator a) (unary_chosen operator part)
      (expanded-Unary inner operator part refl (λ e. cc)) (alone-Unary inner operator part refl)

  binary_again : (operator : BinaryOperator) (a b : Part)
      → let inner = terms.Binary operator (staged names a.0 (parts_binary operator)) (staged names b.0 (parts_binary operator)) in
      loose inner ≡ folded_by_sort (sort inner) inner
  binary_again operator a b =
      let left = staged names a.0 (parts_binary operator) in
      let right = staged names b.0 (parts_binary operator) in
      let inner = terms.Binary operator left right in
      staged-Binary names inner false operator left right refl
      ∙ ap (λ x. folded_by_sort (sort inner) (terms.Binary operator x (staged names right (parts_binary operator)))) (kept names a.0 (parts_binary operator) a.1)
      ∙ ap (λ x. folded_by_sort (sort inner) (terms.Binary operator left x)) (kept names b.0 (parts_binary operator) b.1)

  binary_same : (operator : BinaryOperator) (a b : Term)
      → sort (terms.Binary operator (staged names a (parts_binary operator)) (staged names b (parts_binary operator)))
      ≡ sort (roll-Term (Term-F.Binary operator a b))
  binary_same operator a b =
      let left = staged names a (parts_binary operator) in
      let right = staged names b (parts_binary operator) in
      round (terms.Binary operator left right) (Term-F.Binary operator left right) (terms.rolls-Binary operator left right)
      ∙ ap (λ s. option_and_then (λ first. option_and_then (binary_sort operator first) (sort right)) s) (staged_sort names a (parts_binary operator))
      ∙ ap (λ s. option_and_then (λ first. option_and_then (binary_sort operator first) s) (sort a)) (staged_sort names b (parts_binary operator))
      ∙ sym (at (Term-F.Binary operator a b))

  binary_chosen : (operator : BinaryOperator) (a b : Term) → chosen (terms.Binary operator a b) ≡ terms.Binary operator a b
  binary_chosen operator a b = ap chosen (sym (terms.rolls-Binary operator a b)) ∙ chosen_at (Term-F.Binary operator a b)

  binary_good : (operator : BinaryOperator) (a b : Part) → Good names (roll-Term (Term-F.Binary operator a.0 b.0))
  binary_good binary.Add a b =
      let t = roll-Term (Term-F.Binary binary.Add a.0 b.0) in
      let inner = terms.Binary binary.Add (loose a.0) (loose b.0) in
      ring_node t inner (λ w. staged-Binary names t w binary.Add a.0 b.0 (terms.rolls-Binary binary.Add a.0 b.0)) (binary_same binary.Add a.0 b.0)
      (binary_again binary.Add a b) (λ s. ring_plain names s binary.Add (loose a.0) (loose b.0) refl)
      (λ s. let sorted = operand_sorts binary.Add (sort a.0) (sort b.0) add_sorts (sym (at (Term-F.Binary binary.Add a.0 b.0)) ∙ s) in
      subst (SummandsAre (Stable names)) (sym (expanded-Add inner binary.Add (loose a.0) (loose b.0) refl refl))
      (sums_append (Stable names) (expanded (loose a.0)) (expanded (loose b.0)) (a.1.0.1 sorted.0) (b.1.0.1 sorted.1)))
      (λ stable s. let sorted = parts_sorts names a.0 b.0 (ap sort (sym (terms.rolls-Binary binary.Add a.0 b.0)) ∙ s) in
      let left = a.1.0.2 sorted.0 in (
        subst (Stable names) (sym (root-Add inner binary.Add (loose a.0) (loose b.0) refl refl)) left.0,
        subst (SummandsAre (Stable names)) (sym (offset-Add inner binary.Add (loose a.0) (loose b.0) refl refl))
            (sums_append (Stable names) (offset (loose a.0)) (expanded (loose b.0)) left.1 (b.1.0.1 sorted.1)),
      ))
  binary_good binary.Subtract a b =
      let t = roll-Term (Term-F.Binary binary.Subtract a.0 b.0) in
      let inner = terms.Binary binary.Subtract (loose a.0) (loose b.0) in
      ring_node t inner (λ w. staged-Binary names t w binary.Subtract a.0 b.0 (terms.rolls-Binary binary.Subtract a.0 b.0))
      (binary_same binary.Subtract a.0 b.0)
      (binary_again binary.Subtract a b) (λ s. ring_plain names s binary.Subtract (loose a.0) (loose b.0) refl)
      (λ s. let sorted = operand_sorts binary.Subtract (sort a.0) (sort b.0) subtract_sorts (sym (at (Term-F.Binary binary.Subtract a.0 b.0)) ∙ s) in
      subst (SummandsAre (Stable names)) (sym (expanded-Subtract inner binary.Subtract (loose a.0) (loose b.0) refl refl))
      (sums_append (Stable names) (expanded (loose a.0)) (map (times (negsuc 0)) (expanded (loose b.0))) (a.1.0.1 sorted.0)
      (sums_times (Stable names) (negsuc 0) (expanded (loose b.0)) (b.1.0.1 sorted.1))))
      (λ stable s. alone_root inner (alone-Binary inner binary.Subtract (loose a.0) (loose b.0) refl (λ e. cc)) stable)
  binary_good binary.Multiply a b =
      let t = roll-Term (Term-F.Binary binary.Multiply a.0 b.0) in
      let inner = terms.Binary binary.Multiply (loose a.0) (loose b.0) in
      ring_node t inner (λ w. staged-Binary names t w binary.Multiply a.0 b.0 (terms.rolls-Binary binary.Multiply a.0 b.0))
      (binary_same binary.Multiply a.0 b.0)
      (binary_again binary.Multiply a b) (λ s. ring_plain names s binary.Multiply (loose a.0) (loose b.0) refl)
      (λ s. let sorted = operand_sorts binary.Multiply (sort a.0) (sort b.0) multiply_sorts (sym (at (Term-F.Binary binary.Multiply a.0 b.0)) ∙ s) in
      subst (SummandsAre (Stable names)) (sym (expanded-Multiply inner binary.Multiply (loose a.0) (loose b.0) refl refl))
      (sums_products (Stable names) (expanded (loose a.0)) (expanded (loose b.0)) (a.1.0.1 sorted.0) (b.1.0.1 sorted.1)))
      (λ stable s. alone_root inner (alone-Binary inner binary.Multiply (loose a.0) (loose b.0) refl (λ e. cc)) stable)
  binary_good operator a b =
      let t = roll-Term (Term-F.Binary operator a.0 b.0) in
      let left = staged names a.0 (parts_binary operator) in
      let right = staged names b.0 (parts_binary operator) in
      let inner = terms.Binary operator left right in
      opaque_node t inner (λ w. staged-Binary names t w operator a.0 b.0 (terms.rolls-Binary operator a.0 b.0)) (binary_same operator a.0 b.0)
      (binary_again operator a b) (binary_chosen operator left right)
      (expanded-Binary inner operator left right refl (λ e. cc) (λ e. cc) (λ e. cc)) (alone-Binary inner operator left right refl (λ e. cc))

  -- a conditional term within a sum: its branch where that is settled, or the term itself
  here_settled : (here : Bool) (q : Option Sort) (x y : Term) → (here ≡ true → Settled names q x) → (here ≡ false → Settled names q y)
      → Settled names q (cond here x y)
  here_settled true q x y h g = h refl
  here_settled false q x y h g = g refl

  branch_settled : (o : Option Bool) (q : Option Sort) (b c inner : Term) → Settled names q b → Settled names q c
      → (branch o b c inner ≡ inner → Settled names q inner) → Settled names q (branch o b c inner)
  branch_settled (Some true) q b c inner h g f = h
  branch_settled (Some false) q b c inner h g f = g
  branch_settled None q b c inner h g f =
      here_settled (is_eq (term_order b c)) q b inner (λ e. h) (λ e. f (ap (λ z. cond z b inner) e))

  conditional_folded : (s : Sort) (a b c : Term)
      → folded_by_sort (Some s) (terms.Conditional a b c) ≡ branch (truth_literal a) b c (terms.Conditional a b c)
  conditional_folded s a b c =
      let t = terms.Conditional a b c in
      ap (λ z. cond z (literal_of (value_of [] t) t) (chosen t))
      (ap is_computable (sym (terms.rolls-Conditional a b c)) ∙ computable_at (Term-F.Conditional a b c))
      ∙ ap chosen (sym (terms.rolls-Conditional a b c)) ∙ chosen_at (Term-F.Conditional a b c)

  conditional_settled : (s : Option Sort) (a b c : Term) → let inner = terms.Conditional a b c in
      loose inner ≡ folded_by_sort s inner → ((k : Sort) → s ≡ Some k → Settled names s b × Settled names s c)
      → Settled names s (folded_by_sort s inner)
  conditional_settled None a b c again parts =
      let inner = terms.Conditional a b c in
      settled_opaque names None inner again (expanded-Conditional inner a b c refl) (alone-Conditional inner a b c refl)
  conditional_settled (Some k) a b c again parts =
      let inner = terms.Conditional a b c in
      let h = parts k refl in
      subst (Settled names (Some k)) (sym (conditional_folded k a b c))
      (branch_settled (truth_literal a) (Some k) b c inner h.0 h.1
      (λ e. settled_opaque names (Some k) inner (again ∙ conditional_folded k a b c ∙ e)
      (expanded-Conditional inner a b c refl) (alone-Conditional inner a b c refl)))

  conditional_good : (a b c : Part) → Good names (roll-Term (Term-F.Conditional a.0 b.0 c.0))
  conditional_good a b c =
      let t = roll-Term (Term-F.Conditional a.0 b.0 c.0) in
      let x = whole a.0 in
      let y = whole b.0 in
      let z = whole c.0 in
      let inner = terms.Conditional x y z in
      let same : sort inner ≡ sort t =
      round inner (Term-F.Conditional x y z) (terms.rolls-Conditional x y z)
      ∙ ap (λ s. conditional_sort s (sort y) (sort z)) (staged_sort names a.0 true) ∙ ap (λ s. conditional_sort (sort a.0) s (sort z)) (staged_sort names b.0 true)
      ∙ ap (λ s. conditional_sort (sort a.0) (sort b.0) s) (staged_sort names c.0 true) ∙ sym (at (Term-F.Conditional a.0 b.0 c.0)) in
      let again : loose inner ≡ folded_by_sort (sort t) inner =
      staged-Conditional names inner false x y z refl
      ∙ ap (λ u. folded_by_sort (sort inner) (terms.Conditional u (whole y) (whole z))) a.1.2
      ∙ ap (λ u. folded_by_sort (sort inner) (terms.Conditional x u (whole z))) b.1.2
      ∙ ap (λ u. folded_by_sort (sort inner) (terms.Conditional x y u)) c.1.2 ∙ ap (λ s. folded_by_sort s inner) same in
      good names t
      (subst (Settled names (sort t)) (sym (staged-Conditional names t false a.0 b.0 c.0 (terms.rolls-Conditional a.0 b.0 c.0)))
      (conditional_settled (sort t) x y z again
      (λ k e.
      let branches = branch_sorts names (sort a.0) (sort b.0) (sort c.0) k (sym (at (Term-F.Conditional a.0 b.0 c.0)) ∙ e) in (
        subst (λ s. Settled names s y) (branches.0 ∙ sym e) b.1.1,
        subst (λ s. Settled names s z) (branches.1 ∙ sym e) c.1.1,
      ))))

  kept_elements : (parts : List Part) → map (λ t. whole t) (map (λ t. whole t) (map (λ (part : Part). part.0) parts))
      ≡ map (λ t. whole t) (map (λ (part : Part). part.0) parts)
  kept_elements [] = refl
  kept_elements (part ∷ parts) =
      ap (λ t. t ∷ map (λ t. whole t) (map (λ t. whole t) (map (λ (part : Part). part.0) parts))) part.1.2
      ∙ ap (λ l. whole part.0 ∷ l) (kept_elements parts)

  elements_sorts : (elements : List Term) → map sort (map (λ t. whole t) elements) ≡ map sort elements
  elements_sorts [] = refl
  elements_sorts (element ∷ elements) =
      ap (λ s. s ∷ map sort (map (λ t. whole t) elements)) (staged_sort names element true) ∙ ap (λ l. sort element ∷ l) (elements_sorts elements)

  node_good : (y : Term-F Part) → Good names (roll-Term (map-Term Part Term (λ part. part.0) y))
  node_good (Term-F.Variable name) =
      let t = roll-Term (Term-F.Variable name) in
      let is = terms.rolls-Variable name in
      opaque_node t t (λ w. staged-Variable names t w name is) refl (staged-Variable names t false name is)
      (chosen_at (Term-F.Variable name) ∙ sym is) (expanded-Variable t name is) (alone-Variable t name is)
  node_good (Term-F.Integer n) =
      let t = roll-Term (Term-F.Integer n) in
      let is = terms.rolls-Integer n in
      good names t (subst (Settled names (sort t)) (sym (ap (λ u. loose u) is ∙ integer_stable names n)) (integer_settled names (sort t) n))
  node_good (Term-F.Truth b) =
      let t = roll-Term (Term-F.Truth b) in
      let is = terms.rolls-Truth b in
      opaque_node t t (λ w. staged-Truth names t w b is) refl (staged-Truth names t false b is)
      (chosen_at (Term-F.Truth b) ∙ sym is) (expanded-Truth t b is) (alone-Truth t b is)
  node_good Term-F.Null =
      let t = roll-Term Term-F.Null in
      let is = terms.rolls-Null in
      opaque_node t t (λ w. staged-Null names t w is) refl (staged-Null names t false is)
      (chosen_at Term-F.Null ∙ sym is) (expanded-Null t is) (alone-Null t is)
  node_good (Term-F.List parts) =
      let elements = map (λ (part : Part). part.0) parts in
      let t = roll-Term (Term-F.List elements) in
      let after = map (λ u. whole u) elements in
      let inner = terms.List after in
      opaque_node t inner (λ w. staged-List names t w elements (terms.rolls-List elements))
      (round inner (Term-F.List after) (terms.rolls-List after)
      ∙ ap (λ l. given (list_all (has sorts.Int) l) sorts.List) (elements_sorts elements) ∙ sym (at (Term-F.List elements)))
      (staged-List names inner false after refl ∙ ap (λ l. folded_by_sort (sort inner) (terms.List l)) (kept_elements parts))
      (ap chosen (sym (terms.rolls-List after)) ∙ chosen_at (Term-F.List after) ∙ ap terms.List (same_elements after))
      (expanded-List inner after refl) (alone-List inner after refl)
  node_good (Term-F.Unary operator a) = unary_good operator a
  node_good (Term-F.Binary operator a b) = binary_good operator a b
  node_good (Term-F.Conditional a b c) = conditional_good a b c
  node_good (Term-F.Update a b c) =
      let t = roll-Term (Term-F.Update a.0 b.0 c.0) in
      let x = whole a.0 in
      let y = whole b.0 in
      let z = whole c.0 in
      let inner = terms.Update x y z in
      opaque_node t inner (λ w. staged-Update names t w a.0 b.0 c.0 (terms.rolls-Update a.0 b.0 c.0))
      (round inner (Term-F.Update x y z) (terms.rolls-Update x y z)
      ∙ ap (λ s. given (has sorts.List s && has sorts.Int (sort y) && has sorts.Int (sort z)) sorts.List) (staged_sort names a.0 true)
      ∙ ap (λ s. given (has sorts.List (sort a.0) && has sorts.Int s && has sorts.Int (sort z)) sorts.List) (staged_sort names b.0 true)
      ∙ ap (λ s. given (has sorts.List (sort a.0) && has sorts.Int (sort b.0) && has sorts.Int s) sorts.List) (staged_sort names c.0 true)
      ∙ sym (at (Term-F.Update a.0 b.0 c.0)))
      (staged-Update names inner false x y z refl
      ∙ ap (λ u. folded_by_sort (sort inner) (terms.Update u (whole y) (whole z))) a.1.2
      ∙ ap (λ u. folded_by_sort (sort inner) (terms.Update x u (whole z))) b.1.2
      ∙ ap (λ u. folded_by_sort (sort inner) (terms.Update x y u)) c.1.2)
      (ap chosen (sym (terms.rolls-Update x y z)) ∙ chosen_at (Term-F.Update x y z))
      (expanded-Update inner x y z refl) (alone-Update inner x y z refl)

  all_good : (t : Term) → Good names t
  all_good = ind-Term (Good names) (λ x y is. subst (λ z. Good names (roll-Term z)) is (node_good y))

  pub term_again : (t : Term) → whole (whole t) ≡ whole t
  term_again t = (all_good t).2
