-- A term in normal form has the sort and the value that it had.
use Rattle.std.proofs.Common.{◌≡◌, Bool, true, false, ◌&&◌, cond, List, [], ◌∷◌, map, refl, ap, ◌∙◌, sym, subst, Option, Some, None}
use Rattle.std.specs.Option.{option_and_then}
use Rattle.std.specs.List.{list_all}
use Rattle.rc_terms.specs.declared.term.Term.{Term, roll-Term}
use Rattle.rc_terms.specs.declared.term.Term.TheOpen.{Term-F}
use Rattle.rc_terms.specs.declared.term.Term.TheFolds.{map-Term, fold-roll-Term, ind-Term}
use Rattle.rc_terms.specs.declared.term.Term.TheVariants as terms
use Rattle.rc_terms.specs.declared.value.TermValue.{TermValue}
use Rattle.rc_terms.specs.declared.value.TermValue.TheVariants as values
use Rattle.rc_terms.specs.declared.sort.Sort.{Sort}
use Rattle.rc_terms.specs.declared.sort.Sort.TheVariants as sorts
use Rattle.rc_terms.specs.Operators.{number_of, truth_of, list_of, updated, unary, binary}
use Rattle.rc_terms.specs.Evaluation.{Environment, value_of, value_step}
use Rattle.rc_terms.specs.Sorting.{sort_under, sort_step, sorts_of, given, has, unary_sort, binary_sort, conditional_sort}
use Rattle.normal_forms.specs.Polynomials.{parts_unary, parts_binary}
use Rattle.normal_forms.specs.Normal.{Names, finished, folded_by_sort, staged}
use Rattle.normal_forms.specs.Folding.{folded}
use Rattle.normal_forms.proofs.Foldings.{folded_sort, folded_keeps}
use Rattle.normal_forms.proofs.Stages.{staged-Variable, staged-Integer, staged-Truth, staged-Null, staged-List, staged-Unary, staged-Binary, staged-Conditional, staged-Update}
use Rattle.normal_forms.proofs.SortedSums.{normal_sum_sort}
use Rattle.normal_forms.proofs.WholeSums.{normal_sum_keeps}
use Rattle.normal_forms.proofs.LocationLaws.{normal_location_sort, normal_location_keeps}

module _ (names : Names) where
  abbrev sort : Term → Option Sort
  sort t = sort_under names t

  finish_sort : (s : Option Sort) (inner : Term) (whole : Bool) → sort inner ≡ s → sort (finished s inner whole) ≡ s
  finish_sort None inner false e = e
  finish_sort (Some s) inner false e = folded_sort names inner s e
  finish_sort None inner true e = e
  finish_sort (Some sorts.Int) inner true e = normal_sum_sort names (folded inner) (folded_sort names inner sorts.Int e)
  finish_sort (Some sorts.Bool) inner true e = folded_sort names inner sorts.Bool e
  finish_sort (Some sorts.Loc) inner true e = normal_location_sort names (folded inner) (folded_sort names inner sorts.Loc e)
  finish_sort (Some sorts.List) inner true e = folded_sort names inner sorts.List e
  finish_sort (Some sorts.Val) inner true e = folded_sort names inner sorts.Val e

  abbrev KeepsSort : Term → Type 0
  KeepsSort t = (whole : Bool) → sort (staged names t whole) ≡ sort t

  abbrev SortPart : Type 0
  SortPart = (t : Term) × KeepsSort t

  at : (x : Term-F Term) → sort (roll-Term x) ≡ sort_step names (map-Term Term (Option Sort) sort x)
  at x = fold-roll-Term (Option Sort) (sort_step names) x

  -- a node round other parts
  round : (t : Term) (x : Term-F Term) → roll-Term x ≡ t → sort t ≡ sort_step names (map-Term Term (Option Sort) sort x)
  round t x is = ap sort (sym is) ∙ at x

  finish_node : (t inner : Term) (whole : Bool) → staged names t whole ≡ finished (sort t) inner whole → sort inner ≡ sort t → sort (staged names t whole) ≡ sort t
  finish_node t inner whole e h = ap sort e ∙ finish_sort (sort t) inner whole h

  sorts_kept : (parts : List SortPart)
      → map sort (map (λ t. staged names t true) (map (λ part. part.0) parts)) ≡ map sort (map (λ part. part.0) parts)
  sorts_kept [] = refl
  sorts_kept (part ∷ parts) =
      ap (λ s. s ∷ map sort (map (λ t. staged names t true) (map (λ part. part.0) parts))) (part.1 true)
      ∙ ap (λ l. sort part.0 ∷ l) (sorts_kept parts)

  node_sort : (y : Term-F SortPart) → KeepsSort (roll-Term (map-Term SortPart Term (λ part. part.0) y))
  node_sort (Term-F.Variable name) whole =
      let t = roll-Term (Term-F.Variable name) in
      finish_node t t whole (staged-Variable names t whole name (terms.rolls-Variable name)) refl
  node_sort (Term-F.Integer n) whole =
      let t = roll-Term (Term-F.Integer n) in
      finish_node t t whole (staged-Integer names t whole n (terms.rolls-Integer n)) refl
  node_sort (Term-F.Truth b) whole =
      let t = roll-Term (Term-F.Truth b) in
      finish_node t t whole (staged-Truth names t whole b (terms.rolls-Truth b)) refl
  node_sort Term-F.Null whole =
      let t = roll-Term Term-F.Null in
      finish_node t t whole (staged-Null names t whole terms.rolls-Null) refl
  node_sort (Term-F.List parts) whole =
      let elements = map (λ (part : SortPart). part.0) parts in
      let t = roll-Term (Term-F.List elements) in
      let after = map (λ u. staged names u true) elements in
      finish_node t (terms.List after) whole (staged-List names t whole elements (terms.rolls-List elements))
      (round (terms.List after) (Term-F.List after) (terms.rolls-List after)
      ∙ ap (λ l. given (list_all (has sorts.Int) l) sorts.List) (sorts_kept parts) ∙ sym (at (Term-F.List elements)))
  node_sort (Term-F.Unary operator a) whole =
      let t = roll-Term (Term-F.Unary operator a.0) in
      let after = staged names a.0 (parts_unary operator) in
      finish_node t (terms.Unary operator after) whole (staged-Unary names t whole operator a.0 (terms.rolls-Unary operator a.0))
      (round (terms.Unary operator after) (Term-F.Unary operator after) (terms.rolls-Unary operator after)
      ∙ ap (option_and_then (unary_sort operator)) (a.1 (parts_unary operator)) ∙ sym (at (Term-F.Unary operator a.0)))
  node_sort (Term-F.Binary operator a b) whole =
      let t = roll-Term (Term-F.Binary operator a.0 b.0) in
      let left = staged names a.0 (parts_binary operator) in
      let right = staged names b.0 (parts_binary operator) in
      finish_node t (terms.Binary operator left right) whole (staged-Binary names t whole operator a.0 b.0 (terms.rolls-Binary operator a.0 b.0))
      (round (terms.Binary operator left right) (Term-F.Binary operator left right) (terms.rolls-Binary operator left right)
      ∙ ap (λ s. option_and_then (λ first. option_and_then (binary_sort operator first) (sort right)) s) (a.1 (parts_binary operator))
      ∙ ap (λ s. option_and_then (λ first. option_and_then (binary_sort operator first) s) (sort a.0)) (b.1 (parts_binary operator))
      ∙ sym (at (Term-F.Binary operator a.0 b.0)))
  node_sort (Term-F.Conditional a b c) whole =
      let t = roll-Term (Term-F.Conditional a.0 b.0 c.0) in
      let x = staged names a.0 true in
      let y = staged names b.0 true in
      let z = staged names c.0 true in
      finish_node t (terms.Conditional x y z) whole (staged-Conditional names t whole a.0 b.0 c.0 (terms.rolls-Conditional a.0 b.0 c.0))
      (round (terms.Conditional x y z) (Term-F.Conditional x y z) (terms.rolls-Conditional x y z)
      ∙ ap (λ s. conditional_sort s (sort y) (sort z)) (a.1 true) ∙ ap (λ s. conditional_sort (sort a.0) s (sort z)) (b.1 true)
      ∙ ap (λ s. conditional_sort (sort a.0) (sort b.0) s) (c.1 true) ∙ sym (at (Term-F.Conditional a.0 b.0 c.0)))
  node_sort (Term-F.Update a b c) whole =
      let t = roll-Term (Term-F.Update a.0 b.0 c.0) in
      let x = staged names a.0 true in
      let y = staged names b.0 true in
      let z = staged names c.0 true in
      finish_node t (terms.Update x y z) whole (staged-Update names t whole a.0 b.0 c.0 (terms.rolls-Update a.0 b.0 c.0))
      (round (terms.Update x y z) (Term-F.Update x y z) (terms.rolls-Update x y z)
      ∙ ap (λ s. given (has sorts.List s && has sorts.Int (sort y) && has sorts.Int (sort z)) sorts.List) (a.1 true)
      ∙ ap (λ s. given (has sorts.List (sort a.0) && has sorts.Int s && has sorts.Int (sort z)) sorts.List) (b.1 true)
      ∙ ap (λ s. given (has sorts.List (sort a.0) && has sorts.Int (sort b.0) && has sorts.Int s) sorts.List) (c.1 true)
      ∙ sym (at (Term-F.Update a.0 b.0 c.0)))

  pub staged_sort : (t : Term) → KeepsSort t
  staged_sort = ind-Term KeepsSort (λ x y is. subst (λ z. KeepsSort (roll-Term z)) is (node_sort y))

module _ (env : Environment) where
  abbrev names_of : Names
  names_of = sorts_of env

  abbrev value : Term → TermValue
  value t = value_of env t

  finish_value : (s : Option Sort) (inner : Term) (whole : Bool) → sort_under names_of (folded_by_sort s inner) ≡ s
      → value (finished s inner whole) ≡ value inner
  finish_value None inner false e = refl
  finish_value (Some s) inner false e = folded_keeps env inner
  finish_value None inner true e = refl
  finish_value (Some sorts.Int) inner true e = normal_sum_keeps env (folded inner) e ∙ folded_keeps env inner
  finish_value (Some sorts.Bool) inner true e = folded_keeps env inner
  finish_value (Some sorts.Loc) inner true e = normal_location_keeps env (folded inner) e ∙ folded_keeps env inner
  finish_value (Some sorts.List) inner true e = folded_keeps env inner
  finish_value (Some sorts.Val) inner true e = folded_keeps env inner

  abbrev KeepsValue : Term → Type 0
  KeepsValue t = (whole : Bool) → value (staged names_of t whole) ≡ value t

  abbrev ValuePart : Type 0
  ValuePart = (t : Term) × KeepsValue t

  valued : (x : Term-F Term) → value (roll-Term x) ≡ value_step env (map-Term Term TermValue value x)
  valued x = fold-roll-Term TermValue (value_step env) x

  values_round : (t : Term) (x : Term-F Term) → roll-Term x ≡ t → value t ≡ value_step env (map-Term Term TermValue value x)
  values_round t x is = ap value (sym is) ∙ valued x

  -- the sort of what is finished is the term's, since what `staged` gives within a sum is of the term's sort
  finish_part : (t inner : Term) (whole : Bool) → ((w : Bool) → staged names_of t w ≡ finished (sort_under names_of t) inner w)
      → value inner ≡ value t → value (staged names_of t whole) ≡ value t
  finish_part t inner whole e h =
      let same : sort_under names_of (folded_by_sort (sort_under names_of t) inner) ≡ sort_under names_of t = ap (sort_under names_of) (sym (e false)) ∙ staged_sort names_of t false in
      ap value (e whole) ∙ finish_value (sort_under names_of t) inner whole same ∙ h

  values_kept : (parts : List ValuePart)
      → map number_of (map value (map (λ t. staged names_of t true) (map (λ part. part.0) parts))) ≡ map number_of (map value (map (λ part. part.0) parts))
  values_kept [] = refl
  values_kept (part ∷ parts) =
      ap (λ v. number_of v ∷ map number_of (map value (map (λ t. staged names_of t true) (map (λ part. part.0) parts)))) (part.1 true)
      ∙ ap (λ l. number_of (value part.0) ∷ l) (values_kept parts)

  node_value : (y : Term-F ValuePart) → KeepsValue (roll-Term (map-Term ValuePart Term (λ part. part.0) y))
  node_value (Term-F.Variable name) whole =
      let t = roll-Term (Term-F.Variable name) in
      finish_part t t whole (λ w. staged-Variable names_of t w name (terms.rolls-Variable name)) refl
  node_value (Term-F.Integer n) whole =
      let t = roll-Term (Term-F.Integer n) in
      finish_part t t whole (λ w. staged-Integer names_of t w n (terms.rolls-Integer n)) refl
  node_value (Term-F.Truth b) whole =
      let t = roll-Term (Term-F.Truth b) in
      finish_part t t whole (λ w. staged-Truth names_of t w b (terms.rolls-Truth b)) refl
  node_value Term-F.Null whole =
      let t = roll-Term Term-F.Null in
      finish_part t t whole (λ w. staged-Null names_of t w terms.rolls-Null) refl
  node_value (Term-F.List parts) whole =
      let elements = map (λ (part : ValuePart). part.0) parts in
      let t = roll-Term (Term-F.List elements) in
      let after = map (λ u. staged names_of u true) elements in
      finish_part t (terms.List after) whole (λ w. staged-List names_of t w elements (terms.rolls-List elements))
      (values_round (terms.List after) (Term-F.List after) (terms.rolls-List after)
      ∙ ap values.List (values_kept parts) ∙ sym (valued (Term-F.List elements)))
  node_value (Term-F.Unary operator a) whole =
      let t = roll-Term (Term-F.Unary operator a.0) in
      let after = staged names_of a.0 (parts_unary operator) in
      finish_part t (terms.Unary operator after) whole (λ w. staged-Unary names_of t w operator a.0 (terms.rolls-Unary operator a.0))
      (values_round (terms.Unary operator after) (Term-F.Unary operator after) (terms.rolls-Unary operator after)
      ∙ ap (unary operator) (a.1 (parts_unary operator)) ∙ sym (valued (Term-F.Unary operator a.0)))
  node_value (Term-F.Binary operator a b) whole =
      let t = roll-Term (Term-F.Binary operator a.0 b.0) in
      let left = staged names_of a.0 (parts_binary operator) in
      let right = staged names_of b.0 (parts_binary operator) in
      finish_part t (terms.Binary operator left right) whole (λ w. staged-Binary names_of t w operator a.0 b.0 (terms.rolls-Binary operator a.0 b.0))
      (values_round (terms.Binary operator left right) (Term-F.Binary operator left right) (terms.rolls-Binary operator left right)
      ∙ ap (λ v. binary operator v (value right)) (a.1 (parts_binary operator))
      ∙ ap (binary operator (value a.0)) (b.1 (parts_binary operator)) ∙ sym (valued (Term-F.Binary operator a.0 b.0)))
  node_value (Term-F.Conditional a b c) whole =
      let t = roll-Term (Term-F.Conditional a.0 b.0 c.0) in
      let x = staged names_of a.0 true in
      let y = staged names_of b.0 true in
      let z = staged names_of c.0 true in
      finish_part t (terms.Conditional x y z) whole (λ w. staged-Conditional names_of t w a.0 b.0 c.0 (terms.rolls-Conditional a.0 b.0 c.0))
      (values_round (terms.Conditional x y z) (Term-F.Conditional x y z) (terms.rolls-Conditional x y z)
      ∙ ap (λ v. cond (truth_of v) (value y) (value z)) (a.1 true) ∙ ap (λ v. cond (truth_of (value a.0)) v (value z)) (b.1 true)
      ∙ ap (λ v. cond (truth_of (value a.0)) (value b.0) v) (c.1 true) ∙ sym (valued (Term-F.Conditional a.0 b.0 c.0)))
  node_value (Term-F.Update a b c) whole =
      let t = roll-Term (Term-F.Update a.0 b.0 c.0) in
      let x = staged names_of a.0 true in
      let y = staged names_of b.0 true in
      let z = staged names_of c.0 true in
      finish_part t (terms.Update x y z) whole (λ w. staged-Update names_of t w a.0 b.0 c.0 (terms.rolls-Update a.0 b.0 c.0))
      (values_round (terms.Update x y z) (Term-F.Update x y z) (terms.rolls-Update x y z)
      ∙ ap (λ v. values.List (updated (list_of v) (number_of (value y)) (number_of (value z)))) (a.1 true)
      ∙ ap (λ v. values.List (updated (list_of (value a.0)) (number_of v) (number_of (value z)))) (b.1 true)
      ∙ ap (λ v. values.List (updated (list_of (value a.0)) (number_of (value b.0)) (number_of v))) (c.1 true)
      ∙ sym (valued (Term-F.Update a.0 b.0 c.0)))

  pub staged_value : (t : Term) → KeepsValue t
  staged_value = ind-Term KeepsValue (λ x y is. subst (λ z. KeepsValue (roll-Term z)) is (node_value y))
