-- A well-sorted term has a value of its sort, and stays well sorted where a name is replaced by a term of its sort.
use Rattle.std.proofs.Common.{◌≡◌, ℕ, Bool, true, false, cond, ◌&&◌, List, [], ◌∷◌, ◌++◌, map, refl, ap, ◌∙◌, sym, subst, Option, Some, None, unwrap_or, pos}
use Rattle.std.specs.Option.{option_map, option_and_then}
use Rattle.std.specs.List.{list_all}
use Rattle.rc_terms.specs.declared.term.Term.{Term, roll-Term}
use Rattle.rc_terms.specs.declared.term.Term.TheOpen.{Term-F}
use Rattle.rc_terms.specs.declared.term.Term.TheFolds.{map-Term, fold-roll-Term, ind-Term}
use Rattle.rc_terms.specs.declared.value.TermValue.{TermValue}
use Rattle.rc_terms.specs.declared.value.TermValue.TheVariants as values
use Rattle.rc_terms.specs.declared.sort.Sort.{Sort}
use Rattle.rc_terms.specs.declared.sort.Sort.TheVariants as sorts
use Rattle.rc_terms.specs.declared.operator.UnaryOperator.{UnaryOperator}
use Rattle.rc_terms.specs.declared.operator.UnaryOperator.TheVariants as unary_operators
use Rattle.rc_terms.specs.declared.operator.BinaryOperator.{BinaryOperator}
use Rattle.rc_terms.specs.declared.operator.BinaryOperator.TheVariants.{Add, Subtract, Multiply, Quotient, Remainder}
use Rattle.rc_terms.specs.declared.operator.BinaryOperator.TheVariants.{ShiftLeft, ShiftRight, BitAnd, BitOr, BitXor}
use Rattle.rc_terms.specs.declared.operator.BinaryOperator.TheVariants.{Equal, Unequal, Below, AtMost, Above, AtLeast}
use Rattle.rc_terms.specs.declared.operator.BinaryOperator.TheVariants.{And, Or, Implies, Aligned, Cons, Append}
use Rattle.rc_terms.specs.declared.operator.BinaryOperator.TheVariants.{Element, Take, Drop}
use Rattle.rc_terms.specs.Names.{same_name}
use Rattle.rc_terms.specs.Bindings.{binding_of, first_of_two}
use Rattle.rc_terms.specs.Operators.{plus, unary, binary, truth_of}
use Rattle.rc_terms.specs.Evaluation.{Environment, value_of, value_step}
use Rattle.rc_terms.specs.Substitution.{substituted, substitution_step}
use Rattle.rc_terms.proofs.Substitutions.{binding_of-snoc}
use Rattle.rc_terms.specs.Sorting.{same_sort, given, sum_sort, unary_sort, binary_sort, has, conditional_sort, sort_step, sort_under, sort_of_value, sorts_of}

-- what is given is the sort that was named
given_is : (b : Bool) (s t : Sort) → given b s ≡ Some t → s ≡ t
given_is true s t e = cc
given_is false s t e = cc

unary_has : (operator : UnaryOperator) (v : TermValue) (s t : Sort) → unary_sort operator s ≡ Some t → sort_of_value (unary operator v) ≡ t
unary_has unary_operators.Negative v s t e = given_is _ sorts.Int t e
unary_has unary_operators.Not v s t e = given_is _ sorts.Bool t e
unary_has unary_operators.Length v s t e = given_is _ sorts.Int t e
unary_has unary_operators.Reverse v s t e = given_is _ sorts.List t e

plus_has : (a b : TermValue) (s t : Sort) → sum_sort (sort_of_value a) s ≡ Some t → sort_of_value (plus a b) ≡ t
plus_has (values.Integer n) b s t e = given_is _ sorts.Int t e
plus_has (values.Location l) b s t e = given_is _ sorts.Loc t e
plus_has (values.Truth c) b s t e = cc
plus_has (values.List l) b s t e = cc
plus_has (values.Bytes l) b s t e = cc

binary_has : (operator : BinaryOperator) (a b : TermValue) (s t : Sort)
    → binary_sort operator (sort_of_value a) s ≡ Some t → sort_of_value (binary operator a b) ≡ t
binary_has Add a b s t e = plus_has a b s t e
binary_has Subtract a b s t e = given_is _ sorts.Int t e
binary_has Multiply a b s t e = given_is _ sorts.Int t e
binary_has Quotient a b s t e = given_is _ sorts.Int t e
binary_has Remainder a b s t e = given_is _ sorts.Int t e
binary_has ShiftLeft a b s t e = given_is _ sorts.Int t e
binary_has ShiftRight a b s t e = given_is _ sorts.Int t e
binary_has BitAnd a b s t e = given_is _ sorts.Int t e
binary_has BitOr a b s t e = given_is _ sorts.Int t e
binary_has BitXor a b s t e = given_is _ sorts.Int t e
binary_has Equal a b s t e = given_is _ sorts.Bool t e
binary_has Unequal a b s t e = given_is _ sorts.Bool t e
binary_has Below a b s t e = given_is _ sorts.Bool t e
binary_has AtMost a b s t e = given_is _ sorts.Bool t e
binary_has Above a b s t e = given_is _ sorts.Bool t e
binary_has AtLeast a b s t e = given_is _ sorts.Bool t e
binary_has And a b s t e = given_is _ sorts.Bool t e
binary_has Or a b s t e = given_is _ sorts.Bool t e
binary_has Implies a b s t e = given_is _ sorts.Bool t e
binary_has Aligned a b s t e = given_is _ sorts.Bool t e
binary_has Cons a b s t e = given_is _ sorts.List t e
binary_has Append a b s t e = given_is _ sorts.List t e
binary_has Element a b s t e = given_is _ sorts.Int t e
binary_has Take a b s t e = given_is _ sorts.List t e
binary_has Drop a b s t e = given_is _ sorts.List t e

-- the sort of what a name stands for
mapped_first : (a b : Option TermValue)
    → first_of_two (option_map sort_of_value a) (option_map sort_of_value b) ≡ option_map sort_of_value (first_of_two a b)
mapped_first None b = refl
mapped_first (Some v) b = refl

mapped_choice : (c : Bool) (v : TermValue)
    → cond c (Some (sort_of_value v)) None ≡ option_map sort_of_value (cond c (Some v) None)
mapped_choice true v = refl
mapped_choice false v = refl

binding_of-sorts_of : (env : Environment) (name : List ℕ) → binding_of name (sorts_of env) ≡ option_map sort_of_value (binding_of name env)
binding_of-sorts_of [] name = refl
binding_of-sorts_of (entry ∷ env) name =
    ap (λ o. first_of_two o (cond (same_name entry.0 name) (Some (sort_of_value entry.1)) None)) (binding_of-sorts_of env name)
    ∙ ap (first_of_two (option_map sort_of_value (binding_of name env))) (mapped_choice (same_name entry.0 name) entry.1)
    ∙ mapped_first (binding_of name env) (cond (same_name entry.0 name) (Some entry.1) None)

bound_has : (o : Option TermValue) (d : TermValue) (t : Sort) → option_map sort_of_value o ≡ Some t → sort_of_value (unwrap_or o d) ≡ t
bound_has None d t e = cc
bound_has (Some v) d t e = cc

-- a chain of two that gives a sort, and what it was given of
chained : (f : Sort → Option Sort) (o : Option Sort) (t : Sort) → option_and_then f o ≡ Some t → (s : Sort) × (o ≡ Some s) × (f s ≡ Some t)
chained f None t e = cc
chained f (Some s) t e = (s, refl, e)

both : (a b : Bool) (s t : Sort) → given (a && b) s ≡ Some t → (a ≡ true) × (b ≡ true)
both true true s t e = (refl, refl)
both true false s t e = cc
both false b s t e = cc

same_is : (s t : Sort) → same_sort s t ≡ true → s ≡ t
same_is sorts.Int sorts.Int e = refl
same_is sorts.Bool sorts.Bool e = refl
same_is sorts.Loc sorts.Loc e = refl
same_is sorts.List sorts.List e = refl
same_is sorts.Val sorts.Val e = refl
same_is sorts.Int sorts.Bool e = cc
same_is sorts.Int sorts.Loc e = cc
same_is sorts.Int sorts.List e = cc
same_is sorts.Bool sorts.Int e = cc
same_is sorts.Bool sorts.Loc e = cc
same_is sorts.Bool sorts.List e = cc
same_is sorts.Loc sorts.Int e = cc
same_is sorts.Loc sorts.Bool e = cc
same_is sorts.Loc sorts.List e = cc
same_is sorts.List sorts.Int e = cc
same_is sorts.List sorts.Bool e = cc
same_is sorts.List sorts.Loc e = cc
same_is sorts.Val sorts.Int e = cc
same_is sorts.Int sorts.Val e = cc
same_is sorts.Val sorts.Bool e = cc
same_is sorts.Bool sorts.Val e = cc
same_is sorts.Val sorts.Loc e = cc
same_is sorts.Loc sorts.Val e = cc
same_is sorts.Val sorts.List e = cc
same_is sorts.List sorts.Val e = cc

has_is : (s : Sort) (o : Option Sort) → has s o ≡ true → o ≡ Some s
has_is s None e = cc
has_is s (Some t) e = ap Some (same_is t s e)

chosen : (b : Bool) (v w : TermValue) (t : Sort) → sort_of_value v ≡ t → sort_of_value w ≡ t → sort_of_value (cond b v w) ≡ t
chosen true v w t h k = h
chosen false v w t h k = k

module _ (env : Environment) where
  abbrev HasItsSort : Term → Type 0
  HasItsSort term = (t : Sort) → sort_under (sorts_of env) term ≡ Some t → sort_of_value (value_of env term) ≡ t

  abbrev Part : Type 0
  Part = (term : Term) × HasItsSort term

  sorted_as : (x : Term-F Term) → sort_under (sorts_of env) (roll-Term x) ≡ sort_step (sorts_of env) (map-Term Term (Option Sort) (sort_under (sorts_of env)) x)
  sorted_as x = fold-roll-Term (Option Sort) (sort_step (sorts_of env)) x

  valued_as : (x : Term-F Term) → value_of env (roll-Term x) ≡ value_step env (map-Term Term TermValue (value_of env) x)
  valued_as x = fold-roll-Term TermValue (value_step env) x

  binary_part : (operator : BinaryOperator) (a : Part) (b : TermValue) (o : Option Sort) (t : Sort)
      → option_and_then (λ first. option_and_then (binary_sort operator first) o) (sort_under (sorts_of env) a.0) ≡ Some t
      → sort_of_value (binary operator (value_of env a.0) b) ≡ t
  binary_part operator a b o t e =
      let first = chained (λ first. option_and_then (binary_sort operator first) o) (sort_under (sorts_of env) a.0) t e in
      let second = chained (binary_sort operator first.0) o t first.2 in
      let is : sort_of_value (value_of env a.0) ≡ first.0 = a.1 first.0 first.1 in
      binary_has operator (value_of env a.0) b second.0 t (ap (λ s. binary_sort operator s second.0) is ∙ second.2)

  conditional_part : (a b c : Part) (t : Sort)
      → conditional_sort (sort_under (sorts_of env) a.0) (sort_under (sorts_of env) b.0) (sort_under (sorts_of env) c.0) ≡ Some t
      → sort_of_value (cond (truth_of (value_of env a.0)) (value_of env b.0) (value_of env c.0)) ≡ t
  conditional_part a b c t e =
      let then = chained (λ sort. given (has sorts.Bool (sort_under (sorts_of env) a.0) && has sort (sort_under (sorts_of env) c.0)) sort) (sort_under (sorts_of env) b.0) t e in
      let named : then.0 ≡ t = given_is _ then.0 t then.2 in
      let fits = both (has sorts.Bool (sort_under (sorts_of env) a.0)) (has then.0 (sort_under (sorts_of env) c.0)) then.0 t then.2 in
      chosen (truth_of (value_of env a.0)) (value_of env b.0) (value_of env c.0) t
      (b.1 then.0 then.1 ∙ named) (c.1 then.0 (has_is then.0 (sort_under (sorts_of env) c.0) fits.1) ∙ named)

  node_has : (y : Term-F Part) → HasItsSort (roll-Term (map-Term Part Term (λ part. part.0) y))
  node_has (Term-F.Variable name) t e =
      ap sort_of_value (valued_as (Term-F.Variable name))
      ∙ bound_has (binding_of name env) (values.Integer (pos 0)) t (sym (binding_of-sorts_of env name) ∙ sym (sorted_as (Term-F.Variable name)) ∙ e)
  node_has (Term-F.Integer number) t e =
      let s : Some sorts.Int ≡ Some t = sym (sorted_as (Term-F.Integer number)) ∙ e in
      ap sort_of_value (valued_as (Term-F.Integer number)) ∙ (cc)
  node_has (Term-F.Truth truth) t e =
      let s : Some sorts.Bool ≡ Some t = sym (sorted_as (Term-F.Truth truth)) ∙ e in
      ap sort_of_value (valued_as (Term-F.Truth truth)) ∙ (cc)
  node_has Term-F.Null t e =
      let s : Some sorts.Loc ≡ Some t = sym (sorted_as Term-F.Null) ∙ e in
      ap sort_of_value (valued_as Term-F.Null) ∙ (cc)
  node_has (Term-F.List parts) t e =
      ap sort_of_value (valued_as (Term-F.List (map (λ part. part.0) parts)))
      ∙ given_is _ sorts.List t (sym (sorted_as (Term-F.List (map (λ part. part.0) parts))) ∙ e)
  node_has (Term-F.Unary operator a) t e =
      let s = chained (unary_sort operator) (sort_under (sorts_of env) a.0) t (sym (sorted_as (Term-F.Unary operator a.0)) ∙ e) in
      ap sort_of_value (valued_as (Term-F.Unary operator a.0)) ∙ unary_has operator (value_of env a.0) s.0 t s.2
  node_has (Term-F.Binary operator a b) t e =
      ap sort_of_value (valued_as (Term-F.Binary operator a.0 b.0))
      ∙ binary_part operator a (value_of env b.0) (sort_under (sorts_of env) b.0) t (sym (sorted_as (Term-F.Binary operator a.0 b.0)) ∙ e)
  node_has (Term-F.Conditional a b c) t e =
      ap sort_of_value (valued_as (Term-F.Conditional a.0 b.0 c.0))
      ∙ conditional_part a b c t (sym (sorted_as (Term-F.Conditional a.0 b.0 c.0)) ∙ e)
  node_has (Term-F.Update a b c) t e =
      ap sort_of_value (valued_as (Term-F.Update a.0 b.0 c.0))
      ∙ given_is _ sorts.List t (sym (sorted_as (Term-F.Update a.0 b.0 c.0)) ∙ e)

  pub sort_of_value-value_of : (term : Term) → HasItsSort term
  sort_of_value-value_of =
      ind-Term HasItsSort (λ x y is. subst (λ z. HasItsSort (roll-Term z)) is (node_has y))

module _ (names : List (List ℕ × Sort)) (name : List ℕ) (by : Term) (sort : Sort) (is : sort_under names by ≡ Some sort) where
  abbrev named : List (List ℕ × Sort)
  named = names ++ (name, sort) ∷ []

  abbrev Keeps : Term → Type 0
  Keeps term = sort_under names (substituted name by term) ≡ sort_under named term

  abbrev Kept : Type 0
  Kept = (term : Term) × Keeps term

  before : (x : Term-F Term) → substituted name by (roll-Term x) ≡ substitution_step name by (map-Term Term Term (substituted name by) x)
  before x = fold-roll-Term Term (substitution_step name by) x

  after : (n : List (List ℕ × Sort)) (x : Term-F Term) → sort_under n (roll-Term x) ≡ sort_step n (map-Term Term (Option Sort) (sort_under n) x)
  after n x = fold-roll-Term (Option Sort) (sort_step n) x

  at_variable : (b : Bool) (other : List ℕ)
      → sort_under names (cond b by (roll-Term (Term-F.Variable other))) ≡ cond b (Some sort) (binding_of other names)
  at_variable true other = is
  at_variable false other = after names (Term-F.Variable other)

  sorts_kept : (parts : List Kept)
      → map (sort_under names) (map (substituted name by) (map (λ part. part.0) parts)) ≡ map (sort_under named) (map (λ part. part.0) parts)
  sorts_kept [] = refl
  sorts_kept (part ∷ parts) =
      ap (λ s. s ∷ map (sort_under names) (map (substituted name by) (map (λ part. part.0) parts))) part.1
      ∙ ap (λ l. sort_under named part.0 ∷ l) (sorts_kept parts)

  node_kept : (y : Term-F Kept) → Keeps (roll-Term (map-Term Kept Term (λ part. part.0) y))
  node_kept (Term-F.Variable other) =
      ap (sort_under names) (before (Term-F.Variable other)) ∙ at_variable (same_name name other) other
      ∙ sym (binding_of-snoc names name other sort) ∙ sym (after named (Term-F.Variable other))
  node_kept (Term-F.Integer number) =
      ap (sort_under names) (before (Term-F.Integer number)) ∙ after names (Term-F.Integer number) ∙ sym (after named (Term-F.Integer number))
  node_kept (Term-F.Truth truth) =
      ap (sort_under names) (before (Term-F.Truth truth)) ∙ after names (Term-F.Truth truth) ∙ sym (after named (Term-F.Truth truth))
  node_kept Term-F.Null = ap (sort_under names) (before Term-F.Null) ∙ after names Term-F.Null ∙ sym (after named Term-F.Null)
  node_kept (Term-F.List parts) =
      ap (sort_under names) (before (Term-F.List (map (λ part. part.0) parts)))
      ∙ after names (Term-F.List (map (substituted name by) (map (λ part. part.0) parts)))
      ∙ ap (λ l. given (list_all (has sorts.Int) l) sorts.List) (sorts_kept parts)
      ∙ sym (after named (Term-F.List (map (λ part. part.0) parts)))
  node_kept (Term-F.Unary operator a) =
      ap (sort_under names) (before (Term-F.Unary operator a.0)) ∙ after names (Term-F.Unary operator (substituted name by a.0))
      ∙ ap (option_and_then (unary_sort operator)) a.1 ∙ sym (after named (Term-F.Unary operator a.0))
  node_kept (Term-F.Binary operator a b) =
      ap (sort_under names) (before (Term-F.Binary operator a.0 b.0))
      ∙ after names (Term-F.Binary operator (substituted name by a.0) (substituted name by b.0))
      ∙ ap (λ s. option_and_then (λ first. option_and_then (binary_sort operator first) (sort_under names (substituted name by b.0))) s) a.1
      ∙ ap (λ s. option_and_then (λ first. option_and_then (binary_sort operator first) s) (sort_under named a.0)) b.1
      ∙ sym (after named (Term-F.Binary operator a.0 b.0))
  node_kept (Term-F.Conditional a b c) =
      ap (sort_under names) (before (Term-F.Conditional a.0 b.0 c.0))
      ∙ after names (Term-F.Conditional (substituted name by a.0) (substituted name by b.0) (substituted name by c.0))
      ∙ ap (λ s. conditional_sort s (sort_under names (substituted name by b.0)) (sort_under names (substituted name by c.0))) a.1
      ∙ ap (λ s. conditional_sort (sort_under named a.0) s (sort_under names (substituted name by c.0))) b.1
      ∙ ap (λ s. conditional_sort (sort_under named a.0) (sort_under named b.0) s) c.1
      ∙ sym (after named (Term-F.Conditional a.0 b.0 c.0))
  node_kept (Term-F.Update a b c) =
      ap (sort_under names) (before (Term-F.Update a.0 b.0 c.0))
      ∙ after names (Term-F.Update (substituted name by a.0) (substituted name by b.0) (substituted name by c.0))
      ∙ ap (λ s. given (has sorts.List s && has sorts.Int (sort_under names (substituted name by b.0)) && has sorts.Int (sort_under names (substituted name by c.0))) sorts.List) a.1
      ∙ ap (λ s. given (has sorts.List (sort_under named a.0) && has sorts.Int s && has sorts.Int (sort_under names (substituted name by c.0))) sorts.List) b.1
      ∙ ap (λ s. given (has sorts.List (sort_under named a.0) && has sorts.Int (sort_under named b.0) && has sorts.Int s) sorts.List) c.1
      ∙ sym (after named (Term-F.Update a.0 b.0 c.0))

  pub sort_under-substituted : (term : Term) → sort_under names (substituted name by term) ≡ sort_under named term
  sort_under-substituted =
      ind-Term Keeps (λ x y is. subst (λ z. Keeps (roll-Term z)) is (node_kept y))
