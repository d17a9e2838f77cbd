-- A location in normal form is a location, and has the value that it had.
use Rattle.std.proofs.Common.{◌≡◌, ℕ, List, [], ◌∷◌, ◌++◌, refl, ap, ◌∙◌, sym, subst, ℤ, pos, ◌+ℤ◌, Option, Some, None}
use Rattle.std.specs.Option.{option_and_then}
use Rattle.std.proofs.Math.IntN.{+ℤ_assoc, +ℤ_idr}
use Rattle.rc_terms.specs.declared.term.Term.{Term}
use Rattle.rc_terms.specs.declared.term.Term.TheVariants as terms
use Rattle.rc_terms.specs.declared.location.Loc.{Loc}
use Rattle.rc_terms.specs.declared.location.Loc.TheVariants as locations
use Rattle.rc_terms.specs.declared.value.TermValue.{TermValue}
use Rattle.rc_terms.specs.declared.value.TermValue.TheVariants as values
use Rattle.rc_terms.specs.declared.sort.Sort.{Sort}
use Rattle.rc_terms.specs.declared.sort.Sort.TheVariants as sorts
use Rattle.rc_terms.specs.declared.operator.BinaryOperator.TheVariants as binary
use Rattle.rc_terms.specs.Operators.{number_of, location_of, offset_by, plus}
use Rattle.rc_terms.specs.Evaluation.{Environment, value_of}
use Rattle.rc_terms.specs.Sorting.{sort_under, sorts_of, sort_of_value, binary_sort}
use Rattle.rc_terms.proofs.SortedTerms.{sort_of_value-value_of}
use Rattle.normal_forms.specs.declared.product.Product.{Product}
use Rattle.normal_forms.specs.declared.summand.Summand.{Summand}
use Rattle.normal_forms.specs.Polynomials.{expanded, sum_value}
use Rattle.normal_forms.specs.Sums.{Polynomial, gathered, present, summed, coefficient}
use Rattle.normal_forms.specs.Locations.{root, offset, moved, normal_location}
use Rattle.normal_forms.proofs.SumValues.{SummandsAre, IsWhole, gathered_whole, present_whole, summed-gathered}
use Rattle.normal_forms.proofs.WholeSums.{expanded_whole, number_is_whole}
use Rattle.normal_forms.proofs.SortedSums.{sort-Binary, summed_sort}
use Rattle.normal_forms.proofs.Expansions.{sum-append, sum-expanded}
use Rattle.normal_forms.proofs.Values.{value-Integer, value-Binary}
use Rattle.normal_forms.proofs.OneForm.{one_polynomial}
use Rattle.normal_forms.proofs.Roots.{IsAlone, root-Add, offset-Add, ind-root}

location_sorts : (a b : Sort) → binary_sort binary.Add a b ≡ Some sorts.Loc → (a ≡ sorts.Loc) × (b ≡ sorts.Int)
location_sorts sorts.Loc sorts.Int e = (refl, refl)
location_sorts sorts.Int sorts.Int e = cc
location_sorts sorts.Int sorts.Bool e = cc
location_sorts sorts.Int sorts.Loc e = cc
location_sorts sorts.Int sorts.List e = cc
location_sorts sorts.Int sorts.Val e = cc
location_sorts a b e = cc

sum_sorts : (x y : Option Sort) → option_and_then (λ first. option_and_then (binary_sort binary.Add first) y) x ≡ Some sorts.Loc
    → (x ≡ Some sorts.Loc) × (y ≡ Some sorts.Int)
sum_sorts None y e = cc
sum_sorts (Some a) None e = cc
sum_sorts (Some a) (Some b) e = let h = location_sorts a b e in (ap Some h.0, ap Some h.1)

module _ (names : List (List ℕ × Sort)) where
  abbrev IsLoc : Term → Type 0
  IsLoc t = sort_under names t ≡ Some sorts.Loc

  abbrev IsInt : Term → Type 0
  IsInt t = sort_under names t ≡ Some sorts.Int

  pub parts_sorts : (a b : Term) → IsLoc (terms.Binary binary.Add a b) → IsLoc a × IsInt b
  parts_sorts a b s = sum_sorts (sort_under names a) (sort_under names b) (sym (sort-Binary names binary.Add a b) ∙ s)

  pub root_sort : (t : Term) → IsLoc t → IsLoc (root t)
  root_sort = ind-root (λ t. IsLoc t → IsLoc (root t))
      (λ t h s. ap (sort_under names) h.0 ∙ s)
      (λ a b h s. ap (sort_under names) (root-Add (terms.Binary binary.Add a b) binary.Add a b refl refl) ∙ h (parts_sorts a b s).0)

  module _ (Q : Term → Type 0) (so : (t : Term) → IsInt t → Q t) where
    sums_append : (a b : List Summand) → SummandsAre Q a → SummandsAre Q b → SummandsAre Q (a ++ b)
    sums_append [] b h g = g
    sums_append (s ∷ a) b h g = (h.0, sums_append a b h.1 g)

    pub offset_whole : (t : Term) → IsLoc t → SummandsAre Q (offset t)
    offset_whole = ind-root (λ t. IsLoc t → SummandsAre Q (offset t))
        (λ t h s. subst (SummandsAre Q) (sym h.1) tt)
        (λ a b h s. subst (SummandsAre Q) (sym (offset-Add (terms.Binary binary.Add a b) binary.Add a b refl refl))
        (sums_append (offset a) (expanded b) (h (parts_sorts a b s).0) (expanded_whole names Q so b (parts_sorts a b s).1)))

  moved_sort : (t : Term) (es : Polynomial) → IsLoc t → IsInt (summed es) → IsLoc (moved t es)
  moved_sort t [] h g = h
  moved_sort t (e ∷ es) h g =
      sort-Binary names binary.Add t (summed (e ∷ es))
      ∙ ap (λ s. option_and_then (λ first. option_and_then (binary_sort binary.Add first) (sort_under names (summed (e ∷ es)))) s) h
      ∙ ap (λ s. option_and_then (binary_sort binary.Add sorts.Loc) s) g

  pub normal_location_sort : (t : Term) → IsLoc t → IsLoc (normal_location t)
  normal_location_sort t s =
      let es = gathered [] (offset t) in
      moved_sort (root t) (present es) (root_sort t s)
      (summed_sort names (present es)
      (present_whole IsInt es (gathered_whole IsInt [] (offset t) tt (offset_whole IsInt (λ u h. h) t s))))

pub offset_twice : (location : Loc) (a b : ℤ) → offset_by (offset_by location a) b ≡ offset_by location (a +ℤ b)
offset_twice locations.Null a b = refl
offset_twice (locations.At block distance) a b = ap (locations.At block) (+ℤ_assoc distance a b)

offset_none : (location : Loc) → offset_by location (pos 0) ≡ location
offset_none locations.Null = refl
offset_none (locations.At block distance) = ap (locations.At block) (+ℤ_idr distance)

location_value : (v : TermValue) → sort_of_value v ≡ sorts.Loc → v ≡ values.Location (location_of v)
location_value (values.Integer n) e = cc
location_value (values.Truth t) e = cc
location_value (values.Location l) e = refl
location_value (values.List l) e = cc
location_value (values.Bytes l) e = cc

module _ (env : Environment) where
  abbrev place : Term → Loc
  place t = location_of (value_of env t)

  abbrev IsPlace : Term → Type 0
  IsPlace t = sort_under (sorts_of env) t ≡ Some sorts.Loc

  is_place : (t : Term) → IsPlace t → value_of env t ≡ values.Location (place t)
  is_place t s = location_value (value_of env t) (sort_of_value-value_of env t sorts.Loc s)

  abbrev Keeps : Term → Type 0
  Keeps t = IsPlace t → value_of env t ≡ values.Location (offset_by (place (root t)) (sum_value env (offset t)))

  alone_keeps : (t : Term) → IsAlone t → Keeps t
  alone_keeps t h s =
      is_place t s ∙ ap values.Location (sym (offset_none (place t)))
      ∙ ap (λ r. values.Location (offset_by (place r) (pos 0))) (sym h.0)
      ∙ ap (λ l. values.Location (offset_by (place (root t)) (sum_value env l))) (sym h.1)

  sum_keeps : (a b : Term) → Keeps a → Keeps (terms.Binary binary.Add a b)
  sum_keeps a b h s =
      let t = terms.Binary binary.Add a b in
      let sorted = parts_sorts (sorts_of env) a b s in
      let at = place (root a) in
      let far = sum_value env (offset a) in
      value-Binary env binary.Add a b
      ∙ ap (λ v. plus v (value_of env b)) (h sorted.0)
      ∙ ap values.Location (offset_twice at far (number_of (value_of env b)))
      ∙ ap (λ n. values.Location (offset_by at (far +ℤ n))) (sum-expanded env b sorted.1)
      ∙ ap (λ n. values.Location (offset_by at n)) (sym (sum-append env (offset a) (expanded b)))
      ∙ ap (λ l. values.Location (offset_by at (sum_value env l))) (sym (offset-Add t binary.Add a b refl refl))
      ∙ ap (λ r. values.Location (offset_by (place r) (sum_value env (offset t)))) (sym (root-Add t binary.Add a b refl refl))

  pub root_keeps : (t : Term) → Keeps t
  root_keeps = ind-root Keeps alone_keeps sum_keeps

  moved_value : (t : Term) (es : Polynomial) (n : ℤ) → IsPlace t → value_of env (summed es) ≡ values.Integer n
      → value_of env (moved t es) ≡ values.Location (offset_by (place t) n)
  moved_value t [] n s e =
      let none : pos 0 ≡ n = ap number_of (sym (value-Integer env (pos 0)) ∙ e) in
      is_place t s ∙ ap values.Location (sym (offset_none (place t)))
      ∙ ap (λ k. values.Location (offset_by (place t) k)) none
  moved_value t (x ∷ es) n s e =
      value-Binary env binary.Add t (summed (x ∷ es))
      ∙ ap (λ v. plus v (value_of env (summed (x ∷ es)))) (is_place t s)
      ∙ ap (λ v. plus (values.Location (place t)) v) e

  pub normal_location_keeps : (t : Term) → IsPlace t → value_of env (normal_location t) ≡ value_of env t
  normal_location_keeps t s =
      moved_value (root t) (present (gathered [] (offset t))) (sum_value env (offset t)) (root_sort (sorts_of env) t s)
      (summed-gathered env (offset t) (offset_whole (sorts_of env) (IsWhole env) (number_is_whole env) t s))
      ∙ sym (root_keeps t s)

pub one_location : (term other : Term) → root term ≡ root other
    → ((product : Product) → coefficient product (offset term) ≡ coefficient product (offset other))
    → normal_location term ≡ normal_location other
one_location term other at same =
    ap (λ r. moved r (present (gathered [] (offset term)))) at
    ∙ ap (moved (root other)) (one_polynomial (offset term) (offset other) same)
