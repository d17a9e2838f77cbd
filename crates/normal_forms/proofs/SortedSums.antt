-- A number in normal form is a number.
use Rattle.std.proofs.Common.{◌≡◌, ℕ, Bool, true, false, cond, List, [], ◌∷◌, refl, ap, ◌∙◌, sym, ℤ, pos, Option, Some}
use Rattle.std.specs.Option.{option_and_then}
use Rattle.std.specs.Ordering.{int_eq}
use Rattle.rc_terms.specs.declared.term.Term.{Term}
use Rattle.rc_terms.specs.declared.term.Term.TheOpen.{Term-F}
use Rattle.rc_terms.specs.declared.term.Term.TheFolds.{fold-roll-Term}
use Rattle.rc_terms.specs.declared.term.Term.TheVariants as terms
use Rattle.rc_terms.specs.declared.sort.Sort.{Sort}
use Rattle.rc_terms.specs.declared.sort.Sort.TheVariants as sorts
use Rattle.rc_terms.specs.declared.operator.BinaryOperator.{BinaryOperator}
use Rattle.rc_terms.specs.declared.operator.BinaryOperator.TheVariants as binary
use Rattle.rc_terms.specs.Sorting.{sort_under, sort_step, binary_sort}
use Rattle.normal_forms.specs.Polynomials.{expanded}
use Rattle.normal_forms.specs.Sums.{Polynomial, gathered, present, multiplied_by, multiple, plus_all, summed, normal_sum}
use Rattle.normal_forms.proofs.SumValues.{AllAre, EntriesAre, gathered_whole, present_whole}
use Rattle.normal_forms.proofs.WholeSums.{expanded_whole}

module _ (names : List (List ℕ × Sort)) where
  pub sort-Binary : (operator : BinaryOperator) (a b : Term)
      → sort_under names (terms.Binary operator a b)
      ≡ option_and_then (λ first. option_and_then (binary_sort operator first) (sort_under names b)) (sort_under names a)
  sort-Binary operator a b =
      ap (sort_under names) (sym (terms.rolls-Binary operator a b)) ∙ fold-roll-Term (Option Sort) (sort_step names) (Term-F.Binary operator a b)

  abbrev IsInt : Term → Type 0
  IsInt t = sort_under names t ≡ Some sorts.Int

  integer_sort : (n : ℤ) → IsInt (terms.Integer n)
  integer_sort n =
      ap (sort_under names) (sym (terms.rolls-Integer n)) ∙ fold-roll-Term (Option Sort) (sort_step names) (Term-F.Integer n)

  node_sort : (operator : BinaryOperator) (a b : Term) → binary_sort operator sorts.Int sorts.Int ≡ Some sorts.Int → IsInt a → IsInt b
      → IsInt (terms.Binary operator a b)
  node_sort operator a b e h g =
      sort-Binary operator a b
      ∙ ap (λ s. option_and_then (λ first. option_and_then (binary_sort operator first) (sort_under names b)) s) h
      ∙ ap (λ s. option_and_then (binary_sort operator sorts.Int) s) g ∙ e

  multiplied_by_sort : (t : Term) (ts : List Term) → IsInt t → AllAre IsInt ts → IsInt (multiplied_by t ts)
  multiplied_by_sort t [] h all = h
  multiplied_by_sort t (f ∷ fs) h all =
      multiplied_by_sort (terms.Binary binary.Multiply t f) fs (node_sort binary.Multiply t f refl h all.0) all.1

  first_sort : (one : Bool) (k : ℤ) (f : Term) → IsInt f → IsInt (cond one f (terms.Binary binary.Multiply (terms.Integer k) f))
  first_sort true k f h = h
  first_sort false k f h = node_sort binary.Multiply (terms.Integer k) f refl (integer_sort k) h

  multiple_sort : (k : ℤ) (ts : List Term) → AllAre IsInt ts → IsInt (multiple k ts)
  multiple_sort k [] all = integer_sort k
  multiple_sort k (f ∷ fs) all =
      multiplied_by_sort (cond (int_eq k (pos 1)) f (terms.Binary binary.Multiply (terms.Integer k) f)) fs (first_sort (int_eq k (pos 1)) k f all.0) all.1

  plus_all_sort : (t : Term) (es : Polynomial) → IsInt t → EntriesAre IsInt es → IsInt (plus_all t es)
  plus_all_sort t [] h all = h
  plus_all_sort t (e ∷ es) h all =
      plus_all_sort (terms.Binary binary.Add t (multiple e.1 e.0.factors)) es
      (node_sort binary.Add t (multiple e.1 e.0.factors) refl h (multiple_sort e.1 e.0.factors all.0)) all.1

  pub summed_sort : (es : Polynomial) → EntriesAre IsInt es → IsInt (summed es)
  summed_sort [] all = integer_sort (pos 0)
  summed_sort (e ∷ es) all = plus_all_sort (multiple e.1 e.0.factors) es (multiple_sort e.1 e.0.factors all.0) all.1

  pub normal_sum_sort : (t : Term) → IsInt t → IsInt (normal_sum t)
  normal_sum_sort t s =
      summed_sort (present (gathered [] (expanded t)))
      (present_whole IsInt (gathered [] (expanded t)) (gathered_whole IsInt [] (expanded t) tt (expanded_whole names IsInt (λ u h. h) t s)))
