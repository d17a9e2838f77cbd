-- Terms in normal form: every part of the sort of numbers is one sum of multiples of products (the laws of commutative
-- rings), and every location a root and one sum. Another node of literals is the literal of its value, and what is left
-- keeps its form, with its parts in normal form (this project's own).
use Rattle.std.specs.Prelude.{ℕ, Bool, true, false, List, map, Option, Some, None}
use Rattle.rc_terms.specs.declared.sort.Sort.{Sort}
use Rattle.rc_terms.specs.declared.sort.Sort.TheVariants as sorts
use Rattle.rc_terms.specs.declared.term.Term.{Term}
use Rattle.rc_terms.specs.declared.term.Term.TheOpen.{Term-F}
use Rattle.rc_terms.specs.declared.term.Term.TheFolds.{para-Term}
use Rattle.rc_terms.specs.declared.term.Term.TheVariants as terms
use Rattle.rc_terms.specs.Sorting.{sort_under}
use Rattle.normal_forms.specs.Folding.{folded}
use Rattle.normal_forms.specs.Polynomials.{parts_unary, parts_binary}
use Rattle.normal_forms.specs.Sums.{normal_sum}
use Rattle.normal_forms.specs.Locations.{normal_location}

-- the sorts of names
abbrev pub Names : Type 0
Names = List (List ℕ × Sort)

-- a term whose parts are in normal form, itself in normal form where its sort is that of numbers or of locations
abbrev pub written_by_sort : Option Sort → Term → Term
written_by_sort (Some sorts.Int) term = normal_sum term
written_by_sort (Some sorts.Loc) term = normal_location term
written_by_sort sort term = term

-- a term whose parts are in normal form, with its literals folded where it is well sorted
abbrev pub folded_by_sort : Option Sort → Term → Term
folded_by_sort None term = term
folded_by_sort (Some sort) term = folded term

-- both, where the term is a whole part; within a sum it isn't written as one of its own
abbrev pub finished : Option Sort → Term → Bool → Term
finished sort term true = written_by_sort sort (folded_by_sort sort term)
finished sort term false = folded_by_sort sort term

-- a part, and its normal form as a whole part (true) or within a sum (false)
abbrev pub Stage : Type 0
Stage = Term × (Bool → Term)

abbrev pub staged_step : Names → Term-F Stage → Bool → Term
staged_step names (Term-F.Variable name) = finished (sort_under names (terms.Variable name)) (terms.Variable name)
staged_step names (Term-F.Integer number) = finished (sort_under names (terms.Integer number)) (terms.Integer number)
staged_step names (Term-F.Truth truth) = finished (sort_under names (terms.Truth truth)) (terms.Truth truth)
staged_step names Term-F.Null = finished (sort_under names terms.Null) terms.Null
staged_step names (Term-F.List elements) =
    finished (sort_under names (terms.List (map (λ part. part.0) elements)))
    (terms.List (map (λ part. part.1 true) elements))
staged_step names (Term-F.Unary operator a) =
    finished (sort_under names (terms.Unary operator a.0)) (terms.Unary operator (a.1 (parts_unary operator)))
staged_step names (Term-F.Binary operator a b) =
    finished (sort_under names (terms.Binary operator a.0 b.0))
    (terms.Binary operator (a.1 (parts_binary operator)) (b.1 (parts_binary operator)))
staged_step names (Term-F.Conditional test a b) =
    finished (sort_under names (terms.Conditional test.0 a.0 b.0))
    (terms.Conditional (test.1 true) (a.1 true) (b.1 true))
staged_step names (Term-F.Update list index number) =
    finished (sort_under names (terms.Update list.0 index.0 number.0))
    (terms.Update (list.1 true) (index.1 true) (number.1 true))

-- a term with its parts in normal form, and itself as well where it is a whole part
abbrev pub staged : Names → Term → Bool → Term
staged names = para-Term (Bool → Term) (staged_step names)

-- a term in normal form
abbrev pub normal_term : Names → Term → Term
normal_term names term = staged names term true
