-- Where a normal form, or that of a part on the way to it, has a number that 128 bits don't hold (this project's own).
use Rattle.std.specs.Prelude.{◌≡◌, Result, Ok, Err, Bool, true, false, not, ◌||◌, List, [], map, Option, Some, None}
use Rattle.std.specs.List.{list_any}
use Rattle.rc_terms.specs.declared.term.Term.{Term}
use Rattle.rc_terms.specs.declared.term.Term.TheOpen.{Term-F}
use Rattle.rc_terms.specs.declared.term.Term.TheFolds.{para-Term}
use Rattle.rc_terms.specs.declared.term.Term.TheVariants as terms
use Rattle.rc_terms.specs.declared.sort.Sort.{Sort}
use Rattle.rc_terms.specs.declared.sort.Sort.TheVariants as sorts
use Rattle.rc_terms.specs.Numbers.{holds_in_128_bits}
use Rattle.rc_terms.specs.Sorting.{sort_under}
use Rattle.normal_forms.specs.declared.failure.Failure.{Failure}
use Rattle.normal_forms.specs.declared.failure.Failure.TheVariants as failures
use Rattle.normal_forms.specs.Folding.{folding_passes}
use Rattle.normal_forms.specs.Locations.{offset}
use Rattle.normal_forms.specs.Normal.{Names, folded_by_sort, staged}
use Rattle.normal_forms.specs.Polynomials.{expanded, parts_unary, parts_binary}
use Rattle.normal_forms.specs.Sums.{Polynomial, gathered, present}

-- whether a factor of the polynomial leaves 128 bits
abbrev pub is_wide : Polynomial → Bool
is_wide polynomial = list_any (λ entry. not (holds_in_128_bits entry.1)) polynomial

-- whether a factor of the sum that a number is does
abbrev pub sum_passes : Term → Bool
sum_passes term = is_wide (present (gathered [] (expanded term)))

-- whether a factor of the sum that is added to a location's root does
abbrev pub offset_passes : Term → Bool
offset_passes term = is_wide (present (gathered [] (offset term)))

-- whether writing a term by its sort forms such a number
abbrev pub writing_passes : Option Sort → Term → Bool
writing_passes (Some sorts.Int) term = sum_passes term
writing_passes (Some sorts.Loc) term = offset_passes term
writing_passes sort term = false

-- whether folding its literals does
abbrev pub sorted_folding_passes : Option Sort → Term → Bool
sorted_folding_passes None term = false
sorted_folding_passes (Some sort) term = folding_passes term

-- whether one of both does
abbrev pub finishing_passes : Option Sort → Term → Bool → Bool
finishing_passes sort term true = sorted_folding_passes sort term || writing_passes sort (folded_by_sort sort term)
finishing_passes sort term false = sorted_folding_passes sort term

-- a part, and whether its normal form, or that of a part of it, has such a number, as a whole part or within a sum
abbrev pub Passing : Type 0
Passing = Term × (Bool → Bool)

abbrev pub staging_step : Names → Term-F Passing → Bool → Bool
staging_step names (Term-F.Variable name) whole =
    finishing_passes (sort_under names (terms.Variable name)) (terms.Variable name) whole
staging_step names (Term-F.Integer number) whole =
    finishing_passes (sort_under names (terms.Integer number)) (terms.Integer number) whole
staging_step names (Term-F.Truth truth) whole =
    finishing_passes (sort_under names (terms.Truth truth)) (terms.Truth truth) whole
staging_step names Term-F.Null whole = finishing_passes (sort_under names terms.Null) terms.Null whole
staging_step names (Term-F.List elements) whole =
    list_any (λ part. part.1 true) elements
    || finishing_passes (sort_under names (terms.List (map (λ part. part.0) elements)))
    (terms.List (map (λ part. staged names part.0 true) elements)) whole
staging_step names (Term-F.Unary operator a) whole =
    a.1 (parts_unary operator)
    || finishing_passes (sort_under names (terms.Unary operator a.0))
    (terms.Unary operator (staged names a.0 (parts_unary operator))) whole
staging_step names (Term-F.Binary operator a b) whole =
    a.1 (parts_binary operator) || b.1 (parts_binary operator)
    || finishing_passes (sort_under names (terms.Binary operator a.0 b.0))
    (terms.Binary operator (staged names a.0 (parts_binary operator)) (staged names b.0 (parts_binary operator))) whole
staging_step names (Term-F.Conditional test a b) whole =
    test.1 true || a.1 true || b.1 true
    || finishing_passes (sort_under names (terms.Conditional test.0 a.0 b.0))
    (terms.Conditional (staged names test.0 true) (staged names a.0 true) (staged names b.0 true)) whole
staging_step names (Term-F.Update list index number) whole =
    list.1 true || index.1 true || number.1 true
    || finishing_passes (sort_under names (terms.Update list.0 index.0 number.0))
    (terms.Update (staged names list.0 true) (staged names index.0 true) (staged names number.0 true)) whole

-- whether a term's normal form, or that of a part of it, has a number that 128 bits don't hold
abbrev pub staging_passes : Names → Term → Bool → Bool
staging_passes names = para-Term (Bool → Bool) (staging_step names)

module _ {T : Type 0} where
  -- a call gives this and no number left the 128 bits, says that one did, or finds no memory
  abbrev pub Forms : Result T Failure → T → Bool → Type 0
  Forms (Ok found) wanted wide = (found ≡ wanted) × (wide ≡ false)
  Forms (Err failures.Width) wanted wide = wide ≡ true
  Forms (Err failures.NoMemory) wanted wide = Unit {0}
