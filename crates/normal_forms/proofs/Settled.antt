-- A term in normal form is its own normal form, from the same of its parts.
use Rattle.std.proofs.Common.{◌≡◌, ℕ, Bool, true, false, ◌&&◌, cond, List, [], ◌∷◌, ◌++◌, map, refl, ap, ◌∙◌, sym, subst, ℤ, pos, negsuc, Option, Some, None}
use Rattle.std.specs.Option.{option_and_then}
use Rattle.std.specs.Ordering.{int_eq, is_eq}
use Rattle.rc_terms.specs.declared.term.Term.{Term, roll-Term}
use Rattle.rc_terms.specs.declared.term.Term.TheOpen.{Term-F}
use Rattle.rc_terms.specs.declared.term.Term.TheFolds.{ind-Term}
use Rattle.rc_terms.specs.declared.term.Term.TheVariants as terms
use Rattle.rc_terms.specs.declared.value.TermValue.{TermValue}
use Rattle.rc_terms.specs.declared.value.TermValue.TheVariants as values
use Rattle.rc_terms.specs.declared.sort.Sort.{Sort}
use Rattle.rc_terms.specs.declared.sort.Sort.TheVariants as sorts
use Rattle.rc_terms.specs.declared.operator.BinaryOperator.{BinaryOperator}
use Rattle.rc_terms.specs.declared.operator.BinaryOperator.TheVariants as binary
use Rattle.rc_terms.specs.Evaluation.{value_of}
use Rattle.rc_terms.specs.Sorting.{sort_under}
use Rattle.normal_forms.specs.declared.product.Product.{Product}
use Rattle.normal_forms.specs.declared.summand.Summand.{Summand}
use Rattle.normal_forms.specs.Polynomials.{parts_binary, opaque, constant, expanded}
use Rattle.normal_forms.specs.Sums.{Polynomial, gathered, present, multiplied_by, multiple, plus_all, summed, normal_sum}
use Rattle.normal_forms.specs.Locations.{root, offset, moved, normal_location}
use Rattle.normal_forms.specs.Folding.{is_literal, is_computable, literal_of, chosen, folded}
use Rattle.normal_forms.specs.Normal.{Names, written_by_sort, folded_by_sort, finished, staged}
use Rattle.normal_forms.proofs.Expands.{expanded-Integer, expanded-Truth}
use Rattle.normal_forms.proofs.Foldings.{computable-Binary, computable_at, chosen_at}
use Rattle.normal_forms.proofs.Stages.{staged-Variable, staged-Integer, staged-Truth, staged-Null, staged-List, staged-Unary, staged-Binary, staged-Conditional, staged-Update}
use Rattle.normal_forms.proofs.StageLaws.{staged_sort}
use Rattle.normal_forms.proofs.Roots.{IsAlone, alone-Integer, alone-Truth}
use Rattle.normal_forms.proofs.SumValues.{AllAre, EntriesAre, SummandsAre, gathered_whole, present_whole}
use Rattle.normal_forms.proofs.Again.{IsOpaque, opaques, present_opaque, summand_of, summed_expanded, sum_again}
use Rattle.normal_forms.proofs.LocationAgain.{root_alone, offset_opaques, moved_root, moved_offset, location_again}

module _ (names : Names) where
  abbrev sort : Term → Option Sort
  sort t = sort_under names t

  abbrev loose : Term → Term
  loose t = staged names t false

  abbrev whole : Term → Term
  whole t = staged names t true

  -- a whole part is what stands within a sum, written by its sort
  abbrev IsWritten : Term → Type 0
  IsWritten t = whole t ≡ written_by_sort (sort t) (loose t)

  written_as : (t inner : Term) → ((w : Bool) → staged names t w ≡ finished (sort t) inner w) → IsWritten t
  written_as t inner e = e true ∙ ap (written_by_sort (sort t)) (sym (e false))

  written_node : (x : Term-F Term) → IsWritten (roll-Term x)
  written_node (Term-F.Variable name) =
      let t = roll-Term (Term-F.Variable name) in written_as t t (λ w. staged-Variable names t w name (terms.rolls-Variable name))
  written_node (Term-F.Integer n) =
      let t = roll-Term (Term-F.Integer n) in written_as t t (λ w. staged-Integer names t w n (terms.rolls-Integer n))
  written_node (Term-F.Truth b) =
      let t = roll-Term (Term-F.Truth b) in written_as t t (λ w. staged-Truth names t w b (terms.rolls-Truth b))
  written_node Term-F.Null =
      let t = roll-Term Term-F.Null in written_as t t (λ w. staged-Null names t w terms.rolls-Null)
  written_node (Term-F.List elements) =
      let t = roll-Term (Term-F.List elements) in
      written_as t (terms.List (map (λ u. whole u) elements)) (λ w. staged-List names t w elements (terms.rolls-List elements))
  written_node (Term-F.Unary operator a) =
      let t = roll-Term (Term-F.Unary operator a) in written_as t _ (λ w. staged-Unary names t w operator a (terms.rolls-Unary operator a))
  written_node (Term-F.Binary operator a b) =
      let t = roll-Term (Term-F.Binary operator a b) in
      written_as t _ (λ w. staged-Binary names t w operator a b (terms.rolls-Binary operator a b))
  written_node (Term-F.Conditional a b c) =
      let t = roll-Term (Term-F.Conditional a b c) in
      written_as t (terms.Conditional (whole a) (whole b) (whole c)) (λ w. staged-Conditional names t w a b c (terms.rolls-Conditional a b c))
  written_node (Term-F.Update a b c) =
      let t = roll-Term (Term-F.Update a b c) in
      written_as t (terms.Update (whole a) (whole b) (whole c)) (λ w. staged-Update names t w a b c (terms.rolls-Update a b c))

  pub whole_written : (t : Term) → IsWritten t
  whole_written = ind-Term IsWritten (λ x y is. written_node x)

  -- a term that stays as it is within a sum
  abbrev pub Stable : Term → Type 0
  Stable t = loose t ≡ t

  -- a term of this sort that stays, and whose summands, root and offset stay
  abbrev pub Settled : Option Sort → Term → Type 0
  Settled s u =
      Stable u × (s ≡ Some sorts.Int → SummandsAre Stable (expanded u))
      × (s ≡ Some sorts.Loc → Stable (root u) × SummandsAre Stable (offset u))

  pub settled_opaque : (s : Option Sort) (u : Term) → Stable u → IsOpaque u → IsAlone u → Settled s u
  settled_opaque s u stable is alone = (
    stable,
    λ e. subst (SummandsAre Stable) (sym is) ((stable, tt), tt),
    λ e. (subst Stable (sym alone.0) stable, subst (SummandsAre Stable) (sym alone.1) tt),
  )

  pub folded_plain : (s : Option Sort) (t : Term) → is_computable t ≡ false → chosen t ≡ t → folded_by_sort s t ≡ t
  folded_plain None t e f = refl
  folded_plain (Some s) t e f = ap (λ b. cond b (literal_of (value_of [] t) t) (chosen t)) e ∙ f

  integer_plain : (s : Option Sort) (n : ℤ) → folded_by_sort s (terms.Integer n) ≡ terms.Integer n
  integer_plain s n =
      folded_plain s (terms.Integer n) (ap is_computable (sym (terms.rolls-Integer n)) ∙ computable_at (Term-F.Integer n))
      (ap chosen (sym (terms.rolls-Integer n)) ∙ chosen_at (Term-F.Integer n))

  truth_plain : (s : Option Sort) (b : Bool) → folded_by_sort s (terms.Truth b) ≡ terms.Truth b
  truth_plain s b =
      folded_plain s (terms.Truth b) (ap is_computable (sym (terms.rolls-Truth b)) ∙ computable_at (Term-F.Truth b))
      (ap chosen (sym (terms.rolls-Truth b)) ∙ chosen_at (Term-F.Truth b))

  pub ring_plain : (s : Option Sort) (operator : BinaryOperator) (a b : Term) → parts_binary operator ≡ false
      → folded_by_sort s (terms.Binary operator a b) ≡ terms.Binary operator a b
  ring_plain s operator a b e =
      let t = terms.Binary operator a b in
      folded_plain s t (computable-Binary t operator a b refl ∙ ap (λ p. p && (is_literal a && is_literal b)) e)
      (ap chosen (sym (terms.rolls-Binary operator a b)) ∙ chosen_at (Term-F.Binary operator a b))

  pub integer_stable : (n : ℤ) → Stable (terms.Integer n)
  integer_stable n = staged-Integer names (terms.Integer n) false n refl ∙ integer_plain (sort (terms.Integer n)) n

  truth_stable : (b : Bool) → Stable (terms.Truth b)
  truth_stable b = staged-Truth names (terms.Truth b) false b refl ∙ truth_plain (sort (terms.Truth b)) b

  pub integer_settled : (s : Option Sort) (n : ℤ) → Settled s (terms.Integer n)
  integer_settled s n =
      let alone = alone-Integer (terms.Integer n) n refl in (
        integer_stable n,
        λ e. subst (SummandsAre Stable) (sym (expanded-Integer (terms.Integer n) n refl)) (tt, tt),
        λ e. (subst Stable (sym alone.0) (integer_stable n), subst (SummandsAre Stable) (sym alone.1) tt),
      )

  pub truth_settled : (s : Option Sort) (b : Bool) → Settled s (terms.Truth b)
  truth_settled s b =
      settled_opaque s (terms.Truth b) (truth_stable b) (expanded-Truth (terms.Truth b) b refl) (alone-Truth (terms.Truth b) b refl)

  ring_stable : (operator : BinaryOperator) (a b : Term) → parts_binary operator ≡ false → Stable a → Stable b → Stable (terms.Binary operator a b)
  ring_stable operator a b e h g =
      let t = terms.Binary operator a b in
      staged-Binary names t false operator a b refl
      ∙ ap (λ w. folded_by_sort (sort t) (terms.Binary operator (staged names a w) (staged names b w))) e
      ∙ ap (λ x. folded_by_sort (sort t) (terms.Binary operator x (loose b))) h
      ∙ ap (λ x. folded_by_sort (sort t) (terms.Binary operator a x)) g ∙ ring_plain (sort t) operator a b e

  multiplied_stable : (t : Term) (fs : List Term) → Stable t → AllAre Stable fs → Stable (multiplied_by t fs)
  multiplied_stable t [] h all = h
  multiplied_stable t (f ∷ fs) h all =
      multiplied_stable (terms.Binary binary.Multiply t f) fs (ring_stable binary.Multiply t f refl h all.0) all.1

  first_stable : (one : Bool) (k : ℤ) (f : Term) → Stable f → Stable (cond one f (terms.Binary binary.Multiply (terms.Integer k) f))
  first_stable true k f h = h
  first_stable false k f h = ring_stable binary.Multiply (terms.Integer k) f refl (integer_stable k) h

  multiple_stable : (k : ℤ) (fs : List Term) → AllAre Stable fs → Stable (multiple k fs)
  multiple_stable k [] all = integer_stable k
  multiple_stable k (f ∷ fs) all =
      multiplied_stable (cond (int_eq k (pos 1)) f (terms.Binary binary.Multiply (terms.Integer k) f)) fs
      (first_stable (int_eq k (pos 1)) k f all.0) all.1

  plus_stable : (t : Term) (es : Polynomial) → Stable t → EntriesAre Stable es → Stable (plus_all t es)
  plus_stable t [] h all = h
  plus_stable t (e ∷ es) h all =
      plus_stable (terms.Binary binary.Add t (multiple e.1 e.0.factors)) es
      (ring_stable binary.Add t (multiple e.1 e.0.factors) refl h (multiple_stable e.1 e.0.factors all.0)) all.1

  summed_stable : (es : Polynomial) → EntriesAre Stable es → Stable (summed es)
  summed_stable [] all = integer_stable (pos 0)
  summed_stable (e ∷ es) all = plus_stable (multiple e.1 e.0.factors) es (multiple_stable e.1 e.0.factors all.0) all.1

  entries_summands : (es : Polynomial) → EntriesAre Stable es → SummandsAre Stable (map summand_of es)
  entries_summands [] all = tt
  entries_summands (e ∷ es) all = (all.0, entries_summands es all.1)

  summed_summands : (es : Polynomial) → EntriesAre IsOpaque es → EntriesAre Stable es → SummandsAre Stable (expanded (summed es))
  summed_summands [] all stable = subst (SummandsAre Stable) (sym (expanded-Integer (terms.Integer (pos 0)) (pos 0) refl)) (tt, tt)
  summed_summands (e ∷ es) all stable =
      subst (SummandsAre Stable) (sym (summed_expanded e es all)) (entries_summands (e ∷ es) stable)

  -- the entries of a polynomial of terms that stay
  entries_stable : (ss : List Summand) → SummandsAre Stable ss → EntriesAre Stable (present (gathered [] ss))
  entries_stable ss all = present_whole Stable (gathered [] ss) (gathered_whole Stable [] ss tt all)

  sum_settled : (v : Term) → SummandsAre Stable (expanded v) → Settled (Some sorts.Int) (normal_sum v)
  sum_settled v all = (
    summed_stable (present (gathered [] (expanded v))) (entries_stable (expanded v) all),
    λ e. summed_summands (present (gathered [] (expanded v))) (present_opaque (expanded v) (opaques v)) (entries_stable (expanded v) all),
    λ e. cc,
  )

  moved_stable : (r : Term) (es : Polynomial) → Stable r → EntriesAre Stable es → Stable (moved r es)
  moved_stable r [] h all = h
  moved_stable r (e ∷ es) h all = ring_stable binary.Add r (summed (e ∷ es)) refl h (summed_stable (e ∷ es) all)

  moved_summands : (r : Term) (es : Polynomial) → IsAlone r → EntriesAre IsOpaque es → EntriesAre Stable es → SummandsAre Stable (offset (moved r es))
  moved_summands r [] h all stable = subst (SummandsAre Stable) (sym h.1) tt
  moved_summands r (e ∷ es) h all stable =
      subst (SummandsAre Stable) (sym (moved_offset r e es h)) (summed_summands (e ∷ es) all stable)

  location_settled : (v : Term) → Stable (root v) → SummandsAre Stable (offset v) → Settled (Some sorts.Loc) (normal_location v)
  location_settled v h all =
      let es = present (gathered [] (offset v)) in (
        moved_stable (root v) es h (entries_stable (offset v) all),
        λ e. cc,
        λ e. (
          subst Stable (sym (moved_root (root v) es (root_alone v))) h,
          moved_summands (root v) es (root_alone v) (present_opaque (offset v) (offset_opaques v)) (entries_stable (offset v) all),
        ),
      )

  written_settled : (s : Option Sort) (v : Term) → Settled s v → Settled s (written_by_sort s v)
  written_settled None v h = h
  written_settled (Some sorts.Int) v h = sum_settled v (h.1 refl)
  written_settled (Some sorts.Bool) v h = h
  written_settled (Some sorts.Loc) v h = let at = h.2 refl in location_settled v at.0 at.1
  written_settled (Some sorts.List) v h = h
  written_settled (Some sorts.Val) v h = h

  written_again : (s : Option Sort) (v : Term) → written_by_sort s (written_by_sort s v) ≡ written_by_sort s v
  written_again None v = refl
  written_again (Some sorts.Int) v = sum_again v
  written_again (Some sorts.Bool) v = refl
  written_again (Some sorts.Loc) v = location_again v
  written_again (Some sorts.List) v = refl
  written_again (Some sorts.Val) v = refl

  -- what is settled within a sum and as a whole part, and its own normal form
  abbrev pub Good : Term → Type 0
  Good t = Settled (sort t) (loose t) × Settled (sort t) (whole t) × (whole (whole t) ≡ whole t)

  pub good : (t : Term) → Settled (sort t) (loose t) → Good t
  good t h =
      let w = whole_written t in
      let settled = subst (Settled (sort t)) (sym w) (written_settled (sort t) (loose t) h) in (
        h,
        settled,
        whole_written (whole t) ∙ ap (λ s. written_by_sort s (loose (whole t))) (staged_sort names t true)
            ∙ ap (written_by_sort (sort t)) (settled.0 ∙ w) ∙ written_again (sort t) (loose t) ∙ sym w,
      )

  -- a part of a node as it stands in the node
  pub kept : (t : Term) (flag : Bool) → Good t → staged names (staged names t flag) flag ≡ staged names t flag
  kept t true h = h.2
  kept t false h = h.0.0

  literal_settled : (s : Option Sort) (v : TermValue) (inner : Term) → (loose inner ≡ literal_of v inner) → IsOpaque inner → IsAlone inner
      → Settled s (literal_of v inner)
  literal_settled s (values.Integer n) inner again is alone = integer_settled s n
  literal_settled s (values.Truth b) inner again is alone = truth_settled s b
  literal_settled s v inner again is alone = settled_opaque s inner again is alone

  computed_settled : (here : Bool) (s : Option Sort) (inner : Term) → is_computable inner ≡ here
      → (loose inner ≡ cond here (literal_of (value_of [] inner) inner) (chosen inner)) → chosen inner ≡ inner → IsOpaque inner → IsAlone inner
      → Settled s (cond here (literal_of (value_of [] inner) inner) (chosen inner))
  computed_settled true s inner e again same is alone = literal_settled s (value_of [] inner) inner again is alone
  computed_settled false s inner e again same is alone =
      subst (Settled s) (sym same) (settled_opaque s inner (again ∙ same) is alone)

  -- a node that is no sum and no conditional term
  pub opaque_settled : (s q : Option Sort) (inner : Term) → loose inner ≡ folded_by_sort s inner → chosen inner ≡ inner → IsOpaque inner → IsAlone inner
      → Settled q (folded_by_sort s inner)
  opaque_settled None q inner again same is alone = settled_opaque q inner again is alone
  opaque_settled (Some s) q inner again same is alone = computed_settled (is_computable inner) q inner refl again same is alone
