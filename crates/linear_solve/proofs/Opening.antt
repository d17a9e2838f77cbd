-- The model of an elimination that went on meets all given rows.
use Rattle.std.proofs.Common.{◌≡◌, ◌≢◌, ℕ, ◌+◌, ◌<◌, ◌==◌, Bool, true, false, not, cond, ⊎_elim}
use Rattle.std.proofs.Common.{List, [], ◌∷◌, ◌++◌, find, fold, Option, Some, None, Result, Ok, Err, unwrap_or}
use Rattle.std.proofs.Common.{ℤ, pos, ◌+ℤ◌, ◌*ℤ◌, ◌<ℤ◌, nat_le, refl, sym, ap, ◌∙◌, subst, arith}
use Rattle.std.proofs.Common.{filter, Decides, int_div}
use Rattle.std.specs.List.{flat_map, list_any}
use Rattle.std.specs.Option.{option_map_or}
use Rattle.std.specs.Ordering.{nat_cmp, eq_by_cmp, int_eq, match_ordering}
use Rattle.std.specs.declared.cmp.Ordering.{Ordering}
use Rattle.std.specs.declared.cmp.Ordering.TheVariants.{Less, Equal, Greater}
use Rattle.std.specs.Cmp.{ranked, unsigned_tied, signed_Decides}
use Rattle.std.specs.BTreeSet.{insert_key}
use Rattle.std.specs.FinMap.{entries, entries_sorted, get-entries}
use Rattle.std.specs.FinMap as finite
use Rattle.std.proofs.lemmas.Bool.{cases_eq}
use Rattle.std.proofs.lemmas.Bool.Decides.{Decides-eqb}
use Rattle.std.proofs.lemmas.Int.{ints}
use lib.IntN.{+ℤ_idl, +ℤ_idr, *ℤ_comm, *ℤ-zero, zero-*ℤ}
use Rattle.linear_certs.specs.declared.row.Row.{Row}
use Rattle.linear_certs.specs.Certificate.{factors, number_in, Says}
use Rattle.linear_certs.proofs.Integers.{mul_assoc}
use Rattle.linear_certs.proofs.SortedFactors.{factor_in, tied_same, same_tied}
use Rattle.linear_solve.specs.declared.derived.Derived.{Derived}
use Rattle.linear_solve.specs.declared.step.Step.{Step}
use Rattle.linear_solve.specs.declared.step.Eliminated.{Eliminated}
use Rattle.linear_solve.specs.declared.step.Eliminated.TheVariants as outcomes
use Rattle.linear_solve.specs.declared.limit.Limit.{Limit}
use Rattle.linear_solve.specs.declared.fraction.Fraction.{Fraction}
use Rattle.linear_solve.specs.declared.model.UnknownValue.{UnknownValue}
use Rattle.linear_solve.specs.Numbers.{quotients}
use Rattle.linear_solve.specs.Derived.{factor_of, has_unknown, own_multiple, other_multiple, sums_of, combined, cleared}
use Rattle.linear_solve.specs.Limits.{is_wide_row, row_limit}
use Rattle.linear_solve.specs.Levels.{Taken, passed, failing, kept, taken, taken_counted, says_truly, is_equation, same_row}
use Rattle.linear_solve.specs.Levels.{without_first_equation, cleared_by, paired, formed, formed_by, positive_rows, negative_rows}
use Rattle.linear_solve.specs.Levels.{rows_with, rows_without, next_level, after_step, elimination}
use Rattle.linear_solve.specs.Fractions.{whole}
use Rattle.linear_solve.specs.Models.{and_then, value_of, step_value, values_of}
use Rattle.linear_solve.specs.Unknowns.{with_factors, unknowns_of}
use Rattle.linear_solve.proofs.TakenLemmas.{fold-failing, fold-passed}
use Rattle.linear_solve.proofs.NumberLemmas.{entries-quotients}
use Rattle.linear_solve.proofs.Weights.{only}
use Rattle.linear_solve.proofs.DivisorLemmas.{shared_positive}
use Rattle.linear_solve.proofs.Soundness.{pos_product, combined_number}
use Rattle.linear_solve.proofs.Signs.{zero_factor}
use Rattle.linear_solve.proofs.Refuted.{Each, each_filter, found_each, others_each}
use Rattle.linear_solve.proofs.Products.{swap_last, times_one, other_swap, self_cleared}
use Rattle.linear_solve.proofs.Points.{divisor_in, moved, moved_sum, Stands, AllStand, then_inverted}
use Rattle.linear_solve.proofs.Completeness.{Met, MetAt, level_met, taken_if, each_weaker}

-- ---- unknowns

-- none of these unknowns
abbrev pub Outside : List ℕ → ℕ → Type 0
Outside [] x = Unit {0}
Outside (u ∷ us) x = (x ≢ u) × Outside us x

-- each is apart from those behind it
abbrev pub AreApart : List ℕ → Type 0
AreApart [] = Unit {0}
AreApart (u ∷ us) = Outside us u × AreApart us

-- each is above a number
abbrev AreAbove : ℕ → List ℕ → Type 0
AreAbove k [] = Unit {0}
AreAbove k (u ∷ us) = (k < u) × AreAbove k us

abbrev Ascend : List ℕ → Type 0
Ascend [] = Unit {0}
Ascend (u ∷ us) = AreAbove u us × Ascend us

above_more : (k u : ℕ) (us : List ℕ) → k < u → AreAbove u us → AreAbove k us
above_more k u [] below above = tt
above_more k u (v ∷ us) below above =
    let first = above.0 in (omega arith, above_more k u us below above.1)

above_inserted : (k u : ℕ) (us : List ℕ) → k < u → AreAbove k us → AreAbove k (insert_key nat_cmp us u)
above_inserted k u [] below above = (below, tt)
above_inserted k u (v ∷ us) below above = by_rank (nat_cmp u v) (above_inserted k u us below above.1)
  where
    by_rank : (r : Ordering) → AreAbove k (insert_key nat_cmp us u)
        → AreAbove k (match_ordering r (u ∷ v ∷ us) (v ∷ us) (v ∷ insert_key nat_cmp us u))
    by_rank Less rest = (below, above)
    by_rank Equal rest = above
    by_rank Greater rest = (above.0, rest)

ascend_inserted : (us : List ℕ) (u : ℕ) → Ascend us → Ascend (insert_key nat_cmp us u)
ascend_inserted [] u ascend = (tt, tt)
ascend_inserted (v ∷ us) u ascend = by_rank (nat_cmp u v) refl (ascend_inserted us u ascend.1)
  where
    by_rank : (r : Ordering) → nat_cmp u v ≡ r → Ascend (insert_key nat_cmp us u)
        → Ascend (match_ordering r (u ∷ v ∷ us) (v ∷ us) (v ∷ insert_key nat_cmp us u))
    by_rank Less is rest =
        let below : u < v = ranked u v Less (sym is) in ((below, above_more u v us below ascend.0), ascend)
    by_rank Equal is rest = ascend
    by_rank Greater is rest =
        let below : v < u = ranked u v Greater (sym is) in (above_inserted v u us below ascend.0, rest)

ascend_factors : (us : List ℕ) (es : List (ℕ × ℤ)) → Ascend us → Ascend (with_factors us es)
ascend_factors us [] ascend = ascend
ascend_factors us (e ∷ es) ascend = ascend_factors (insert_key nat_cmp us e.0) es (ascend_inserted us e.0 ascend)

ascend_rows : (us : List ℕ) (rows : List Row) → Ascend us
    → Ascend (fold (λ known row. with_factors known (entries row.factors)) us rows)
ascend_rows us [] ascend = ascend
ascend_rows us (row ∷ rows) ascend =
    ascend_rows (with_factors us (entries row.factors)) rows (ascend_factors us (entries row.factors) ascend)

above_outside : (k : ℕ) (us : List ℕ) → AreAbove k us → Outside us k
above_outside k [] above = tt
above_outside k (u ∷ us) above =
    let first = above.0 in (λ same. absurd (omega (arith, same)), above_outside k us above.1)

ascend_apart : (us : List ℕ) → Ascend us → AreApart us
ascend_apart [] ascend = tt
ascend_apart (u ∷ us) ascend = (above_outside u us ascend.0, ascend_apart us ascend.1)

pub unknowns_apart : (rows : List Row) → AreApart (unknowns_of rows)
unknowns_apart rows = ascend_apart (unknowns_of rows) (ascend_rows [] rows tt)

-- what is outside of more is outside of less
outside_inserted : (us : List ℕ) (u x : ℕ) → Outside (insert_key nat_cmp us u) x → Outside us x × (x ≢ u)
outside_inserted [] u x outside = (tt, outside.0)
outside_inserted (v ∷ us) u x outside = by_rank (nat_cmp u v) refl outside (outside_inserted us u x)
  where
    by_rank : (r : Ordering) → nat_cmp u v ≡ r
        → Outside (match_ordering r (u ∷ v ∷ us) (v ∷ us) (v ∷ insert_key nat_cmp us u)) x
        → (Outside (insert_key nat_cmp us u) x → Outside us x × (x ≢ u)) → Outside (v ∷ us) x × (x ≢ u)
    by_rank Less is outside rest = (outside.1, outside.0)
    by_rank Equal is outside rest =
        let same : u ≡ v = ranked u v Equal (sym is) in (outside, λ here. outside.0 (here ∙ same))
    by_rank Greater is outside rest = let more = rest outside.1 in ((outside.0, more.0), more.1)

-- not an index of entries
abbrev pub IsAbsent : ℕ → List (ℕ × ℤ) → Type 0
IsAbsent x [] = Unit {0}
IsAbsent x (e ∷ es) = (x ≢ e.0) × IsAbsent x es

outside_factors : (us : List ℕ) (es : List (ℕ × ℤ)) (x : ℕ) → Outside (with_factors us es) x → Outside us x × IsAbsent x es
outside_factors us [] x outside = (outside, tt)
outside_factors us (e ∷ es) x outside =
    let later = outside_factors (insert_key nat_cmp us e.0) es x outside in
    let first = outside_inserted us e.0 x later.0 in (first.0, (first.1, later.1))

-- a property of each row
abbrev pub EachRow : (Row → Type 0) → List Row → Type 0
EachRow P [] = Unit {0}
EachRow P (row ∷ rows) = P row × EachRow P rows

pub outside_rows : (us : List ℕ) (rows : List Row) (x : ℕ)
    → Outside (fold (λ known row. with_factors known (entries row.factors)) us rows) x
    → Outside us x × EachRow (λ row. IsAbsent x (entries row.factors)) rows
outside_rows us [] x outside = (outside, tt)
outside_rows us (row ∷ rows) x outside =
    let later = outside_rows (with_factors us (entries row.factors)) rows x outside in
    let first = outside_factors us (entries row.factors) x later.0 in (first.0, (first.1, later.1))

pub absent_zero : (x : ℕ) (es : List (ℕ × ℤ)) → IsAbsent x es → factor_in x es ≡ pos 0
absent_zero x [] absent = refl
absent_zero x (e ∷ es) absent =
    elim (eq_by_cmp nat_cmp x e.0) as (λ b. eq_by_cmp nat_cmp x e.0 ≡ b
    → unwrap_or (cond b (Some e.1) (finite.find nat_cmp x es)) (pos 0) ≡ pos 0) [
      | true ↦ λ tied. absurd (absent.0 (tied_same x e.0 tied))
      | false ↦ λ _. absent_zero x es absent.1
    ] refl

-- ---- rows that have only some unknowns

abbrev pub AreNonzero : List (ℕ × ℤ) → Type 0
AreNonzero [] = Unit {0}
AreNonzero (e ∷ es) = (e.1 ≢ pos 0) × AreNonzero es

-- the row has no other unknowns, and no factor that is 0
pub record HasOnly (us : List ℕ) (r : Derived) : Type 0 where
  pub nonzero : AreNonzero (entries r.row.factors)
  pub outside : (x : ℕ) → Outside us x → number_in (factors x) r.row ≡ pos 0

-- and it has one
pub record HasSome (us : List ℕ) (r : Derived) : Type 0 where
  pub only_these : HasOnly us r
  pub some : entries r.row.factors ≢ []

quotients_nonzero : (divisor : ℤ) (es : List (ℕ × ℤ)) → AreNonzero (quotients divisor es)
quotients_nonzero divisor [] = tt
quotients_nonzero divisor (e ∷ es) =
    kept_if (int_eq (int_div e.1 divisor) (pos 0)) (signed_Decides (int_div e.1 divisor) (pos 0)) (quotients_nonzero divisor es)
  where
    kept_if : (b : Bool) → Decides b (int_div e.1 divisor ≡ pos 0) → AreNonzero (quotients divisor es)
        → AreNonzero (cond (not b) ((e.0, int_div e.1 divisor) ∷ quotients divisor es) (quotients divisor es))
    kept_if true decides rest = rest
    kept_if false decides rest = (λ same. let clash : false ≡ true = decides.1 same in cc, rest)

combined_nonzero : (by : ℤ) (left : Derived) (times : ℤ) (right : Derived)
    → AreNonzero (entries (combined by left times right).row.factors)
combined_nonzero by left times right =
    let sums = sums_of by (entries left.row.factors) times (entries right.row.factors) in
    let shared = divisor_in by left times right in
    subst AreNonzero (sym (entries-quotients shared (entries sums) (entries_sorted sums)))
    (quotients_nonzero shared (entries sums))

own_cleared : (f g : ℤ) → own_multiple f *ℤ g +ℤ other_multiple f g *ℤ f ≡ pos 0
own_cleared f g =
    ap (λ z. own_multiple f *ℤ g +ℤ z) (*ℤ_comm (other_multiple f g) f ∙ other_swap f f g)
    ∙ self_cleared f g

-- a cleared row has neither the unknown nor what neither has
cleared_only : (u : ℕ) (us : List ℕ) (left right : Derived) → HasOnly (u ∷ us) left → HasOnly (u ∷ us) right
    → HasOnly us (cleared u left right)
cleared_only u us left right is_left is_right =
    let f = factor_of u right in
    let by = own_multiple f in
    let times = other_multiple f (factor_of u left) in
    record {
      nonzero = combined_nonzero by left times right;
      outside = λ x out.
          zero_factor (number_in (factors x) (cleared u left right).row) (divisor_in by left times right)
          (shared_positive (by *ℤ left.row.constant +ℤ times *ℤ right.row.constant)
          (entries (sums_of by (entries left.row.factors) times (entries right.row.factors))))
          (combined_number (factors x) by left times right ∙ none x out);
    }
  where
    none : (x : ℕ) → Outside us x
        → own_multiple (factor_of u right) *ℤ number_in (factors x) left.row
        +ℤ other_multiple (factor_of u right) (factor_of u left) *ℤ number_in (factors x) right.row ≡ pos 0
    none x out =
        ⊎_elim
        (λ (here : x ≡ u).
        ap (λ y. own_multiple (factor_of u right) *ℤ number_in (factors y) left.row
        +ℤ other_multiple (factor_of u right) (factor_of u left) *ℤ number_in (factors y) right.row) here
        ∙ own_cleared (factor_of u right) (factor_of u left))
        (λ apart.
        let away : x ≢ u = apart in
        (λ i. own_multiple (factor_of u right) *ℤ is_left.outside x (away, out) i
        +ℤ other_multiple (factor_of u right) (factor_of u left) *ℤ is_right.outside x (away, out) i)
        ∙ (λ i. *ℤ-zero (own_multiple (factor_of u right)) i
        +ℤ *ℤ-zero (other_multiple (factor_of u right) (factor_of u left)) i))
        (cases_eq x u)

cleared_each : (u : ℕ) (us : List ℕ) (e : Derived) (ds : List Derived) → HasOnly (u ∷ us) e → Each (HasOnly (u ∷ us)) ds
    → Each (HasOnly us) (cleared_by u e ds)
cleared_each u us e [] is_e all = tt
cleared_each u us e (r ∷ ds) is_e all = (cleared_only u us r e all.0 is_e, cleared_each u us e ds is_e all.1)

paired_each : (u : ℕ) (us : List ℕ) (r : Derived) (ds : List Derived) → HasOnly (u ∷ us) r → Each (HasOnly (u ∷ us)) ds
    → Each (HasOnly us) (paired u r ds)
paired_each u us r [] is_r all = tt
paired_each u us r (n ∷ ds) is_r all = (cleared_only u us r n is_r all.0, paired_each u us r ds is_r all.1)

each_joined : (P : Derived → Type 0) (xs ys : List Derived) → Each P xs → Each P ys → Each P (xs ++ ys)
each_joined P [] ys first second = second
each_joined P (x ∷ xs) ys first second = (first.0, each_joined P xs ys first.1 second)

pairs_each : (u : ℕ) (us : List ℕ) (ns ps : List Derived) → Each (HasOnly (u ∷ us)) ns → Each (HasOnly (u ∷ us)) ps
    → Each (HasOnly us) (flat_map (λ row. paired u row ns) ps)
pairs_each u us ns [] all_n all_p = tt
pairs_each u us ns (p ∷ ps) all_n all_p =
    each_joined (HasOnly us) (paired u p ns) (flat_map (λ row. paired u row ns) ps)
    (paired_each u us p ns all_p.0 all_n) (pairs_each u us ns ps all_n all_p.1)

each_tested : (P : Derived → Type 0) (test : Derived → Bool) (ds : List Derived) → Each P ds → Each P (filter test ds)
each_tested P test ds all =
    each_weaker (λ d. P d × (test d ≡ true)) P (filter test ds) (λ d h. h.0) (each_filter P test ds all)

formed_each : (u : ℕ) (us : List ℕ) (ds : List Derived) → Each (HasOnly (u ∷ us)) ds → Each (HasOnly us) (formed u ds)
formed_each u us ds all = by_find (find is_equation ds) refl
  where
    by_find : (o : Option Derived) → find is_equation ds ≡ o → Each (HasOnly us) (formed_by u ds o)
    by_find (Some e) is =
        cleared_each u us e (without_first_equation ds) (found_each (HasOnly (u ∷ us)) ds e is all).0
        (others_each (HasOnly (u ∷ us)) ds all)
    by_find None is =
        pairs_each u us (negative_rows u ds) (positive_rows u ds)
        (each_tested (HasOnly (u ∷ us)) _ ds all) (each_tested (HasOnly (u ∷ us)) _ ds all)

-- what is kept has an unknown
counted_some : (us : List ℕ) (ds : List Derived) (count : ℕ) (r : Derived) (es : List (ℕ × ℤ)) (next : List Derived)
    (counted : ℕ) → entries r.row.factors ≡ es → taken_counted ds count r es ≡ kept next counted → Each (HasSome us) ds
    → HasOnly us r → Each (HasSome us) next
counted_some us ds count r [] next counted none is all only_these =
    taken_if (says_truly r.row.kind r.row.constant) (kept ds count) (failing r) next counted is
    (λ _ e. let same : ds ≡ next = cc in subst (Each (HasSome us)) same all) (λ _ e. absurd (cc))
counted_some us ds count r (f ∷ es) next counted some is all only_these =
    taken_if (list_any (λ other. same_row other.row r.row) ds) (kept ds count) (kept (ds ++ r ∷ []) count) next counted is
    (λ _ e. let same : ds ≡ next = cc in subst (Each (HasSome us)) same all)
    (λ _ e. let same : ds ++ r ∷ [] ≡ next = cc in
    subst (Each (HasSome us)) same (each_joined (HasSome us) ds (r ∷ []) all
    (record { only_these = only_these; some = λ none. let clash : f ∷ es ≡ [] = sym some ∙ none in cc }, tt)))

taken_some : (us : List ℕ) (ds : List Derived) (count : ℕ) (r : Derived) (next : List Derived) (counted : ℕ)
    → taken (kept ds count) r ≡ kept next counted → Each (HasSome us) ds → HasOnly us r → Each (HasSome us) next
taken_some us ds count r next counted is all only_these =
    taken_if (is_wide_row r.row) _ _ next counted is (λ _ e. absurd (cc))
    (λ _ e. taken_if (nat_le row_limit count) _ _ next counted e (λ _ e. absurd (cc))
    (λ _ e. counted_some us ds (count + 1) r (entries r.row.factors) next counted refl e all only_these))

pub fold_some : (us : List ℕ) (ds : List Derived) (count : ℕ) (rows next : List Derived) (counted : ℕ)
    → fold taken (kept ds count) rows ≡ kept next counted → Each (HasSome us) ds → Each (HasOnly us) rows
    → Each (HasSome us) next
fold_some us ds count [] next counted is all more =
    let same : ds ≡ next = cc in subst (Each (HasSome us)) same all
fold_some us ds count (r ∷ rows) next counted is all more =
    elim (taken (kept ds count) r) as (λ t. taken (kept ds count) r ≡ t → fold taken t rows ≡ kept next counted
    → Each (HasSome us) next) [
      | passed l ↦ λ here rest. absurd (let stays = fold-passed l rows in cc)
      | failing f ↦ λ here rest. absurd (let stays = fold-failing f rows in cc)
      | kept now counted_now ↦ λ here rest.
          fold_some us now counted_now rows next counted rest (taken_some us ds count r now counted_now here all more.0) more.1
    ] refl is

-- rows without the unknown have only the later ones
without_some : (u : ℕ) (us : List ℕ) (ds : List Derived) → Each (HasSome (u ∷ us)) ds → Each (HasSome us) (rows_without u ds)
without_some u us ds all =
    each_weaker (λ d. HasSome (u ∷ us) d × (not (has_unknown u d) ≡ true)) (HasSome us) (rows_without u ds)
    (λ d h. record {
      only_these = record {
        nonzero = h.0.only_these.nonzero;
        outside = λ x out. ⊎_elim
            (λ (here : x ≡ u). ap (λ y. number_in (factors y) d.row) here
            ∙ (signed_Decides (factor_of u d) (pos 0)).0 (not_not (int_eq (factor_of u d) (pos 0)) h.1))
            (λ apart. let away : x ≢ u = apart in h.0.only_these.outside x (away, out)) (cases_eq x u);
      };
      some = h.0.some;
    })
    (each_filter (HasSome (u ∷ us)) (λ d. not (has_unknown u d)) ds all)
  where
    not_not : (b : Bool) → not (not b) ≡ true → b ≡ true
    not_not true e = refl
    not_not false e = absurd (cc)

next_some : (u : ℕ) (us : List ℕ) (ds : List Derived) (count : ℕ) (next : List Derived) (counted : ℕ)
    → next_level u ds count ≡ kept next counted → Each (HasSome (u ∷ us)) ds → Each (HasSome us) next
next_some u us ds count next counted is all =
    fold_some us (rows_without u ds) count (formed u (rows_with u ds)) next counted is (without_some u us ds all)
    (formed_each u us (rows_with u ds)
    (each_tested (HasOnly (u ∷ us)) (has_unknown u) ds
    (each_weaker (HasSome (u ∷ us)) (HasOnly (u ∷ us)) ds (λ d h. h.only_these) all)))

-- without unknowns there are no rows
no_unknowns : (r : Derived) → HasSome [] r → ⊥
no_unknowns r is = by_entries (entries r.row.factors) refl
  where
    by_entries : (es : List (ℕ × ℤ)) → entries r.row.factors ≡ es → ⊥
    by_entries [] none = is.some none
    by_entries (e ∷ es) some =
        (subst AreNonzero some is.only_these.nonzero).0
        (sym (ap (λ b. unwrap_or (cond b (Some e.1) (finite.find nat_cmp e.0 es)) (pos 0)) (same_tied e.0))
        ∙ sym (ap (factor_in e.0) some)
        ∙ sym (ap (λ o. unwrap_or o (pos 0)) (get-entries r.row.factors e.0))
        ∙ is.only_these.outside e.0 tt)

-- ---- the model

-- fractions that are the values, and meet the rows
pub record IsMet (values : List UnknownValue) (us : List ℕ) (rows : List Derived) : Type 0 where
  pub num : ℕ → ℤ
  pub d : ℤ
  pub positive : pos 0 <ℤ d
  pub stand : AllStand values num d
  pub outside : (x : ℕ) → Outside us x → value_of values x ≡ whole (pos 0)
  pub met : Each (Met num d) rows

each_none : (P Q : Derived → Type 0) (ds : List Derived) → ((r : Derived) → P r → ⊥) → Each P ds → Each Q ds
each_none P Q [] never all = tt
each_none P Q (r ∷ ds) never all = absurd (never r all.0)

zero_stands : Stands (whole (pos 0)) (pos 0) (pos 1)
zero_stands = record { positive = omega (arith, ints); same = refl }

after_inverted : (step : Step) (rest : Result Eliminated Limit) (steps : List Step)
    → after_step step rest ≡ Ok (outcomes.Steps steps)
    → (more : List Step) × (rest ≡ Ok (outcomes.Steps more)) × (steps ≡ step ∷ more)
after_inverted step (Err l) steps is = absurd (cc)
after_inverted step (Ok (outcomes.Refuted r)) steps is = absurd (cc)
after_inverted step (Ok (outcomes.Steps more)) steps is =
    let same : steps ≡ step ∷ more = cc in (more, refl, same)

pub goes_on : (us : List ℕ) (t : Taken) (steps : List Step) → elimination us t ≡ Ok (outcomes.Steps steps)
    → (ds : List Derived) × (count : ℕ) × (t ≡ kept ds count)
goes_on us (passed l) steps is = absurd (cc)
goes_on us (failing f) steps is = absurd (cc)
goes_on us (kept ds count) steps is = (ds, count, refl)

-- the numerator of an unknown without a value
no_value : (values : List UnknownValue) (num : ℕ → ℤ) (d : ℤ) (u : ℕ) → AllStand values num d
    → value_of values u ≡ whole (pos 0) → num u ≡ pos 0
no_value values num d u stand is =
    let here = subst (λ f. Stands f (num u) d) is (stand u) in
    sym (times_one (num u)) ∙ sym here.same ∙ zero-*ℤ d

-- an unknown's value is put before the others
value_here : (values : List UnknownValue) (u : ℕ) (v : Fraction) (x : ℕ) (b : Bool) → (u == x) ≡ b
    → value_of (record { unknown = u; value = v } ∷ values) x ≡ cond b v (value_of values x)
value_here values u v x true is =
    ap (λ b. option_map_or (λ found. found.value) (cond b (Some (record { unknown = u; value = v }))
    (find (λ entry. entry.unknown == x) values)) (whole (pos 0))) is
value_here values u v x false is =
    ap (λ b. option_map_or (λ found. found.value) (cond b (Some (record { unknown = u; value = v }))
    (find (λ entry. entry.unknown == x) values)) (whole (pos 0))) is

only_here : (u : ℕ) → only u u ≡ pos 1
only_here u = ap (λ b. cond b (pos 1) (pos 0)) (same_tied u)

only_apart : (u x : ℕ) → (u == x) ≡ false → only u x ≡ pos 0
only_apart u x apart = ap (λ b. cond b (pos 1) (pos 0)) (unsigned_tied u x ∙ apart)

moved_stands : (values : List UnknownValue) (num : ℕ → ℤ) (d : ℤ) (u : ℕ) (v : Fraction) → pos 0 <ℤ v.denominator
    → AllStand values num d → num u ≡ pos 0
    → AllStand (record { unknown = u; value = v } ∷ values) (moved num u v.denominator (v.numerator *ℤ d)) (d *ℤ v.denominator)
moved_stands values num d u v positive stand none x = by_test (u == x) refl
  where
    p : ℤ
    p = v.numerator

    q : ℤ
    q = v.denominator

    here : u ≡ x → p *ℤ (d *ℤ q) ≡ moved num u q (p *ℤ d) x *ℤ q
    here same =
        sym (mul_assoc p d q)
        ∙ sym (ap (λ z. z *ℤ q)
        (ap (moved num u q (p *ℤ d)) (sym same)
        ∙ (λ i. none i *ℤ q +ℤ only_here u i *ℤ (p *ℤ d))
        ∙ (λ i. zero-*ℤ q i +ℤ (*ℤ_comm (pos 1) (p *ℤ d) ∙ times_one (p *ℤ d)) i) ∙ +ℤ_idl (p *ℤ d)))

    there : (u == x) ≡ false → num x *ℤ q ≡ moved num u q (p *ℤ d) x
    there apart =
        sym ((λ i. num x *ℤ q +ℤ only_apart u x apart i *ℤ (p *ℤ d))
        ∙ ap (λ z. num x *ℤ q +ℤ z) (zero-*ℤ (p *ℤ d)) ∙ +ℤ_idr (num x *ℤ q))

    by_test : (b : Bool) → (u == x) ≡ b
        → Stands (value_of (record { unknown = u; value = v } ∷ values) x) (moved num u q (p *ℤ d) x) (d *ℤ q)
    by_test true is =
        subst (λ f. Stands f (moved num u q (p *ℤ d) x) (d *ℤ q)) (sym (value_here values u v x true is))
        (record { positive = positive; same = here ((Decides-eqb u x).0 is) })
    by_test false is =
        let old = stand x in
        subst (λ f. Stands f (moved num u q (p *ℤ d) x) (d *ℤ q)) (sym (value_here values u v x false is))
        (record {
          positive = old.positive;
          same = sym (mul_assoc (value_of values x).numerator d q) ∙ ap (λ z. z *ℤ q) old.same
              ∙ swap_last (num x) (value_of values x).denominator q
              ∙ ap (λ z. z *ℤ (value_of values x).denominator) (there is);
        })

moved_met : (num : ℕ → ℤ) (d : ℤ) (u : ℕ) (v : Fraction) (ds : List Derived) → Each (MetAt num d u v) ds
    → Each (Met (moved num u v.denominator (v.numerator *ℤ d)) (d *ℤ v.denominator)) ds
moved_met num d u v ds all =
    each_weaker (MetAt num d u v) (Met (moved num u v.denominator (v.numerator *ℤ d)) (d *ℤ v.denominator)) ds
    (λ r met. subst (Says r.row.kind) (sym (moved_sum num u d v.numerator v.denominator r.row)) met) all

apart_test : (u x : ℕ) → (x ≡ u → ⊥) → (u == x) ≡ false
apart_test u x apart = by_test (u == x) (Decides-eqb u x)
  where
    by_test : (b : Bool) → Decides b (u ≡ x) → b ≡ false
    by_test true decides = absurd (apart (sym (decides.0 refl)))
    by_test false decides = refl

pub open_met : (us : List ℕ) (rows : List Derived) (count : ℕ) (steps : List Step) (values : List UnknownValue)
    → AreApart us → Each (HasSome us) rows → elimination us (kept rows count) ≡ Ok (outcomes.Steps steps)
    → values_of steps ≡ Ok values → IsMet values us rows
open_met [] rows count steps values apart some is is_values =
    let no_steps : steps ≡ [] = cc in
    let no_values : values ≡ [] = ok_values (sym is_values ∙ ap values_of no_steps) in
    record {
      num = λ _. pos 0;
      d = pos 1;
      positive = omega (arith, ints);
      stand = λ x. subst (λ vs. Stands (value_of vs x) (pos 0) (pos 1)) (sym no_values) zero_stands;
      outside = λ x _. ap (λ vs. value_of vs x) no_values;
      met = each_none (HasSome []) (Met (λ _. pos 0) (pos 1)) rows no_unknowns some;
    }
  where
    ok_values : {a b : List UnknownValue} → ◌≡◌ {A = Result (List UnknownValue) Limit} (Ok a) (Ok b) → a ≡ b
    ok_values e = cc
open_met (u ∷ us) rows count steps values apart some is is_values =
    let step : Step = record { unknown = u; rows = rows_with u rows } in
    let split = after_inverted step (elimination us (next_level u rows count)) steps is in
    let level = goes_on us (next_level u rows count) split.0 split.1 in
    let found = then_inverted (values_of split.0)
    (λ later. and_then (step_value later step) (λ value. Ok (record { unknown = u; value = value } ∷ later)))
    values (ap values_of (sym split.2) ∙ is_values) in
    let chosen_value = then_inverted (step_value found.0 step)
    (λ value. Ok (record { unknown = u; value = value } ∷ found.0)) values found.2 in
    let later = open_met us level.0 level.1 split.0 found.0 apart.1
    (next_some u us rows count level.0 level.1 level.2 some)
    (ap (elimination us) (sym level.2) ∙ split.1) found.1 in
    let none = no_value found.0 later.num later.d u later.stand (later.outside u apart.0) in
    let v = chosen_value.0 in
    let met = level_met found.0 later.num later.d u rows count level.0 level.1 v later.positive later.stand level.2 later.met
    chosen_value.1 in
    let whole_list : record { unknown = u; value = v } ∷ found.0 ≡ values = ok_values chosen_value.2 in
    record {
      num = moved later.num u v.denominator (v.numerator *ℤ later.d);
      d = later.d *ℤ v.denominator;
      positive = pos_product later.d v.denominator later.positive met.0;
      stand = subst (λ vs. AllStand vs (moved later.num u v.denominator (v.numerator *ℤ later.d)) (later.d *ℤ v.denominator))
          whole_list (moved_stands found.0 later.num later.d u v met.0 later.stand none);
      outside = λ x out. ap (λ vs. value_of vs x) (sym whole_list)
          ∙ value_here found.0 u v x false (apart_test u x out.0) ∙ later.outside x out.1;
      met = moved_met later.num later.d u v rows met.1;
    }
  where
    ok_values : {a b : List UnknownValue} → ◌≡◌ {A = Result (List UnknownValue) Limit} (Ok a) (Ok b) → a ≡ b
    ok_values e = cc
