-- What a look-up finds in a list of factors in ascending order of their unknowns.
use Rattle.std.proofs.Common.{◌≡◌, ◌≢◌, ℕ, ◌<◌, ◌≤◌, Bool, true, false, T, IsTrue, cond, ◌&&◌, List, [], ◌∷◌}
use Rattle.std.proofs.Common.{All, Some, None, unwrap_or}
use Rattle.std.proofs.Common.{zero, suc, length, get_or, set, take, drop, Ok, Err, ⊎_elim, ℤ, pos, ◌+ℤ◌, refl}
use Rattle.std.proofs.Common.{sym, ap, ◌∙◌, subst, arith}
use Rattle.std.specs.declared.cmp.Ordering.{Ordering}
use Rattle.std.specs.declared.cmp.Ordering.TheVariants.{Less, Equal, Greater}
use Rattle.std.specs.Ordering.{nat_cmp, is_lt, is_eq, eq_by_cmp, ordering_index, MatchOrdering}
use Rattle.std.specs.Cmp.{nat_cmp_total, unsigned_tied, ranked}
use Rattle.std.specs.List.Sorted.{IsBinarySearchResult, IsPartitionPoint}
use Rattle.std.specs.List.{insert as insert_at}
use Rattle.std.proofs.lemmas.Bool.{cases_lt}
use Rattle.std.specs.FinMap.{FinMap, find, put, is_sorted, get, entries, insert, from_sorted}
use Rattle.std.specs.FinMap.{get-entries, entries-from_sorted, entries-insert, entries_sorted, same_entries_map}
use Rattle.std.proofs.lemmas.List.Elements.{All-append, All-cons, All-drop, All-take}
use Rattle.std.proofs.lemmas.Bool.Decides.{Decides-eqb}
use lib.IntN.{+ℤ_idl, +ℤ_idr}

both : (a b : Bool) → T (a && b) → T a × T b
both true b h = (tt, h)
both false b h = absurd h

sorted_past : (r : Ordering) (a b c : Bool) → T ((is_lt r && a) && (b && c)) → (r ≡ Less) × T (a && c)
sorted_past Less true true c h = (refl, h)
sorted_past Less true false c h = absurd h
sorted_past Less false b c h = absurd h
sorted_past Equal a b c h = absurd h
sorted_past Greater a b c h = absurd h

-- the second entry can be left out, and is above the first
without_second : (e next : ℕ × ℤ) (es : List (ℕ × ℤ)) → T (is_sorted nat_cmp (e ∷ next ∷ es))
    → (nat_cmp e.0 next.0 ≡ Less) × T (is_sorted nat_cmp (e ∷ es))
without_second e next es sorted = sorted_past (nat_cmp e.0 next.0) _ _ _ sorted

-- the first unknown of a list is not found in the rest
pub find_first : (e : ℕ × ℤ) (es : List (ℕ × ℤ)) → T (is_sorted nat_cmp (e ∷ es)) → find nat_cmp e.0 es ≡ None
find_first e [] sorted = refl
find_first e (next ∷ es) sorted =
    let past = without_second e next es sorted in
    ap (λ r. cond (is_eq r) (Some next.1) (find nat_cmp e.0 es)) past.0 ∙ find_first e es past.1

-- the factor that a look-up finds, 0 where it finds none
abbrev pub factor_in : ℕ → List (ℕ × ℤ) → ℤ
factor_in unknown es = unwrap_or (find nat_cmp unknown es) (pos 0)

-- the factor that one entry gives an unknown
abbrev pub alone : ℕ × ℤ → ℕ → ℤ
alone e unknown = cond (eq_by_cmp nat_cmp unknown e.0) e.1 (pos 0)

pub tied_same : (x y : ℕ) → eq_by_cmp nat_cmp x y ≡ true → x ≡ y
tied_same x y e = (Decides-eqb x y).0 (sym (unsigned_tied x y) ∙ e)

pub same_tied : (x : ℕ) → eq_by_cmp nat_cmp x x ≡ true
same_tied x = unsigned_tied x x ∙ (Decides-eqb x x).1 refl

pub factor_in-cons : (e : ℕ × ℤ) (es : List (ℕ × ℤ)) → T (is_sorted nat_cmp (e ∷ es)) → (unknown : ℕ)
    → factor_in unknown (e ∷ es) ≡ alone e unknown +ℤ factor_in unknown es
factor_in-cons e es sorted unknown =
    elim (eq_by_cmp nat_cmp unknown e.0) as (λ b. eq_by_cmp nat_cmp unknown e.0 ≡ b
    → unwrap_or (cond b (Some e.1) (find nat_cmp unknown es)) (pos 0) ≡ cond b e.1
    (pos 0) +ℤ factor_in unknown es) [
      | true ↦ λ tied. sym
          (ap (λ f. e.1 +ℤ f) (ap (λ u. factor_in u es) (tied_same unknown e.0 tied)
          ∙ ap (λ o. unwrap_or o (pos 0)) (find_first e es sorted)) ∙ +ℤ_idr e.1)
      | false ↦ λ apart. sym (+ℤ_idl (factor_in unknown es))
    ] refl

pub sorted_tail : (e : ℕ × ℤ) (es : List (ℕ × ℤ)) → T (is_sorted nat_cmp (e ∷ es)) → T (is_sorted nat_cmp es)
sorted_tail e es sorted = (both _ _ sorted).1

pub alone_here : (e : ℕ × ℤ) → alone e e.0 ≡ e.1
alone_here e = ap (λ b. cond b e.1 (pos 0)) (same_tied e.0)

pub alone_apart : (e : ℕ × ℤ) (unknown : ℕ) → unknown ≢ e.0 → alone e unknown ≡ pos 0
alone_apart e unknown apart =
    elim (eq_by_cmp nat_cmp unknown e.0) as (λ b. eq_by_cmp nat_cmp unknown e.0 ≡ b → cond b e.1 (pos 0) ≡ pos 0) [
      | true ↦ λ tied. absurd (apart (tied_same unknown e.0 tied))
      | false ↦ λ _. refl
    ] refl

-- it is below the others
pub first_below : (e : ℕ × ℤ) (es : List (ℕ × ℤ)) → T (is_sorted nat_cmp (e ∷ es)) → (i : ℕ) (d : ℕ × ℤ)
    → i < length es → e.0 < (get_or es i d).0
first_below e [] sorted i d within = absurd (omega arith)
first_below e (next ∷ es) sorted zero d within =
    let past = without_second e next es sorted in ranked e.0 next.0 Less (sym past.0)
first_below e (next ∷ es) sorted (suc i) d within =
    let past = without_second e next es sorted in first_below e es past.1 i d (omega arith)

-- the unknowns rise
pub ascending : (es : List (ℕ × ℤ)) → T (is_sorted nat_cmp es) → (i j : ℕ) (d : ℕ × ℤ) → i ≤ j → j < length es
    → (get_or es i d).0 ≤ (get_or es j d).0
ascending [] sorted i j d order within = absurd (omega arith)
ascending (e ∷ es) sorted zero zero d order within = omega arith
ascending (e ∷ es) sorted zero (suc j) d order within =
    let below = first_below e es sorted j d (omega arith) in omega arith
ascending (e ∷ es) sorted (suc i) zero d order within = absurd (omega arith)
ascending (e ∷ es) sorted (suc i) (suc j) d order within =
    ascending es (sorted_tail e es sorted) i j d (omega arith) (omega arith)

-- the entry at a place is found
pub find_at : (es : List (ℕ × ℤ)) → T (is_sorted nat_cmp es) → (i : ℕ) (d : ℕ × ℤ) → i < length es
    → find nat_cmp (get_or es i d).0 es ≡ Some (get_or es i d).1
find_at [] sorted i d within = absurd (omega arith)
find_at (e ∷ es) sorted zero d within =
    ap (λ b. cond b (Some e.1) (find nat_cmp e.0 es)) (same_tied e.0)
find_at (e ∷ es) sorted (suc i) d within =
    let below = first_below e es sorted i d (omega arith) in
    let k = (get_or es i d).0 in
    elim (eq_by_cmp nat_cmp k e.0) as (λ b. eq_by_cmp nat_cmp k e.0 ≡ b
    → cond b (Some e.1) (find nat_cmp k es) ≡ Some (get_or es i d).1) [
      | true ↦ λ tied. let same = tied_same k e.0 tied in absurd (omega arith)
      | false ↦ λ _. find_at es (sorted_tail e es sorted) i d (omega arith)
    ] refl

-- an unknown that no entry has is not found
pub find_absent : (unknown : ℕ) (es : List (ℕ × ℤ))
    → ((i : ℕ) (d : ℕ × ℤ) → i < length es → (get_or es i d).0 ≢ unknown) → find nat_cmp unknown es ≡ None
find_absent unknown [] absent = refl
find_absent unknown (e ∷ es) absent =
    elim (eq_by_cmp nat_cmp unknown e.0) as (λ b. eq_by_cmp nat_cmp unknown e.0 ≡ b
    → cond b (Some e.1) (find nat_cmp unknown es) ≡ None) [
      | true ↦ λ tied. absurd (absent 0 e (omega arith) (sym (tied_same unknown e.0 tied)))
      | false ↦ λ _. find_absent unknown es (λ i d within. absent (suc i) d (omega arith))
    ] refl

index_rises : (x y at : ℕ) (r s : Ordering) → MatchOrdering r (x < at) (x ≡ at) (at < x)
    → MatchOrdering s (y < at) (y ≡ at) (at < y) → x ≤ y → ordering_index r ≤ ordering_index s
index_rises x y at Less Less p q order = omega arith
index_rises x y at Less Equal p q order = omega arith
index_rises x y at Less Greater p q order = omega arith
index_rises x y at Equal Less p q order = absurd (omega arith)
index_rises x y at Equal Equal p q order = omega arith
index_rises x y at Equal Greater p q order = omega arith
index_rises x y at Greater Less p q order = absurd (omega arith)
index_rises x y at Greater Equal p q order = absurd (omega arith)
index_rises x y at Greater Greater p q order = omega arith

-- what a binary search for an unknown says
found_here : (es : List (ℕ × ℤ)) (unknown at : ℕ) (d : ℕ × ℤ)
    → IsBinarySearchResult (λ e. nat_cmp e.0 unknown) es (Ok at) → (get_or es at d).0 ≡ unknown
found_here es unknown at d result = ranked (get_or es at d).0 unknown Equal (sym (result d))

gap_parts : (es : List (ℕ × ℤ)) (unknown gap : ℕ) → T (is_sorted nat_cmp es)
    → IsBinarySearchResult (λ e. nat_cmp e.0 unknown) es (Err gap)
    → IsPartitionPoint (λ e. nat_cmp e.0 unknown ≡ Less) (λ e. nat_cmp e.0 unknown ≡ Greater) es gap
gap_parts es unknown gap sorted result =
    result (λ i j d order within. index_rises _ _ unknown _ _
    (ranked (get_or es i d).0 unknown _ refl) (ranked (get_or es j d).0 unknown _ refl)
    (ascending es sorted i j d order within))

pub found_by_search : (es : List (ℕ × ℤ)) (unknown at : ℕ) (d : ℕ × ℤ) → T (is_sorted nat_cmp es) → at < length es
    → IsBinarySearchResult (λ e. nat_cmp e.0 unknown) es (Ok at) → find nat_cmp unknown es ≡ Some (get_or es at d).1
found_by_search es unknown at d sorted within result =
    ap (λ u. find nat_cmp u es) (sym (found_here es unknown at d result)) ∙ find_at es sorted at d within

pub absent_by_search : (es : List (ℕ × ℤ)) (unknown gap : ℕ) → T (is_sorted nat_cmp es)
    → IsBinarySearchResult (λ e. nat_cmp e.0 unknown) es (Err gap) → find nat_cmp unknown es ≡ None
absent_by_search es unknown gap sorted result =
    let parts = gap_parts es unknown gap sorted result in
    find_absent unknown es (λ i d within same. ⊎_elim
    (λ (below : i < gap).
    let order = ranked (get_or es i d).0 unknown Less (sym (parts.0 i d (omega arith) below)) in omega arith)
    (λ (past : gap ≤ i).
    let order = ranked (get_or es i d).0 unknown Greater (sym (parts.1 i d past within)) in omega arith)
    (cases_lt i gap))

-- the entries behind the map that a list is seen as
pub entries_of_view : (es : List (ℕ × ℤ)) (m : FinMap nat_cmp ℤ) → IsTrue (is_sorted nat_cmp es) → from_sorted es ≡ m
    → entries m ≡ es
entries_of_view es m sorted is = ap entries (sym is) ∙ entries-from_sorted nat_cmp es (subst T (sym sorted) tt)

-- what the map has at an unknown
pub get_of_view : (es : List (ℕ × ℤ)) (m : FinMap nat_cmp ℤ) (unknown : ℕ) → IsTrue (is_sorted nat_cmp es)
    → from_sorted es ≡ m → get m unknown ≡ find nat_cmp unknown es
get_of_view es m unknown sorted is = get-entries m unknown ∙ ap (find nat_cmp unknown) (entries_of_view es m sorted is)

greater : (x y : ℕ) (r : Ordering) → r ≡ nat_cmp x y → y < x → r ≡ Greater
greater x y Less is above = let p = ranked x y Less is in absurd (omega arith)
greater x y Equal is above = let p = ranked x y Equal is in absurd (omega arith)
greater x y Greater is above = refl

less : (x y : ℕ) (r : Ordering) → r ≡ nat_cmp x y → x < y → r ≡ Less
less x y Less is below = refl
less x y Equal is below = let p = ranked x y Equal is in absurd (omega arith)
less x y Greater is below = let p = ranked x y Greater is in absurd (omega arith)

equal : (x y : ℕ) (r : Ordering) → r ≡ nat_cmp x y → x ≡ y → r ≡ Equal
equal x y Less is same = let p = ranked x y Less is in absurd (omega arith)
equal x y Equal is same = refl
equal x y Greater is same = let p = ranked x y Greater is in absurd (omega arith)

-- an unknown that stands there gets its factor in place
put_found : (es : List (ℕ × ℤ)) → T (is_sorted nat_cmp es) → (k at : ℕ) (v : ℤ) (d : ℕ × ℤ) → at < length es
    → (get_or es at d).0 ≡ k → put nat_cmp k v es ≡ set es at (k, v)
put_found [] sorted k at v d within here = absurd (omega arith)
put_found (e ∷ es) sorted k zero v d within here =
    let order = equal k e.0 _ refl (sym here) in
    rw order (ap (λ u. (u, v) ∷ es) here)
put_found (e ∷ es) sorted k (suc at) v d within here =
    let below = first_below e es sorted at d (omega arith) in
    let order = greater k e.0 _ refl (omega arith) in
    rw order (ap (λ l. e ∷ l) (put_found es (sorted_tail e es sorted) k at v d (omega arith) here))

-- another goes where those before are below it and those after above
put_gap : (es : List (ℕ × ℤ)) (k gap : ℕ) (v : ℤ) → gap ≤ length es
    → ((i : ℕ) (d : ℕ × ℤ) → i < gap → (get_or es i d).0 < k)
    → ((i : ℕ) (d : ℕ × ℤ) → gap ≤ i → i < length es → k < (get_or es i d).0)
    → put nat_cmp k v es ≡ insert_at es gap (k, v)
put_gap [] k zero v within below above = refl
put_gap [] k (suc gap) v within below above = absurd (omega arith)
put_gap (e ∷ es) k zero v within below above =
    let order = less k e.0 _ refl (above 0 e (omega arith) (omega arith)) in
    rw order refl
put_gap (e ∷ es) k (suc gap) v within below above =
    let order = greater k e.0 _ refl (below 0 e (omega arith)) in
    rw order (ap (λ l. e ∷ l) (put_gap es k gap v (omega arith)
    (λ i d before. below (suc i) d (omega arith))
    (λ i d past inside. above (suc i) d (omega arith) (omega arith))))

from_T : (b : Bool) → T b → b ≡ true
from_T true h = refl
from_T false h = absurd h

-- a map whose entries were edited as `put` does
pub entries_put : (es edited : List (ℕ × ℤ)) (m : FinMap nat_cmp ℤ) (k : ℕ) (v : ℤ) → IsTrue (is_sorted nat_cmp es)
    → from_sorted es ≡ m → put nat_cmp k v es ≡ edited → entries (insert m k v) ≡ edited
entries_put es edited m k v sorted is edit =
    entries-insert nat_cmp_total m k v ∙ ap (put nat_cmp k v) (entries_of_view es m sorted is) ∙ edit

pub sorted_put : (es edited : List (ℕ × ℤ)) (m : FinMap nat_cmp ℤ) (k : ℕ) (v : ℤ) → IsTrue (is_sorted nat_cmp es)
    → from_sorted es ≡ m → put nat_cmp k v es ≡ edited → IsTrue (is_sorted nat_cmp edited)
sorted_put es edited m k v sorted is edit =
    from_T _ (subst (λ l. T (is_sorted nat_cmp l)) (entries_put es edited m k v sorted is edit)
    (entries_sorted (insert m k v)))

pub view_put : (es edited : List (ℕ × ℤ)) (m : FinMap nat_cmp ℤ) (k : ℕ) (v : ℤ) → IsTrue (is_sorted nat_cmp es)
    → from_sorted es ≡ m → put nat_cmp k v es ≡ edited → from_sorted edited ≡ insert m k v
view_put es edited m k v sorted is edit =
    let rises = sorted_put es edited m k v sorted is edit in
    same_entries_map _ _ (entries_of_view edited _ rises refl ∙ sym (entries_put es edited m k v sorted is edit))

-- where a binary search found the unknown, and where it found its gap
pub put_by_search : (es : List (ℕ × ℤ)) (k at : ℕ) (v : ℤ) → T (is_sorted nat_cmp es) → at < length es
    → IsBinarySearchResult (λ e. nat_cmp e.0 k) es (Ok at) → put nat_cmp k v es ≡ set es at (k, v)
put_by_search es k at v sorted within result =
    put_found es sorted k at v (0, pos 0) within (found_here es k at (0, pos 0) result)

pub put_in_gap : (es : List (ℕ × ℤ)) (k gap : ℕ) (v : ℤ) → T (is_sorted nat_cmp es) → gap ≤ length es
    → IsBinarySearchResult (λ e. nat_cmp e.0 k) es (Err gap) → put nat_cmp k v es ≡ insert_at es gap (k, v)
put_in_gap es k gap v sorted within result =
    let parts = gap_parts es k gap sorted result in
    put_gap es k gap v within
    (λ i d before. ranked (get_or es i d).0 k Less (sym (parts.0 i d (omega arith) before)))
    (λ i d past inside. ranked (get_or es i d).0 k Greater (sym (parts.1 i d past inside)))

pub All-insert_at : (P : ℕ × ℤ → Type 0) (es : List (ℕ × ℤ)) (at : ℕ) (e : ℕ × ℤ) → P e → All P es
    → All P (insert_at es at e)
All-insert_at P es at e here all =
    All-append P (take at es) (e ∷ drop at es) (All-take P at es all)
    (All-cons P e (drop at es) here (All-drop P at es all))
