-- The index of a level's rows: two rows have one key exactly where they are one.
use Rattle.std.proofs.Common.{◌≡◌, ℕ, ◌+◌, ◌<◌, ◌==◌, Bool, true, false, ◌&&◌, ◌||◌, List, [], ◌∷◌, ◌++◌, map, length, get_or, take, append_assoc}
use Rattle.std.proofs.Common.{ℤ, pos, refl, sym, ap, ◌∙◌, subst}
use Rattle.std.specs.List.{list_any}
use Rattle.std.specs.declared.cmp.Ordering.{Ordering}
use Rattle.std.specs.declared.cmp.Ordering.TheVariants.{Less, Equal, Greater}
use Rattle.std.specs.Ordering.{int_cmp, int_eq, is_eq, match_ordering, ordering_reverse}
use Rattle.std.specs.Cmp.{int_cmp_total, both_ways, Equal-is, signed_Decides}
use Rattle.std.specs.Cmp.Lexicographic.{slice_cmp, lists_total}
use Rattle.std.specs.BTreeSet.{insert_key}
use Rattle.std.specs.FinMap.{entries, int_cmp-IsAntisymmetric, slice_cmp-IsAntisymmetric}
use Rattle.std.proofs.lemmas.Bool.Decides.{Decides-eqb}
use Rattle.std.proofs.lemmas.List.{take_more}
use Rattle.std.proofs.lemmas.List.Folds.{list_any-append}
use Rattle.linear_certs.specs.declared.row.Row.{Row}
use Rattle.linear_certs.specs.declared.row.RowKind.{RowKind}
use Rattle.linear_certs.specs.declared.row.RowKind.TheVariants.{Inequality, Equation}
use Rattle.linear_solve.specs.declared.derived.Derived.{Derived}
use Rattle.linear_solve.specs.Levels.{same_kind, same_factors, same_row}
use Rattle.linear_solve.specs.Keys.{kind_number, factor_numbers, key_of, AreKeysOf}
use Rattle.linear_solve.proofs.Completeness.{and_both, kinds_same, factors_same}
use Rattle.linear_solve.proofs.CertificateLemmas.{any-map}

tied_same : (xs ys : List ℤ) → is_eq (slice_cmp int_cmp xs ys) ≡ true → xs ≡ ys
tied_same xs ys tied =
    slice_cmp-IsAntisymmetric int_cmp-IsAntisymmetric xs ys ((Equal-is (slice_cmp int_cmp xs ys)).0 tied)

itself : (r : Ordering) → r ≡ ordering_reverse r → is_eq r ≡ true
itself Less is = absurd (cc)
itself Equal is = refl
itself Greater is = absurd (cc)

same_tied : (xs ys : List ℤ) → xs ≡ ys → is_eq (slice_cmp int_cmp xs ys) ≡ true
same_tied xs ys same =
    subst (λ zs. is_eq (slice_cmp int_cmp xs zs) ≡ true) same
    (itself (slice_cmp int_cmp xs xs) ((lists_total int_cmp_total).antisymm xs xs))

kind_same : (k l : RowKind) → kind_number k ≡ kind_number l → same_kind k l ≡ true
kind_same Inequality Inequality e = refl
kind_same Inequality Equation e = absurd (cc)
kind_same Equation Inequality e = absurd (cc)
kind_same Equation Equation e = refl

and_true : (a b : Bool) → a ≡ true → b ≡ true → a && b ≡ true
and_true true b e f = f
and_true false b e f = absurd (cc)

numbers_same : (xs ys : List (ℕ × ℤ)) → factor_numbers xs ≡ factor_numbers ys → same_factors xs ys ≡ true
numbers_same [] [] e = refl
numbers_same [] (y ∷ ys) e = absurd (cc)
numbers_same (x ∷ xs) [] e = absurd (cc)
numbers_same (x ∷ xs) (y ∷ ys) e =
    let index : x.0 ≡ y.0 = cc in
    let number : x.1 ≡ y.1 = cc in
    let rest : factor_numbers xs ≡ factor_numbers ys = cc in
    and_true ((x.0 == y.0) && int_eq x.1 y.1) (same_factors xs ys)
    (and_true (x.0 == y.0) (int_eq x.1 y.1) ((Decides-eqb x.0 y.0).1 index) ((signed_Decides x.1 y.1).1 number))
    (numbers_same xs ys rest)

keys_same : (x y : Row) → key_of x ≡ key_of y → same_row x y ≡ true
keys_same x y e =
    let kind : kind_number x.kind ≡ kind_number y.kind = cc in
    let constant : x.constant ≡ y.constant = cc in
    let numbers : factor_numbers (entries x.factors) ≡ factor_numbers (entries y.factors) = cc in
    and_true (same_kind x.kind y.kind && int_eq x.constant y.constant)
    (same_factors (entries x.factors) (entries y.factors))
    (and_true (same_kind x.kind y.kind) (int_eq x.constant y.constant) (kind_same x.kind y.kind kind)
    ((signed_Decides x.constant y.constant).1 constant))
    (numbers_same (entries x.factors) (entries y.factors) numbers)

rows_key : (x y : Row) → same_row x y ≡ true → key_of x ≡ key_of y
rows_key x y e =
    let parts = and_both (same_kind x.kind y.kind && int_eq x.constant y.constant)
    (same_factors (entries x.factors) (entries y.factors)) e in
    let more = and_both (same_kind x.kind y.kind) (int_eq x.constant y.constant) parts.0 in
    let kind = kinds_same x.kind y.kind more.0 in
    let constant = (signed_Decides x.constant y.constant).0 more.1 in
    let same = factors_same (entries x.factors) (entries y.factors) parts.1 in
    λ i. kind_number (kind i) ∷ constant i ∷ factor_numbers (same i)

row_tied : (x y : Row) → is_eq (slice_cmp int_cmp (key_of y) (key_of x)) ≡ same_row x y
row_tied x y =
    both_ways (is_eq (slice_cmp int_cmp (key_of y) (key_of x))) (same_row x y)
    (λ tied. keys_same x y (sym (tied_same (key_of y) (key_of x) tied)))
    (λ same. same_tied (key_of y) (key_of x) (sym (rows_key x y same)))

rows_tied : (row : Row) (ds : List Derived)
    → list_any (λ d. is_eq (slice_cmp int_cmp (key_of row) (key_of d.row))) ds ≡ list_any (λ other. same_row other.row row) ds
rows_tied row [] = refl
rows_tied row (d ∷ ds) = λ i. row_tied d.row row i || rows_tied row ds i

-- a key that is looked up is that of one of the rows
pub key_found : (row : Row) (key : List ℤ) (keys : List (List ℤ)) (ds : List Derived) → key ≡ key_of row → AreKeysOf keys ds
    → list_any (λ other. is_eq (slice_cmp int_cmp key other)) keys ≡ list_any (λ other. same_row other.row row) ds
key_found row key keys ds is indexed =
    ap (λ k. list_any (λ other. is_eq (slice_cmp int_cmp k other)) keys) is ∙ indexed (key_of row) ∙ rows_tied row ds

or_twice : (b r : Bool) → b || r ≡ b || (b || r)
or_twice true r = refl
or_twice false r = refl

or_swap : (a b r : Bool) → a || (b || r) ≡ b || (a || r)
or_swap true true r = refl
or_swap true false r = refl
or_swap false true r = refl
or_swap false false r = refl

or_last : (a b : Bool) → a || b ≡ b || (a || false)
or_last true true = refl
or_last true false = refl
or_last false true = refl
or_last false false = refl

-- a key more
any_inserted : {X : Type 0} (items : X → List ℤ) (q : List ℤ) (keys : List X) (k : X)
    → list_any (λ x. is_eq (slice_cmp int_cmp q (items x)))
    (insert_key (λ a b. slice_cmp int_cmp (items a) (items b)) keys k)
    ≡ is_eq (slice_cmp int_cmp q (items k)) || list_any (λ x. is_eq (slice_cmp int_cmp q (items x))) keys
any_inserted items q [] k = refl
any_inserted {X} items q (x ∷ xs) k =
    by_rank (slice_cmp int_cmp (items k) (items x)) refl (any_inserted items q xs k)
  where
    by_rank : (r : Ordering) → slice_cmp int_cmp (items k) (items x) ≡ r
        → list_any (λ x. is_eq (slice_cmp int_cmp q (items x)))
        (insert_key (λ a b. slice_cmp int_cmp (items a) (items b)) xs k)
        ≡ is_eq (slice_cmp int_cmp q (items k)) || list_any (λ x. is_eq (slice_cmp int_cmp q (items x))) xs
        → list_any (λ x. is_eq (slice_cmp int_cmp q (items x)))
        (match_ordering r (k ∷ x ∷ xs) (x ∷ xs) (x ∷ insert_key (λ a b. slice_cmp int_cmp (items a) (items b)) xs k))
        ≡ is_eq (slice_cmp int_cmp q (items k))
        || (is_eq (slice_cmp int_cmp q (items x)) || list_any (λ x. is_eq (slice_cmp int_cmp q (items x))) xs)
    by_rank Less is rest = refl
    by_rank Equal is rest =
        let same = tied_same (items k) (items x) (ap is_eq is) in
        ap (λ l. is_eq (slice_cmp int_cmp q l) || list_any (λ x. is_eq (slice_cmp int_cmp q (items x))) xs) (sym same)
        ∙ or_twice (is_eq (slice_cmp int_cmp q (items k))) (list_any (λ x. is_eq (slice_cmp int_cmp q (items x))) xs)
        ∙ ap (λ l. is_eq (slice_cmp int_cmp q (items k)) || (is_eq (slice_cmp int_cmp q l)
        || list_any (λ x. is_eq (slice_cmp int_cmp q (items x))) xs)) same
    by_rank Greater is rest =
        ap (λ b. is_eq (slice_cmp int_cmp q (items x)) || b) rest
        ∙ or_swap (is_eq (slice_cmp int_cmp q (items x))) (is_eq (slice_cmp int_cmp q (items k)))
        (list_any (λ x. is_eq (slice_cmp int_cmp q (items x))) xs)

pub keys_more : {X : Type 0} (items : X → List ℤ) (keys new : List X) (k : X) (ds : List Derived) (d : Derived)
    → AreKeysOf (map items keys) ds → new ≡ insert_key (λ a b. slice_cmp int_cmp (items a) (items b)) keys k
    → items k ≡ key_of d.row → AreKeysOf (map items new) (ds ++ d ∷ [])
keys_more items keys new k ds d indexed is_new is_key q =
    any-map (λ other. is_eq (slice_cmp int_cmp q other)) items new
    ∙ ap (list_any (λ x. is_eq (slice_cmp int_cmp q (items x)))) is_new
    ∙ any_inserted items q keys k
    ∙ (λ i. is_eq (slice_cmp int_cmp q (is_key i))
    || (sym (any-map (λ other. is_eq (slice_cmp int_cmp q other)) items keys) ∙ indexed q) i)
    ∙ or_last (is_eq (slice_cmp int_cmp q (key_of d.row)))
    (list_any (λ e. is_eq (slice_cmp int_cmp q (key_of e.row))) ds)
    ∙ sym (list_any-append (λ e. is_eq (slice_cmp int_cmp q (key_of e.row))) ds (d ∷ []))

pub no_keys : {X : Type 0} (items : X → List ℤ) (keys : List X) (ds : List Derived) → keys ≡ [] → ds ≡ []
    → AreKeysOf (map items keys) ds
no_keys items keys ds no_key no_row q =
    (λ i. list_any (λ other. is_eq (slice_cmp int_cmp q other)) (map items (no_key i)))
    ∙ sym (ap (list_any (λ e. is_eq (slice_cmp int_cmp q (key_of e.row)))) no_row)

-- ---- the numbers of a row, one factor more

append_numbers : (xs ys : List (ℕ × ℤ)) → factor_numbers (xs ++ ys) ≡ factor_numbers xs ++ factor_numbers ys
append_numbers [] ys = refl
append_numbers (x ∷ xs) ys = ap (λ l. pos x.0 ∷ x.1 ∷ l) (append_numbers xs ys)

pub numbers_more : (start key new : List ℤ) (fs : List (ℕ × ℤ)) (i : ℕ) (d f : ℕ × ℤ) → i < length fs
    → key ≡ start ++ factor_numbers (take i fs) → f ≡ get_or fs i d → new ≡ key ++ pos f.0 ∷ f.1 ∷ []
    → new ≡ start ++ factor_numbers (take (i + 1) fs)
numbers_more start key new fs i d f within is is_f is_new =
    is_new
    ∙ (λ j. is j ++ pos (is_f j).0 ∷ (is_f j).1 ∷ [])
    ∙ append_assoc start (factor_numbers (take i fs)) (factor_numbers (get_or fs i d ∷ []))
    ∙ ap (λ l. start ++ l) (sym (append_numbers (take i fs) (get_or fs i d ∷ [])))
    ∙ ap (λ l. start ++ factor_numbers l) (sym (take_more fs i d within))

pub has_is : {X : Type 0} (items : X → List ℤ) (keys : List X) (row : Row) (key : List ℤ) (ds view : List Derived)
    → key ≡ key_of row → AreKeysOf (map items keys) ds → ds ≡ view
    → list_any (λ k. is_eq (slice_cmp int_cmp key (items k))) keys ≡ list_any (λ other. same_row other.row row) view
has_is items keys row key ds view is indexed is_view =
    sym (any-map (λ other. is_eq (slice_cmp int_cmp key other)) items keys)
    ∙ key_found row key (map items keys) ds is indexed
    ∙ ap (list_any (λ other. same_row other.row row)) is_view
