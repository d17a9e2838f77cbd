-- What a table keeps, and what one more declaration at the end does to the extents.
use Rattle.std.proofs.Common.{◌≡◌, ℕ, ◌+◌, ◌≤◌, ◌<◌, List, [], ◌∷◌, ◌++◌, map, take, length, get_or, refl, ap, sym, ◌∙◌}
use Rattle.std.proofs.Common.{arith, Some, slice_get}
use Rattle.std.proofs.Common.{◌⊎◌, inl, inr, zero, suc, slice_index_or, length-append, All, ◌^◌, option_map}
use Rattle.std.proofs.Math.Seq.{take-append_seam}
use Rattle.layouts.specs.declared.aggregate.StructLayout.{StructLayout}
use Rattle.std.proofs.lemmas.List.{length-map, map-append, get_or_append_left, take-append-le}
use Rattle.std.proofs.lemmas.Option.{slice_get_read, slice_get-map, none-some, same_Some}
use Rattle.layouts.specs.declared.layout.Layout.{Layout}
use Rattle.layouts.specs.declared.layout.Layout.TheVariants.{Int, Bool, Ptr, Struct, Union, Bytes}
use Rattle.layouts.specs.declared.table.Kind.{Kind}
use Rattle.layouts.specs.declared.table.Entry.{Entry}
use Rattle.layouts.specs.declared.table.Declaration.{Declaration}
use Rattle.layouts.specs.Layout.{Extent, scalar}
use Rattle.layouts.specs.Members.{greatest_align}
use Rattle.layouts.specs.Table.{extents_after, extents, declared_extent, extent_of, layout_of, Declares, IsKnown}
use Rattle.layouts.specs.Table.{IsTable}
use Rattle.layouts.specs.Entry.{declaration_of, kept_extent, AreLaidOut}

pub extents_after-push : (earlier : List Extent) (ds : List Declaration) (d : Declaration) →
    extents_after earlier (ds ++ d ∷ []) ≡ extents_after earlier ds ++ declared_extent (extents_after earlier ds) d ∷ []
extents_after-push earlier [] d = refl
extents_after-push earlier (x ∷ ds) d = extents_after-push (earlier ++ declared_extent earlier x ∷ []) ds d

pub greatest_align-positive : (ms : List Extent) → 0 < greatest_align ms
greatest_align-positive [] = omega arith
greatest_align-positive (m ∷ ms) = omega (arith, greatest_align-positive ms)

-- the alignment that is kept isn't 0
pub kept_positive : (entries : List Entry) (i : ℕ) (e : Entry) → AreLaidOut entries → i < length entries →
    e ≡ get_or entries i e → 0 < e.layout.align
kept_positive entries i e laid inside is =
    let at = laid.laid_out i e (slice_get_read entries (length entries) i e refl inside is) in
    omega (arith, ap (λ l. l.align) at, greatest_align-positive)

-- a number under which a table has a declaration is one of its numbers
pub declared_inside : (table : List Declaration) (i : ℕ) (kind : Kind) → Declares table i kind → i < length table
declared_inside [] i kind has = absurd (none-some kind has)
declared_inside (d ∷ ds) zero kind has = omega arith
declared_inside (d ∷ ds) (suc i) kind has = omega (arith, declared_inside ds i kind has)

pub known_inside : (entries : List Entry) (layout : Layout) (i : ℕ) → IsKnown (map declaration_of entries) layout →
    (layout ≡ Struct i) ⊎ (layout ≡ Union i) → i < length entries
known_inside entries layout i known (inl is) =
    omega (arith, length-map entries declaration_of, declared_inside (map declaration_of entries) i _ (rw is at known))
known_inside entries layout i known (inr is) =
    omega (arith, length-map entries declaration_of, declared_inside (map declaration_of entries) i _ (rw is at known))

-- an element of a list with one more at the end
pub slice_get_push : {X : Type 0} (xs : List X) (y : X) (i : ℕ) (x : X) → slice_get (xs ++ y ∷ []) i ≡ Some x →
    ((i < length xs) × (slice_get xs i ≡ Some x)) ⊎ ((i ≡ length xs) × (y ≡ x))
slice_get_push [] y zero x is = inr (refl, same_Some _ _ is)
slice_get_push [] y (suc i) x is = absurd (none-some x is)
slice_get_push (z ∷ xs) y zero x is = inl (omega arith, is)
slice_get_push (z ∷ xs) y (suc i) x is =
    elim (slice_get_push xs y i x is) [ inl h ↦ inl (omega arith, h.1) | inr h ↦ inr (omega arith, h.1) ]

pub length-extents_after : (earlier : List Extent) (ds : List Declaration) →
    length (extents_after earlier ds) ≡ length earlier + length ds
length-extents_after earlier [] = omega arith
length-extents_after earlier (d ∷ ds) =
    omega (
      arith,
      length-extents_after (earlier ++ declared_extent earlier d ∷ []) ds,
      length-append earlier
          (declared_extent earlier d ∷ []),
    )

earlier_extent : (ds : List Declaration) (d : Declaration) (i : ℕ) → i < length ds →
    slice_index_or (extents (ds ++ d ∷ [])) i (scalar 1) ≡ slice_index_or (extents ds) i (scalar 1)
earlier_extent ds d i inside =
    let l = length-extents_after [] ds in
    rw (extents_after-push [] ds d) (get_or_append_left (extents ds) _ (scalar 1) i (omega arith))

-- one more declaration changes no extent of what is known without it
pub extent_of-push : (ds : List Declaration) (d : Declaration) (layout : Layout) → IsKnown ds layout →
    extent_of (ds ++ d ∷ []) layout ≡ extent_of ds layout
extent_of-push ds d (Int t) known = refl
extent_of-push ds d Bool known = refl
extent_of-push ds d Ptr known = refl
extent_of-push ds d (Struct s) known = earlier_extent ds d s (declared_inside ds s _ known)
extent_of-push ds d (Union u) known = earlier_extent ds d u (declared_inside ds u _ known)
extent_of-push ds d (Bytes size align) known = refl

pub extents-push : (ds : List Declaration) (d : Declaration) (layouts : List Layout) → All (IsKnown ds) layouts →
    map (extent_of (ds ++ d ∷ [])) layouts ≡ map (extent_of ds) layouts
extents-push ds d [] known = refl
extents-push ds d (l ∷ ls) known =
    let first = extent_of-push ds d l (known 0 l (omega arith)) in
    let rest = extents-push ds d ls (λ k x h. known (suc k) x (omega arith)) in
    rw (first, rest) refl

-- what a front of a table declares, the table declares
declared_in_front : (ds : List Declaration) (i s : ℕ) (kind : Kind) → Declares (take i ds) s kind → Declares ds s kind
declared_in_front ds zero s kind has = absurd (none-some kind has)
declared_in_front [] (suc i) s kind has = has
declared_in_front (d ∷ ds) (suc i) zero kind has = has
declared_in_front (d ∷ ds) (suc i) (suc s) kind has = declared_in_front ds i s kind has

pub known_in_front : (ds : List Declaration) (i : ℕ) (layout : Layout) → IsKnown (take i ds) layout → IsKnown ds layout
known_in_front ds i (Int t) known = tt
known_in_front ds i Bool known = tt
known_in_front ds i Ptr known = tt
known_in_front ds i (Struct s) known = declared_in_front ds i s _ known
known_in_front ds i (Union u) known = declared_in_front ds i u _ known
known_in_front ds i (Bytes size align) known = known

pub all_known_in_front : (ds : List Declaration) (i : ℕ) (layouts : List Layout) → All (IsKnown (take i ds)) layouts →
    All (IsKnown ds) layouts
all_known_in_front ds i layouts known k x inside = known_in_front ds i (get_or layouts k x) (known k x inside)

-- one more declaration keeps each layout of members that are known without it
layout_pushed : (entries : List Entry) (e : Entry) (kind : Kind) (members : List Layout) →
    All (IsKnown (map declaration_of entries)) members → layout_of kind (map declaration_of (entries ++ e ∷ []))
    members ≡ layout_of kind (map declaration_of entries) members
layout_pushed entries e kind members known =
    let more = map-append declaration_of entries (e ∷ []) in
    let same = extents-push (map declaration_of entries) (declaration_of e) members known in
    rw (more, same) refl

-- one more declaration that names those before it keeps a table one
table_pushed : (ds : List Declaration) (d : Declaration) → IsTable ds → All (IsKnown ds) d.members →
    IsTable (ds ++ d ∷ [])
table_pushed ds d table known i x at =
    elim (slice_get_push ds d i x at) [
      | inl h ↦ (let front = take-append-le i ds (d ∷ []) (omega arith) in rw front (table i x h.1))
      | inr h ↦ (let front = take-append_seam ds (d ∷ []) in rw (h.0, front, ← h.1) known)
    ]

extents_pushed : (entries : List Entry) (e : Entry) → map kept_extent entries ≡ extents (map declaration_of entries) →
    e.layout ≡ layout_of e.kind (map declaration_of entries) e.layout.members →
    map kept_extent (entries ++ e ∷ []) ≡ extents (map declaration_of (entries ++ e ∷ []))
extents_pushed entries e kept is =
    let last : kept_extent e ≡ declared_extent (extents (map declaration_of entries)) (declaration_of e) =
    ap (λ (l : StructLayout). record { size = l.size; align = l.align }) is in
    rw (
      map-append kept_extent entries (e ∷ []),
      map-append declaration_of entries (e ∷ []),
      extents_after-push []
          (map declaration_of entries) (declaration_of e),
      kept,
    )
    (ap (λ x. extents (map declaration_of entries) ++ x ∷ []) last)

-- one more struct or union keeps a table right
pub laid_out_push : (entries : List Entry) (e : Entry) → AreLaidOut entries →
    e.layout ≡ layout_of e.kind (map declaration_of entries) e.layout.members → e.layout.size ≤ 2 ^ 31 →
    All (IsKnown (map declaration_of entries)) e.layout.members → AreLaidOut (entries ++ e ∷ [])
laid_out_push entries e laid is fits known = record {
  extents_kept = extents_pushed entries e laid.extents_kept is;
  laid_out = λ i x at. elim (slice_get_push entries e i x at) [
    | inl h ↦ (
        let declared : slice_get (map declaration_of entries) i ≡ Some (declaration_of x) =
        slice_get-map declaration_of entries i ∙ ap (option_map declaration_of) h.1 in
        let all = all_known_in_front (map declaration_of entries) i x.layout.members
        (laid.earlier i (declaration_of x) declared) in
        rw (layout_pushed entries e x.kind x.layout.members all) (laid.laid_out i x h.1))
    | inr h ↦ rw (← h.1, layout_pushed entries e e.kind e.layout.members known) is
  ];
  small = λ i x at. elim (slice_get_push entries e i x at) [ inl h ↦ laid.small i x h.1 | inr h ↦ rw (← h.1) fits ];
  earlier = rw (map-append declaration_of entries (e ∷ []))
      (table_pushed (map declaration_of entries) (declaration_of e) laid.earlier known);
}

-- the same, where what was laid out is told of a table and its members
pub laid_out_more : (entries : List Entry) (kind : Kind) (name : List ℕ) (layout : StructLayout)
    (table : List Declaration) (members : List Layout) → AreLaidOut entries → map declaration_of entries ≡ table →
    layout ≡ layout_of kind table members → layout.size ≤ 2 ^ 31 → All (IsKnown table) members →
    AreLaidOut (entries ++ record { kind = kind; name = name; layout = layout } ∷ [])
laid_out_more entries kind name layout table members laid table-is layout-is fits known =
    let members-is : layout.members ≡ members = ap (λ (l : StructLayout). l.members) layout-is in
    let own : layout ≡ layout_of kind table layout.members = layout-is ∙ ap (λ ms. layout_of kind table ms)
    (sym members-is) in
    laid_out_push entries (record { kind = kind; name = name; layout = layout }) laid (rw table-is own) fits
    (rw (table-is, members-is) known)
