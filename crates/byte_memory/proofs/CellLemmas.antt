-- What a write to one cell, or to one of the bytes with a place of their own, does to the bytes that all cells stand
-- for.
use Rattle.std.proofs.Common.{◌≡◌, ◌≢◌, ℕ, ◌<◌, ◌≤◌, zero, suc, List, [], ◌∷◌, ◌++◌, length, map, set, get_or}
use Rattle.std.proofs.Common.{replicate, sum_by}
use Rattle.std.proofs.Common.{refl, ap, sym, ◌∙◌, arith, length-append, length-set, Some, slice_get, ◌⊎◌, inl, inr}
use Rattle.std.proofs.lemmas.List.{map-set, length-map, get_or-map, get_or-set_same, get_or-set_other}
use Rattle.std.proofs.lemmas.List.{get_or_append_left, same_lists}
use Rattle.std.proofs.lemmas.Bool.{cases_eq}
use Rattle.std.proofs.lemmas.List.Sums.{sum_by-set, sum_by-cons}
use Rattle.std.proofs.lemmas.Option.{slice_get-get_or, slice_get_read, get_or_from_slice_get}
use Rattle.std.proofs.Math.Seq.{get_or-append_seam}
use Rattle.rc_terms.specs.declared.byte.MByte.{MByte}
use Rattle.rc_terms.specs.declared.byte.MByte.TheVariants as bytes
use Rattle.byte_memory.specs.declared.cell.Cell.{Cell}
use Rattle.byte_memory.specs.declared.cell.Cell.TheVariants.{Plain, Poison, Wide}
use Rattle.byte_memory.specs.Cells.{byte_seen, bytes_seen, places_taken, AreInPlace}

pub length-bytes_seen : (wide : List MByte) (cells : List Cell) → length (bytes_seen wide cells) ≡ length cells
unfolding bytes_seen
length-bytes_seen wide cells = length-map cells (byte_seen wide)

pub bytes_seen-poison : (wide : List MByte) (n : ℕ) → bytes_seen wide (replicate n Poison) ≡ replicate n bytes.Poison
unfolding bytes_seen
bytes_seen-poison wide zero = refl
bytes_seen-poison wide (suc n) = ap (λ bs. bytes.Poison ∷ bs) (bytes_seen-poison wide n)

-- the byte at an offset is the one that its cell stands for
pub slice_get-bytes_seen : (wide : List MByte) (cells : List Cell) (i : ℕ) → i < length cells →
    slice_get (bytes_seen wide cells) i ≡ Some (byte_seen wide (get_or cells i Poison))
unfolding bytes_seen
slice_get-bytes_seen wide cells i inside =
    let long = length-map cells (byte_seen wide) in
    slice_get-get_or (map (byte_seen wide) cells) i bytes.Poison (omega arith)
    ∙ ap (λ (b : MByte). Some b) (get_or-map (byte_seen wide) cells i Poison bytes.Poison inside)

pub bytes_seen-set : (wide : List MByte) (cells : List Cell) (i : ℕ) (c : Cell) →
    bytes_seen wide (set cells i c) ≡ set (bytes_seen wide cells) i (byte_seen wide c)
unfolding bytes_seen
bytes_seen-set wide cells i c = map-set (byte_seen wide) cells i c

-- nothing is in place at first
pub sum_by-poison : (n : ℕ) → sum_by places_taken (replicate n Poison) ≡ 0
sum_by-poison zero = refl
sum_by-poison (suc n) = omega (arith, sum_by-poison n)

get_or-replicate : (n i : ℕ) → get_or (replicate n Poison) i Poison ≡ Poison
get_or-replicate zero i = refl
get_or-replicate (suc n) zero = refl
get_or-replicate (suc n) (suc i) = get_or-replicate n i

pub in_place-poison : (n : ℕ) → AreInPlace [] (replicate n Poison)
in_place-poison n = record {
  placed = λ i place at. absurd (let e = get_or-replicate n i in cc);
  apart = λ i j place at other. absurd (let e = get_or-replicate n i in cc);
  counted = sum_by-poison n;
}

-- the cell that was read, at the default for cells
pub cell_is : (cells : List Cell) (i : ℕ) (c : Cell) → i < length cells → c ≡ get_or cells i c →
    get_or cells i Poison ≡ c
cell_is cells i c inside is = get_or_from_slice_get cells i c Poison
    (slice_get_read cells (length cells) i c refl inside is)

-- the byte that a cell that was read stands for
pub byte_is : (wide : List MByte) (cells : List Cell) (seen : List MByte) (i : ℕ) (c : Cell) (b : MByte) →
    bytes_seen wide cells ≡ seen → i < length seen → c ≡ get_or cells i c → byte_seen wide c ≡ b →
    slice_get seen i ≡ Some b
byte_is wide cells seen i c b view inside is stands =
    let long = length-bytes_seen wide cells in
    let same = ap (λ (bs : List MByte). length bs) view in
    let within : i < length cells = omega arith in
    rw (← view) (slice_get-bytes_seen wide cells i within ∙ ap (λ c. Some (byte_seen wide c))
    (cell_is cells i c within is) ∙ ap (λ (b : MByte). Some b) stands)

get_or_default : {X : Type 0} (xs : List X) (i : ℕ) (x d : X) → i < length xs → x ≡ get_or xs i x → get_or xs i d ≡ x
get_or_default xs i x d inside is = get_or_from_slice_get xs i x d (slice_get_read xs (length xs) i x refl inside is)

-- an offset of the bytes is one of the cells
pub cell_inside : (wide : List MByte) (cells : List Cell) (seen : List MByte) (i : ℕ) → bytes_seen wide cells ≡ seen →
    i < length seen → i < length cells
cell_inside wide cells seen i view inside =
    let long = length-bytes_seen wide cells in
    let same = ap (λ (bs : List MByte). length bs) view in
    omega arith

-- the place that a cell names is there
pub place_inside : (wide : List MByte) (cells : List Cell) (i : ℕ) (c : Cell) (place : ℕ) → AreInPlace wide cells →
    i < length cells → c ≡ get_or cells i c → c ≡ Wide place → place < length wide
place_inside wide cells i c place in_place inside is wide-is =
    in_place.placed i place (get_or_default cells i c Poison inside is ∙ wide-is)

-- the byte at the place that a cell names
pub wide_is : (wide : List MByte) (cells : List Cell) (seen : List MByte) (i : ℕ) (c : Cell) (place : ℕ) (b : MByte) →
    AreInPlace wide cells → bytes_seen wide cells ≡ seen → i < length seen → c ≡ get_or cells i c → c ≡ Wide place →
    b ≡ get_or wide place b → slice_get seen i ≡ Some b
wide_is wide cells seen i c place b in_place view inside is wide-is b-is =
    let within = cell_inside wide cells seen i view inside in
    let there = place_inside wide cells i c place in_place within is wide-is in
    byte_is wide cells seen i c b view inside is
    (ap (λ (c : Cell). byte_seen wide c) wide-is ∙ get_or_default wide place b bytes.Poison there b-is)

-- a cell that names no place takes none
pub narrow_is : (c : Cell) → ((place : ℕ) → c ≡ Wide place → ⊥) → places_taken c ≡ 0
narrow_is (Plain b) narrow = refl
narrow_is Poison narrow = refl
narrow_is (Wide place) narrow = absurd (narrow place refl)

narrow_names : (c : Cell) (place : ℕ) → places_taken c ≡ 0 → c ≡ Wide place → ⊥
narrow_names c place narrow is = let e = ap places_taken is in omega arith

-- which cell stands at a place after a write
after_set : (cells : List Cell) (i j : ℕ) (c x : Cell) → i < length cells → get_or (set cells i c) j Poison ≡ x →
    ((j ≡ i) × (c ≡ x)) ⊎ ((j ≢ i) × (get_or cells j Poison ≡ x))
after_set cells i j c x inside is =
    elim (cases_eq j i) [
      | inl same ↦ inl (
        same,
        sym (get_or-set_same cells i c Poison inside) ∙ ap (λ k. get_or (set cells i c) k Poison)
            (sym same) ∙ is,
      )
      | inr other ↦ inr (other, sym (get_or-set_other cells i j c Poison other) ∙ is)
    ]

-- a cell that names no place in the place of another such one
pub in_place-narrow : (wide : List MByte) (cells : List Cell) (i : ℕ) (c : Cell) → AreInPlace wide cells →
    i < length cells → places_taken (get_or cells i Poison) ≡ 0 → places_taken c ≡ 0 → AreInPlace wide (set cells i c)
in_place-narrow wide cells i c in_place inside was now = record {
  placed = λ j place at. elim (after_set cells i j c (Wide place) inside at) [
    | inl h ↦ absurd (narrow_names c place now h.1)
    | inr h ↦ in_place.placed j place h.1
  ];
  apart = λ j k place at other. elim (after_set cells i j c (Wide place) inside at) [
    | inl h ↦ absurd (narrow_names c place now h.1)
    | inr h ↦ elim (after_set cells i k c (Wide place) inside other) [
      | inl g ↦ absurd (narrow_names c place now g.1)
      | inr g ↦ in_place.apart j k place h.1 g.1
    ]
  ];
  counted = omega (arith, sum_by-set places_taken cells i c Poison inside, in_place.counted);
}

-- a new place for a cell that had none
pub in_place-fresh : (wide : List MByte) (cells : List Cell) (i : ℕ) (b : MByte) → AreInPlace wide cells →
    i < length cells → places_taken (get_or cells i Poison) ≡ 0 → AreInPlace (wide ++ b ∷ [])
    (set cells i (Wide (length wide)))
in_place-fresh wide cells i b in_place inside was =
    let long = length-append wide (b ∷ []) in
    record {
      placed = λ j place at. elim (after_set cells i j (Wide (length wide)) (Wide place) inside at) [
        | inl h ↦ (let e : length wide ≡ place = wide_place _ _ h.1 in omega arith)
        | inr h ↦ (let e = in_place.placed j place h.1 in omega arith)
      ];
      apart = λ j k place at other. elim (after_set cells i j (Wide (length wide)) (Wide place) inside at) [
        | inl h ↦ elim (after_set cells i k (Wide (length wide)) (Wide place) inside other) [
          | inl g ↦ h.0 ∙ sym g.0
          | inr g ↦ absurd (let e = wide_place _ _ h.1 in let f = in_place.placed k place g.1 in omega arith)
        ]
        | inr h ↦ elim (after_set cells i k (Wide (length wide)) (Wide place) inside other) [
          | inl g ↦ absurd (let e = wide_place _ _ g.1 in let f = in_place.placed j place h.1 in omega arith)
          | inr g ↦ in_place.apart j k place h.1 g.1
        ]
      ];
      counted = omega (arith, sum_by-set places_taken cells i (Wide (length wide)) Poison inside, in_place.counted);
    }
  where
    wide_place : (p q : ℕ) → Wide p ≡ Wide q → p ≡ q
    wide_place p q is = cc

one_at_most : (c : Cell) → places_taken c ≤ 1
one_at_most (Plain b) = omega arith
one_at_most Poison = omega arith
one_at_most (Wide place) = omega arith

places_at_most : (cells : List Cell) → sum_by places_taken cells ≤ length cells
places_at_most [] = omega arith
places_at_most (c ∷ cells) =
    let e = sum_by-cons places_taken c cells in
    omega (arith, places_at_most cells, one_at_most c)

-- there is room for a place as long as a cell has none
pub room_left : (cells : List Cell) (i : ℕ) → i < length cells → places_taken (get_or cells i Poison) ≡ 0 →
    sum_by places_taken cells < length cells
room_left [] i inside narrow = absurd (omega arith)
room_left (c ∷ cells) zero inside narrow =
    let e = sum_by-cons places_taken c cells in
    omega (arith, places_at_most cells)
room_left (c ∷ cells) (suc i) inside narrow =
    let e = sum_by-cons places_taken c cells in
    omega (arith, room_left cells i (omega arith) narrow, one_at_most c)

-- one more place changes no byte that is there
pub bytes_seen-fresh : (wide : List MByte) (cells : List Cell) (b : MByte) → AreInPlace wide cells →
    bytes_seen (wide ++ b ∷ []) cells ≡ bytes_seen wide cells
unfolding bytes_seen
bytes_seen-fresh wide cells b in_place =
    same_lists _ _ (length-map cells (byte_seen (wide ++ b ∷ [])) ∙ sym (length-map cells (byte_seen wide)))
    (λ k d inside.
    let within : k < length cells = let e = length-map cells (byte_seen (wide ++ b ∷ [])) in omega arith in
    get_or-map (byte_seen (wide ++ b ∷ [])) cells k Poison d within
    ∙ seen_same (get_or cells k Poison) (λ place at. in_place.placed k place at)
    ∙ sym (get_or-map (byte_seen wide) cells k Poison d within))
  where
    seen_same : (c : Cell) → ((place : ℕ) → c ≡ Wide place → place < length wide) →
        byte_seen (wide ++ b ∷ []) c ≡ byte_seen wide c
    seen_same (Plain x) placed = refl
    seen_same Poison placed = refl
    seen_same (Wide place) placed = get_or_append_left wide (b ∷ []) bytes.Poison place (placed place refl)

-- a write to the place of one cell's byte changes that byte alone
pub bytes_seen-wide : (wide : List MByte) (cells : List Cell) (i place : ℕ) (b : MByte) → AreInPlace wide cells →
    i < length cells → get_or cells i Poison ≡ Wide place → bytes_seen (set wide place b) cells ≡ set
    (bytes_seen wide cells) i b
unfolding bytes_seen
bytes_seen-wide wide cells i place b in_place inside at =
    let left = length-map cells (byte_seen (set wide place b)) in
    let right = length-map cells (byte_seen wide) in
    let kept = length-set (map (byte_seen wide) cells) i b in
    same_lists _ _ (omega arith)
    (λ k d within.
    let there : k < length cells = omega arith in
    get_or-map (byte_seen (set wide place b)) cells k Poison d there
    ∙ elim (cases_eq k i) [
      | inl same ↦ (
          ap (λ j. byte_seen (set wide place b) (get_or cells j Poison)) same
          ∙ ap (λ c. byte_seen (set wide place b) c) at
          ∙ get_or-set_same wide place b bytes.Poison (in_place.placed i place at)
          ∙ sym (get_or-set_same (map (byte_seen wide) cells) i b d (omega arith))
          ∙ ap (λ j. get_or (set (map (byte_seen wide) cells) i b) j d) (sym same))
      | inr other ↦ (
          seen_same (get_or cells k Poison)
          (λ p is same. other (in_place.apart k i place (is ∙ ap (λ q. Wide q) same) at))
          ∙ sym (get_or-map (byte_seen wide) cells k Poison d there)
          ∙ sym (get_or-set_other (map (byte_seen wide) cells) i k b d other))
    ])
  where
    seen_same : (c : Cell) → ((p : ℕ) → c ≡ Wide p → p ≡ place → ⊥) → byte_seen (set wide place b) c ≡ byte_seen wide c
    seen_same (Plain x) other = refl
    seen_same Poison other = refl
    seen_same (Wide p) other = get_or-set_other wide place p b bytes.Poison (other p refl)

-- what `set` needs of its fields, where the cell at the offset names no place
pub record IsNarrow (wide : List MByte) (cells : List Cell) (i : ℕ) : Type 0 where
  pub inside : i < length cells
  pub narrow : places_taken (get_or cells i Poison) ≡ 0

pub narrow_at : (wide : List MByte) (cells : List Cell) (seen : List MByte) (i : ℕ) (c : Cell) →
    bytes_seen wide cells ≡ seen → i < length seen → c ≡ get_or cells i c → ((place : ℕ) → c ≡ Wide place → ⊥) →
    IsNarrow wide cells i
narrow_at wide cells seen i c view inside is narrow =
    let within = cell_inside wide cells seen i view inside in
    record {
      inside = within;
      narrow = ap (λ (c : Cell). places_taken c) (get_or_default cells i c Poison within is) ∙ narrow_is c narrow;
    }

-- the bytes after a cell that names no place was written over one
pub seen-narrow : (wide : List MByte) (cells : List Cell) (seen : List MByte) (i : ℕ) (c : Cell) (b : MByte) →
    bytes_seen wide cells ≡ seen → b ≡ byte_seen wide c → bytes_seen wide (set cells i c) ≡ set seen i b
seen-narrow wide cells seen i c b view is = bytes_seen-set wide cells i c ∙ rw (view, is) refl

-- the bytes after a new place was taken
pub seen-fresh : (wide : List MByte) (cells : List Cell) (seen : List MByte) (i : ℕ) (b : MByte) →
    AreInPlace wide cells → bytes_seen wide cells ≡ seen → bytes_seen (wide ++ b ∷ [])
    (set cells i (Wide (length wide))) ≡ set seen i b
seen-fresh wide cells seen i b in_place view =
    bytes_seen-set (wide ++ b ∷ []) cells i (Wide (length wide))
    ∙ ap (λ bs. set bs i (get_or (wide ++ b ∷ []) (length wide) bytes.Poison))
    (bytes_seen-fresh wide cells b in_place ∙ view)
    ∙ ap (λ x. set seen i x) (get_or-append_seam wide b [] bytes.Poison)

-- the bytes after the place of one was written
pub seen-wide : (wide : List MByte) (cells : List Cell) (seen : List MByte) (i : ℕ) (c : Cell) (place : ℕ) (b : MByte)
    → AreInPlace wide cells → bytes_seen wide cells ≡ seen → i < length seen → c ≡ get_or cells i c → c ≡ Wide place →
    bytes_seen (set wide place b) cells ≡ set seen i b
seen-wide wide cells seen i c place b in_place view inside is wide-is =
    let within = cell_inside wide cells seen i view inside in
    bytes_seen-wide wide cells i place b in_place within (get_or_default cells i c Poison within is ∙ wide-is) ∙ ap
    (λ bs. set bs i b) view

-- the same of a list that is told by an equation
pub fresh_in_place : (wide more : List MByte) (cells : List Cell) (i place : ℕ) (b : MByte) → AreInPlace wide cells →
    IsNarrow wide cells i → more ≡ wide ++ b ∷ [] → place ≡ length wide → AreInPlace more (set cells i (Wide place))
fresh_in_place wide more cells i place b in_place at more-is place-is =
    rw (more-is, place-is) (in_place-fresh wide cells i b in_place at.inside at.narrow)

pub fresh_seen : (wide more : List MByte) (cells : List Cell) (seen : List MByte) (i place : ℕ) (b : MByte) →
    AreInPlace wide cells → bytes_seen wide cells ≡ seen → more ≡ wide ++ b ∷ [] → place ≡ length wide →
    bytes_seen more (set cells i (Wide place)) ≡ set seen i b
fresh_seen wide more cells seen i place b in_place view more-is place-is =
    rw (more-is, place-is) (seen-fresh wide cells seen i b in_place view)

-- how long the bytes are that the cells stand for
pub seen_length : (wide : List MByte) (cells : List Cell) (seen : List MByte) → bytes_seen wide cells ≡ seen →
    length seen ≡ length cells
seen_length wide cells seen view =
    let long = length-bytes_seen wide cells in
    let same = ap (λ (bs : List MByte). length bs) view in
    omega arith
