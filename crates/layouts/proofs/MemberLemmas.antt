-- What one more member at the end does to the offsets, the end and the greatest alignment and size.
use Rattle.std.proofs.Common.{◌≡◌, ℕ, ◌+◌, ◌≤◌, ◌<◌, max, List, [], ◌∷◌, ◌++◌, map, take, drop, length, get_or}
use Rattle.std.proofs.Common.{replicate, refl, ap, arith}
use Rattle.std.proofs.lemmas.List.{map_more, map-append, take-append-drop, take_all}
use Rattle.std.specs.Int.{next_multiple_of}
use Rattle.layouts.specs.Layout.{Extent}
use Rattle.layouts.specs.Members.{offsets_from, end_from, greatest_align, greatest_size}

pub end_from-push : (end : ℕ) (ms : List Extent) (m : Extent) → end_from end (ms ++ m ∷ []) ≡ next_multiple_of
    (end_from end ms) m.align + m.size
end_from-push end [] m = refl
end_from-push end (x ∷ ms) m = end_from-push (next_multiple_of end x.align + x.size) ms m

pub offsets_from-push : (end : ℕ) (ms : List Extent) (m : Extent) → offsets_from end (ms ++ m ∷ []) ≡ offsets_from end
    ms ++ next_multiple_of (end_from end ms) m.align ∷ []
offsets_from-push end [] m = refl
offsets_from-push end (x ∷ ms) m =
    ap (λ os. next_multiple_of end x.align ∷ os) (offsets_from-push (next_multiple_of end x.align + x.size) ms m)

pub greatest_align-push : (ms : List Extent) (m : Extent) → greatest_align (ms ++ m ∷ []) ≡ max (greatest_align ms)
    m.align
greatest_align-push [] m = omega arith
greatest_align-push (x ∷ ms) m = omega (arith, greatest_align-push ms m)

pub greatest_size-push : (ms : List Extent) (m : Extent) → greatest_size (ms ++ m ∷ []) ≡ max (greatest_size ms) m.size
greatest_size-push [] m = omega arith
greatest_size-push (x ∷ ms) m = omega (arith, greatest_size-push ms m)

-- what stands behind a place doesn't end below it
pub end_from-below : (end : ℕ) (ms : List Extent) → end ≤ end_from end ms
end_from-below end [] = omega arith
end_from-below end (m ∷ ms) = omega (arith, end_from-below (next_multiple_of end m.align + m.size) ms)

-- what a walk over these members has found
pub record IsLaidSoFar (ms : List Extent) (offsets : List ℕ) (end align : ℕ) : Type 0 where
  pub offsets_are : offsets ≡ offsets_from 0 ms
  pub end_is : end ≡ end_from 0 ms
  pub align_is : align ≡ greatest_align ms

-- one more member keeps the walk right
pub laid_more : {X : Type 0} (f : X → Extent) (members : List X) (i : ℕ) (d : X) (offsets more_offsets : List ℕ)
    (end align offset size a : ℕ) → i < length members → IsLaidSoFar (map f (take i members)) offsets end align →
    a ≡ (f (get_or members i d)).align → size ≡ (f (get_or members i d)).size → offset ≡ next_multiple_of end a →
    more_offsets ≡ offsets ++ offset ∷ [] → IsLaidSoFar (map f (take (i + 1) members)) more_offsets (offset + size)
    (max align a)
laid_more f members i d offsets more_offsets end align offset size a inside so_far a-is size-is offset-is offsets-is =
    let ms : List Extent = map f (take i members) in
    let m : Extent = f (get_or members i d) in
    let more : map f (take (i + 1) members) ≡ ms ++ m ∷ [] = map_more f members i d inside in
    let e1 = so_far.offsets_are in let e2 = so_far.end_is in let e3 = so_far.align_is in
    let p1 = offsets_from-push 0 ms m in let p2 = end_from-push 0 ms m in let p3 = greatest_align-push ms m in
    rw more (record { offsets_are = cc; end_is = cc; align_is = cc })

-- a front that ends past a place, in a whole that does too
pub front-below : {X : Type 0} (f : X → Extent) (members : List X) (i : ℕ) →
    end_from 0 (map f (take i members)) ≤ end_from 0 (map f members)
front-below f members i = let parts = map-take-drop f members i in rw parts
    (end_from_front 0 (map f (take i members)) (map f (drop i members)))
  where
    end_from_front : (end : ℕ) (ms more : List Extent) → end_from end ms ≤ end_from end (ms ++ more)
    end_from_front end [] more = end_from-below end more
    end_from_front end (m ∷ ms) more = end_from_front (next_multiple_of end m.align + m.size) ms more

    map-take-drop : {X : Type 0} (f : X → Extent) (members : List X) (i : ℕ) →
        map f members ≡ map f (take i members) ++ map f (drop i members)
    map-take-drop f members i = rw (← map-append f (take i members) (drop i members), take-append-drop) refl

-- where a struct is already too long behind one of its members, it is as a whole
pub whole_below : {X : Type 0} (f : X → Extent) (members : List X) (i : ℕ) (d : X) (offsets : List ℕ)
    (end align offset size a limit : ℕ) → i < length members → IsLaidSoFar (map f (take i members)) offsets end align →
    a ≡ (f (get_or members i d)).align → size ≡ (f (get_or members i d)).size → offset ≡ next_multiple_of end a →
    limit < offset + size → limit < next_multiple_of (end_from 0 (map f members)) (greatest_align (map f members))
whole_below f members i d offsets end align offset size a limit inside so_far a-is size-is offset-is past =
    let more = laid_more f members i d offsets _ end align offset size a inside so_far a-is size-is offset-is refl in
    omega (arith, more.end_is, front-below f members (i + 1))

-- one more member of a union
pub union_more : {X : Type 0} (f : X → Extent) (members : List X) (i : ℕ) (d : X) (size align : ℕ) →
    i < length members → size ≡ greatest_size (map f (take i members)) →
    align ≡ greatest_align (map f (take i members)) →
    (max size (f (get_or members i d)).size ≡ greatest_size (map f (take (i + 1) members))) ×
    (max align (f (get_or members i d)).align ≡ greatest_align (map f (take (i + 1) members)))
union_more f members i d size align inside size-is align-is =
    let ms : List Extent = map f (take i members) in
    let m : Extent = f (get_or members i d) in
    rw (map_more f members i d inside)
    (omega (arith, greatest_size-push ms m), omega (arith, greatest_align-push ms m))

-- the offsets in a union
pub zeros : {X : Type 0} (f : X → Extent) (members : List X) → replicate {A = ℕ} (length members) 0 ≡ map
    (λ (m : Extent). 0) (map f members)
zeros f [] = refl
zeros f (m ∷ ms) = ap (λ os. 0 ∷ os) (zeros f ms)

-- a walk over all members
pub take_whole : {X : Type 0} (f : X → Extent) (members : List X) (i : ℕ) → length members ≤ i →
    map f (take i members) ≡ map f members
take_whole f members i over = ap (λ ms. map f ms) (take_all i members over)
