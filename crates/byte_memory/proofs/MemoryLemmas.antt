-- What a store, an opened and a closed block leave of memory.
use Rattle.std.proofs.Common.{◌≡◌, ◌≢◌, ℕ, ◌+◌, ◌<◌, ◌≤◌, zero, suc, ℤ, pos, negsuc, List, [], ◌∷◌, ◌++◌}
use Rattle.std.proofs.Common.{length, take, drop, set, get_or, slice_get, Option, Some, None, option_map, unwrap_or}
use Rattle.std.proofs.Common.{option_and_then, ◌⊎◌, inl, inr, refl, ap, sym, ◌∙◌, arith, length-append, length-take}
use Rattle.std.proofs.Common.{length-drop, length-set}
use Rattle.std.proofs.lemmas.Bool.{cases_eq, cases_lt}
use Rattle.std.proofs.lemmas.Option.{none-some, same_Some, slice_get_within, slice_get_past, slice_get-get_or}
use Rattle.std.proofs.lemmas.Option.{get_or_from_slice_get}
use Rattle.std.proofs.lemmas.List.{get_or-set_same, get_or-set_other, take_at, drop_at}
use Rattle.std.proofs.lemmas.List.{same_lists, get_or-take, get_or-drop}
use Rattle.std.proofs.lemmas.Grind.{common_steps}
use Rattle.rc_terms.specs.declared.location.Loc.{Loc}
use Rattle.rc_terms.specs.declared.location.Loc.TheVariants.{Null, At}
use Rattle.rc_terms.specs.declared.byte.MByte.{MByte}
use Rattle.byte_memory.specs.declared.block.Block.{Block}
use Rattle.byte_memory.specs.declared.block.Block.TheVariants.{Open, Closed}
use Rattle.byte_memory.specs.Memory.{live_bytes, block_length, bytes_at, length_at, fault_within, fault_in, fault_of}
use Rattle.byte_memory.proofs.RangeLemmas.{out_of_bounds}
use Rattle.byte_memory.specs.Memory.{range_within, range_of, overwritten, stored, closed, AreApart}

-- a list with one element written
pub slice_get-set_same : {X : Type 0} (xs : List X) (i : ℕ) (x : X) → i < length xs → slice_get (set xs i x) i ≡ Some x
slice_get-set_same xs i x inside =
    let long = length-set xs i x in
    slice_get-get_or (set xs i x) i x (omega arith) ∙ ap (λ y. Some y) (get_or-set_same xs i x x inside)

pub slice_get-set_other : {X : Type 0} (xs : List X) (i j : ℕ) (x : X) → j ≢ i →
    slice_get (set xs i x) j ≡ slice_get xs j
slice_get-set_other xs i j x other =
    let long = length-set xs i x in
    elim (cases_lt j (length xs)) [
      | inl h ↦ slice_get-get_or (set xs i x) j x (omega arith) ∙ ap (λ y. Some y) (get_or-set_other xs i j x x other)
          ∙ sym (slice_get-get_or xs j x h)
      | inr h ↦ slice_get_past (set xs i x) j (omega arith) ∙ sym (slice_get_past xs j h)
    ]

pub slice_get-append_left : {X : Type 0} (xs ys : List X) (j : ℕ) → j < length xs →
    slice_get (xs ++ ys) j ≡ slice_get xs j
slice_get-append_left [] ys j inside = absurd (omega arith)
slice_get-append_left (x ∷ xs) ys zero inside = refl
slice_get-append_left (x ∷ xs) ys (suc j) inside = slice_get-append_left xs ys j (omega arith)

pub slice_get-append_seam : {X : Type 0} (xs : List X) (y : X) → slice_get (xs ++ y ∷ []) (length xs) ≡ Some y
slice_get-append_seam [] y = refl
slice_get-append_seam (x ∷ xs) y = slice_get-append_seam xs y

-- a closed block
pub closed_dead : (memory : List Block) (block : ℕ) → bytes_at (closed memory block) block ≡ None
closed_dead memory block =
    elim (cases_lt block (length memory)) [
      | inl h ↦ ap (λ b. option_and_then live_bytes b)
          (slice_get-set_same memory block (Closed (length_at memory block)) h)
      | inr h ↦ (let long = length-set memory block (Closed (length_at memory block)) in
          ap (λ b. option_and_then live_bytes b) (slice_get_past (closed memory block) block (omega arith)))
    ]

pub closed_length : (memory : List Block) (block : ℕ) → length_at (closed memory block) block ≡ length_at memory block
closed_length memory block =
    elim (cases_lt block (length memory)) [
      | inl h ↦ ap (λ b. unwrap_or (option_map block_length b) 0)
          (slice_get-set_same memory block (Closed (length_at memory block)) h)
      | inr h ↦ (let long = length-set memory block (Closed (length_at memory block)) in
          ap (λ b. unwrap_or (option_map block_length b) 0)
          (slice_get_past (closed memory block) block (omega arith) ∙ sym (slice_get_past memory block h)))
    ]

-- an access without a fault goes to a live block, and to a range inside it
pub record Reaches (memory : List Block) (block offset size : ℕ) (bytes : List MByte) : Type 0 where
  pub alive : slice_get memory block ≡ Some (Open bytes)
  pub inside : offset + size ≤ length bytes

pub reached : (memory : List Block) (block : ℕ) (offset : ℤ) (size align : ℕ) →
    fault_of memory (At block offset) size align ≡ None → (o : ℕ) × (bytes : List MByte) × (offset ≡ pos o) × Reaches
    memory block o size bytes
reached memory block offset size align defined = go (slice_get memory block) refl defined
  where
    go : (found : Option Block) → slice_get memory block ≡ found → fault_in (option_and_then live_bytes found) offset
        size align ≡ None → (o : ℕ) × (bytes : List MByte) × (offset ≡ pos o) × Reaches memory block o size bytes
    go None is none = absurd (none-some _ (sym none))
    go (Some (Closed len)) is none = absurd (none-some _ (sym none))
    go (Some (Open bytes)) is none = within offset refl none
      where
        within : (z : ℤ) → offset ≡ z → fault_within bytes z size align ≡ None →
            (o : ℕ) × (bytes : List MByte) × (offset ≡ pos o) × Reaches memory block o size bytes
        within (negsuc n) at without = absurd (none-some _ (sym without))
        within (pos o) at without =
            elim (cases_lt (length bytes) (o + size)) [
              | inl h ↦ absurd (none-some _ (sym (sym (out_of_bounds bytes o size align h) ∙ without)))
              | inr h ↦ (o, bytes, at, record { alive = is; inside = h })
            ]

-- the bytes of a block after a value was written over some of them
written : List MByte → ℕ → List MByte → List MByte
written bytes o value = take o bytes ++ (value ++ drop (o + length value) bytes)

length-written : (bytes : List MByte) (o : ℕ) (value : List MByte) → o + length value ≤ length bytes →
    length (written bytes o value) ≡ length bytes
unfolding written
length-written bytes o value inside =
    let a = length-append (take o bytes) (value ++ drop (o + length value) bytes) in
    let b = length-append value (drop (o + length value) bytes) in
    omega (arith, a, b, length-take o bytes, length-drop (o + length value) bytes)

range-written : (bytes : List MByte) (o : ℕ) (value : List MByte) → o + length value ≤ length bytes →
    take (length value) (drop o (written bytes o value)) ≡ value
unfolding written
range-written bytes o value inside =
    let long : length (take o bytes) ≡ o = omega (arith, length-take o bytes) in
    ap (λ xs. take (length value) xs) (drop_at (take o bytes) (value ++ drop (o + length value) bytes) o long)
    ∙ take_at value (drop (o + length value) bytes) (length value) refl

beside-written : (bytes : List MByte) (o : ℕ) (value : List MByte) (k : ℕ) (d : MByte) →
    o + length value ≤ length bytes → (k < o) ⊎ (o + length value ≤ k) →
    get_or (written bytes o value) k d ≡ get_or bytes k d
unfolding written
beside-written bytes o value k d inside beside = grind (arith, common_steps)

-- the block that was written
stored_there : (memory : List Block) (block o : ℕ) (bytes value : List MByte) →
    Reaches memory block o (length value) bytes → slice_get (stored memory (At block (pos o)) value) block ≡ Some
    (Open (written bytes o value))
unfolding written
stored_there memory block o bytes value reaches =
    let was : get_or memory block (Closed 0) ≡ Open bytes =
    get_or_from_slice_get memory block (Open bytes) (Closed 0) reaches.alive in
    slice_get-set_same memory block _ (slice_get_within memory block (Open bytes) reaches.alive)
    ∙ ap (λ b. Some (overwritten b (pos o) value)) was

stored_elsewhere : (memory : List Block) (block o c : ℕ) (value : List MByte) → c ≢ block →
    slice_get (stored memory (At block (pos o)) value) c ≡ slice_get memory c
stored_elsewhere memory block o c value other = slice_get-set_other memory block c _ other

same_fault : (xs ys : List MByte) (offset : ℤ) (size align : ℕ) → length xs ≡ length ys →
    fault_within xs offset size align ≡ fault_within ys offset size align
same_fault xs ys (negsuc n) size align same = refl
same_fault xs ys (pos o) size align same = rw same refl

-- what was stored is loaded
pub stored_loaded : (memory : List Block) (at : Loc) (value : List MByte) (align : ℕ) →
    fault_of memory at (length value) align ≡ None → range_of (stored memory at value) at (length value) ≡ value
stored_loaded memory Null value align defined = absurd (none-some _ (sym defined))
stored_loaded memory (At block offset) value align defined =
    let r = reached memory block offset (length value) align defined in
    rw r.2 (
    ap (λ b. range_within (unwrap_or (option_and_then live_bytes b) []) (pos r.0) (length value))
    (stored_there memory block r.0 r.1 value r.3)
    ∙ range-written r.1 r.0 value r.3.inside)

-- a store changes no fault
pub stored_faults : (memory : List Block) (at other : Loc) (value : List MByte) (align size divisor : ℕ) →
    fault_of memory at (length value) align ≡ None → fault_of (stored memory at value) other size divisor ≡ fault_of
    memory other size divisor
stored_faults memory at Null value align size divisor defined = refl
stored_faults memory Null (At c p) value align size divisor defined = refl
stored_faults memory (At block offset) (At c p) value align size divisor defined =
    let r = reached memory block offset (length value) align defined in
    rw r.2 (elim (cases_eq c block) [
      | inl same ↦ (rw same (
          ap (λ b. fault_in (option_and_then live_bytes b) p size divisor) (stored_there memory block r.0 r.1 value r.3)
          ∙ same_fault (written r.1 r.0 value) r.1 p size divisor (length-written r.1 r.0 value r.3.inside)
          ∙ sym (ap (λ b. fault_in (option_and_then live_bytes b) p size divisor) r.3.alive)))
      | inr differs ↦
          ap (λ b. fault_in (option_and_then live_bytes b) p size divisor)
          (stored_elsewhere memory block r.0 c value differs)
    ])

-- a range beside the one that was written
range-beside : (bytes : List MByte) (o : ℕ) (value : List MByte) (p size : ℕ) → o + length value ≤ length bytes →
    p + size ≤ length bytes → (o + length value ≤ p) ⊎ (p + size ≤ o) →
    take size (drop p (written bytes o value)) ≡ take size (drop p bytes)
range-beside bytes o value p size inside within apart =
    let long = length-written bytes o value inside in
    let a = length-take size (drop p (written bytes o value)) in let b = length-drop p (written bytes o value) in
    let e = length-take size (drop p bytes) in let f = length-drop p bytes in
    same_lists (take size (drop p (written bytes o value))) (take size (drop p bytes)) (omega arith)
    (λ k d there.
    let below : k < size = omega arith in
    get_or-take size (drop p (written bytes o value)) k d below ∙ get_or-drop p (written bytes o value) k d
    ∙ beside-written bytes o value (p + k) d inside
    (elim apart [ inl h ↦ inr (omega arith) | inr h ↦ inl (omega arith) ])
    ∙ sym (get_or-take size (drop p bytes) k d below ∙ get_or-drop p bytes k d))

-- the same where both ranges are in one block
beside_there : (memory : List Block) (block c o p size : ℕ) (bytes others value : List MByte) → c ≡ block →
    Reaches memory block o (length value) bytes → Reaches memory c p size others →
    (o + length value ≤ p) ⊎ (p + size ≤ o) → range_within
    (unwrap_or (bytes_at (stored memory (At block (pos o)) value) c) []) (pos p) size ≡ range_within
    (unwrap_or (bytes_at memory c) []) (pos p) size
beside_there memory block c o p size bytes others value same reaches other apart =
    let one : bytes ≡ others = open_same bytes others
    (same_Some _ _ (sym reaches.alive ∙ ap (λ b. slice_get memory b) (sym same) ∙ other.alive)) in
    let long : length bytes ≡ length others = ap (λ (bs : List MByte). length bs) one in
    ap (λ b. range_within (unwrap_or (bytes_at (stored memory (At block (pos o)) value) b) []) (pos p) size) same
    ∙ ap (λ b. range_within (unwrap_or (option_and_then live_bytes b) []) (pos p) size)
    (stored_there memory block o bytes value reaches)
    ∙ range-beside bytes o value p size reaches.inside (omega (arith, other.inside)) apart
    ∙ sym (ap (λ b. range_within (unwrap_or (option_and_then live_bytes b) []) (pos p) size) reaches.alive)
    ∙ sym (ap (λ b. range_within (unwrap_or (bytes_at memory b) []) (pos p) size) same)
  where
    open_same : (xs ys : List MByte) → Open xs ≡ Open ys → xs ≡ ys
    open_same xs ys is = cc

-- a store beside a range leaves its load alone
pub stored_beside : (memory : List Block) (at other : Loc) (value : List MByte) (align size divisor : ℕ) →
    fault_of memory at (length value) align ≡ None → fault_of memory other size divisor ≡ None →
    AreApart at (length value) other size → range_of (stored memory at value) other size ≡ range_of memory other size
stored_beside memory at Null value align size divisor defined other_defined apart = refl
stored_beside memory Null (At c p) value align size divisor defined other_defined apart = refl
stored_beside memory (At block offset) (At c p) value align size divisor defined other_defined apart =
    let r = reached memory block offset (length value) align defined in
    let q = reached memory c p size divisor other_defined in
    let apart' = rw (r.2, q.2) at apart in
    rw (r.2, q.2) (elim (cases_eq c block) [
      | inl same ↦ (elim apart' [
        | inl differs ↦ absurd (differs (sym same))
        | inr h ↦ beside_there memory block c r.0 q.0 size r.1 q.1 value same r.3 q.3 h
      ])
      | inr differs ↦
          ap (λ b. range_within (unwrap_or (option_and_then live_bytes b) []) (pos q.0) size)
          (stored_elsewhere memory block r.0 c value differs)
    ])
