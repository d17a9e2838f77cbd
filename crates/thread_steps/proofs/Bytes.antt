-- Which bytes a store, a new block and a closed block leave as they were.
use Rattle.std.proofs.Common.{◌≡◌, ◌≢◌, ℕ, zero, suc, ◌+◌, ◌<◌, ◌≤◌, ◌⊎◌, inl, inr, Bool, true, false, List, [], ◌∷◌, ◌++◌, length, refl, ap, sym, ◌∙◌, subst, take, drop, map, arith}
use Rattle.std.proofs.Common.{ℤ, pos, negsuc, ◌≤ℤ◌, ◌<ℤ◌, ◌+ℤ◌}
use Rattle.std.specs.Prelude.{Option, Some, None, Result, Ok, Err, IsTrue, if◌then◌else◌, ◌==◌, replicate}
use Rattle.std.specs.Prelude.{slice_get, slice_set, slice_index_or, option_and_then, option_map, unwrap_or}
use Rattle.std.proofs.lemmas.Int.{ints}
use Rattle.std.proofs.lemmas.Bool.Decides.{Decides-eqb, eqb_tells}
use Rattle.layouts.specs.declared.layout.Layout.{Layout}
use Rattle.layouts.specs.declared.layout.Layout.TheVariants as layouts
use Rattle.layouts.specs.declared.table.Declaration.{Declaration}
use Rattle.layouts.specs.Table.{bytes_of, align_of}
use Rattle.rc_terms.specs.declared.location.Loc.{Loc}
use Rattle.rc_terms.specs.declared.location.Loc.TheVariants as locations
use Rattle.rc_terms.specs.declared.byte.MByte.{MByte}
use Rattle.byte_memory.specs.declared.block.Block.{Block}
use Rattle.byte_memory.specs.declared.block.Block.TheVariants.{Open, Closed}
use Rattle.byte_memory.specs.declared.fault.MemoryUb.{MemoryUb}
use Rattle.byte_memory.specs.Memory.{byte_at, bytes_at, live_bytes, length_at, block_length, fault_of, range_of, stored, opened, closed, IsBeside, overwritten}
use Rattle.byte_memory.proofs.MemoryLemmas.{slice_get-set_same, slice_get-set_other, slice_get-append_left, Reaches, reached, closed_length, closed_dead}
use Rattle.std.proofs.lemmas.Option.{get_or_from_slice_get}
use Rattle.std.proofs.lemmas.List.{length-append, length-set}
use Rattle.thread_steps.specs.declared.access.Touched.TheVariants.{Range, Block as Whole}
use Rattle.thread_steps.specs.Access.{IsIn}
use Rattle.thread_steps.specs.Calls.{without_blocks}

-- a byte behind the value that was put at the front, or before and behind one that was put further on
behind : {X : Type 0} (values bytes : List X) (k : ℕ) → length values ≤ length bytes → length values ≤ k →
    slice_get (values ++ drop (length values) bytes) k ≡ slice_get bytes k
behind [] bytes k short far = refl
behind (v ∷ values) [] k short far = absurd (omega arith)
behind (v ∷ values) (b ∷ bytes) zero short far = absurd (omega arith)
behind (v ∷ values) (b ∷ bytes) (suc k) short far = behind values bytes k (omega arith) (omega arith)

beside : {X : Type 0} (values bytes : List X) (at end k : ℕ) → end ≡ at + length values → end ≤ length bytes →
    (k < at) ⊎ (end ≤ k) → slice_get (take at bytes ++ (values ++ drop end bytes)) k ≡ slice_get bytes k
beside values bytes zero end k is inside (inl before) = absurd (omega arith)
beside values bytes zero end k is inside (inr far) =
    let same : length values ≡ end = omega arith in
    subst (λ n. slice_get (values ++ drop n bytes) k ≡ slice_get bytes k) same
    (behind values bytes k (omega arith) (omega arith))
beside values bytes (suc at) zero k is inside where_else = absurd (omega arith)
beside values [] (suc at) (suc end) k is inside where_else = absurd (omega arith)
beside values (b ∷ bytes) (suc at) (suc end) zero is inside where_else = refl
beside values (b ∷ bytes) (suc at) (suc end) (suc k) is inside (inl before) =
    beside values bytes at end k (omega arith) (omega arith) (inl (omega arith))
beside values (b ∷ bytes) (suc at) (suc end) (suc k) is inside (inr far) =
    beside values bytes at end k (omega arith) (omega arith) (inr (omega arith))

-- the byte of a block of memory, from the block
abbrev byte_in : ℕ → Option Block → Option MByte
byte_in offset found =
    option_and_then (λ (bytes : List MByte). slice_get bytes offset) (option_and_then live_bytes found)

where_beside : (at size offset : ℕ) → (at ≤ offset → offset < at + size → ⊥) → (offset < at) ⊎ (at + size ≤ offset)
where_beside zero zero offset free = inr (omega arith)
where_beside zero (suc size) zero free = absurd (free (omega arith) (omega arith))
where_beside zero (suc size) (suc offset) free =
    elim (where_beside zero size offset (λ a b. free (omega arith) (omega arith))) [
      | inl h ↦ absurd (omega arith)
      | inr h ↦ inr (omega arith)
    ]
where_beside (suc at) size zero free = inl (omega arith)
where_beside (suc at) size (suc offset) free =
    elim (where_beside at size offset (λ a b. free (omega arith) (omega arith))) [
      | inl h ↦ inl (omega arith)
      | inr h ↦ inr (omega arith)
    ]

slice_get_inside : {X : Type 0} (xs : List X) (i : ℕ) (x : X) → slice_get xs i ≡ Some x → i < length xs
slice_get_inside [] i x at = cc
slice_get_inside (y ∷ xs) zero x at = omega arith
slice_get_inside (y ∷ xs) (suc i) x at = let more = slice_get_inside xs i x at in omega arith

in_block : (memory : List Block) (of block at offset : ℕ) (bytes value : List MByte) →
    Reaches memory of at (length value) bytes →
    (IsIn memory (Range (locations.At of (pos at)) (length value)) block offset → ⊥) →
    (of ≡ block) ⊎ (of ≢ block) →
    byte_at (stored memory (locations.At of (pos at)) value) block offset ≡ byte_at memory block offset
in_block memory of block at offset bytes value reach free (inl same) =
    let old = get_or_from_slice_get memory of (Open bytes) (Closed 0) reach.alive in
    let new = Open (take at bytes ++ (value ++ drop (at + length value) bytes)) in
    let is : stored memory (locations.At of (pos at)) value ≡ slice_set memory of new =
    ap (λ b. slice_set memory of (overwritten b (pos at) value)) old in
    let within = slice_get_inside memory of (Open bytes) reach.alive in
    let apart = where_beside at (length value) offset
    (λ low high. free (same, omega (arith, ints), omega (arith, ints))) in
    let here : byte_at (stored memory (locations.At of (pos at)) value) of offset ≡ byte_at memory of offset =
    ap (λ m. byte_at m of offset) is ∙ ap (byte_in offset) (slice_get-set_same memory of new within)
    ∙ beside value bytes at (at + length value) offset refl reach.inside apart ∙ sym (ap (byte_in offset) reach.alive) in
    subst (λ n. byte_at (stored memory (locations.At of (pos at)) value) n offset ≡ byte_at memory n offset) same here
in_block memory of block at offset bytes value reach free (inr other) =
    ap (byte_in offset) (slice_get-set_other memory of block _ (λ is. other (sym is)))

same_or_other : (a b : ℕ) → (a ≡ b) ⊎ (a ≢ b)
same_or_other a b = elim (eqb_tells a b) [
  | inl h ↦ inl h.1
  | inr h ↦ inr h.1
]

-- a store changes no byte beside its range
pub stored_keeps : (memory : List Block) (at : Loc) (value : List MByte) (align block offset : ℕ) →
    fault_of memory at (length value) align ≡ None → (IsIn memory (Range at (length value)) block offset → ⊥) →
    byte_at (stored memory at value) block offset ≡ byte_at memory block offset
stored_keeps memory locations.Null value align block offset defined free = refl
stored_keeps memory (locations.At of z) value align block offset defined free =
    let (at, bytes, is, reach) = reached memory of z (length value) align defined in
    let there = subst (λ o. IsIn memory (Range (locations.At of o) (length value)) block offset → ⊥) is free in
    let kept = in_block memory of block at offset bytes value reach there (same_or_other of block) in
    subst (λ o. byte_at (stored memory (locations.At of o) value) block offset ≡ byte_at memory block offset) (sym is) kept

-- a new block leaves the old ones, also after a store in it
pub opened_keeps : (memory : List Block) (len block offset : ℕ) → block < length memory →
    byte_at (opened memory len) block offset ≡ byte_at memory block offset
opened_keeps memory len block offset old = ap (byte_in offset) (slice_get-append_left memory _ block old)

pub opened_length : (memory : List Block) (len : ℕ) → length (opened memory len) ≡ length memory + 1
opened_length memory len = length-append memory _

pub argument_keeps : (memory : List Block) (len block offset : ℕ) (value : List MByte) → block < length memory →
    byte_at (stored (opened memory len) (locations.At (length memory) (pos 0)) value) block offset
    ≡ byte_at memory block offset
argument_keeps memory len block offset value old =
    ap (byte_in offset) (slice_get-set_other (opened memory len) (length memory) block _ (omega arith))
    ∙ opened_keeps memory len block offset old

pub argument_length : (memory : List Block) (len : ℕ) (value : List MByte) →
    length (stored (opened memory len) (locations.At (length memory) (pos 0)) value) ≡ length memory + 1
argument_length memory len value = length-set (opened memory len) (length memory) _ ∙ opened_length memory len

-- a block without this byte
no_byte : (bytes : List MByte) (offset : ℕ) → (offset < length bytes → ⊥) → slice_get bytes offset ≡ None
no_byte [] offset far = refl
no_byte (b ∷ bytes) zero far = absurd (far (omega arith))
no_byte (b ∷ bytes) (suc offset) far = no_byte bytes offset (λ h. far (omega arith))

no_byte_of : (found : Option Block) (offset : ℕ) → (offset < unwrap_or (option_map block_length found) 0 → ⊥) →
    byte_in offset found ≡ None
no_byte_of None offset far = refl
no_byte_of (Some (Closed len)) offset far = refl
no_byte_of (Some (Open bytes)) offset far = no_byte bytes offset far

-- closing a block changes no byte of another, and it keeps all lengths
closed_byte : (memory : List Block) (closes block offset : ℕ) →
    (IsIn memory (Whole closes) block offset → ⊥) → (closes ≡ block) ⊎ (closes ≢ block) →
    byte_at (closed memory closes) block offset ≡ byte_at memory block offset
closed_byte memory closes block offset free (inl same) =
    let dead = subst (λ n. bytes_at (closed memory closes) n ≡ None) same (closed_dead memory closes) in
    let far = no_byte_of (slice_get memory block) offset (λ h. free (same, h)) in
    ap (λ (o : Option (List MByte)). option_and_then (λ (bytes : List MByte). slice_get bytes offset) o) dead ∙ sym far
closed_byte memory closes block offset free (inr other) =
    ap (byte_in offset) (slice_get-set_other memory closes block _ (λ is. other (sym is)))

length_kept : (memory : List Block) (closes block : ℕ) → (closes ≡ block) ⊎ (closes ≢ block) →
    length_at (closed memory closes) block ≡ length_at memory block
length_kept memory closes block (inl same) =
    subst (λ n. length_at (closed memory closes) n ≡ length_at memory n) same (closed_length memory closes)
length_kept memory closes block (inr other) =
    ap (λ (o : Option Block). unwrap_or (option_map block_length o) 0)
    (slice_get-set_other memory closes block _ (λ is. other (sym is)))

pub closed_keeps : (memory : List Block) (closes block offset : ℕ) →
    (IsIn memory (Whole closes) block offset → ⊥) →
    byte_at (closed memory closes) block offset ≡ byte_at memory block offset
closed_keeps memory closes block offset free =
    closed_byte memory closes block offset free (same_or_other closes block)

pub closed_lengths : (memory : List Block) (closes block : ℕ) →
    length_at (closed memory closes) block ≡ length_at memory block
closed_lengths memory closes block = length_kept memory closes block (same_or_other closes block)
