-- The fault of an access by the tests of its parts, and a range that is read or written byte by byte.
use Rattle.std.proofs.Common.{◌≡◌, ◌≢◌, ℕ, ◌+◌, ◌%◌, ◌<◌, ◌≤◌, suc, List, [], ◌∷◌, ◌++◌, length, take, drop, set}
use Rattle.std.proofs.Common.{get_or, ℤ, ◌≤ℤ◌, unsigned_abs, rules, pos, negsuc, Some, None, ◌^◌}
use Rattle.std.specs.Int.{FitsUnsigned, w64}
use Rattle.std.proofs.Common.{inl, inr}
use Rattle.std.proofs.lemmas.Bool.{cases_lt}
use Rattle.std.proofs.Common.{refl, ap, sym, ◌∙◌, arith, append_assoc, length-append, length-take, length-drop}
use Rattle.std.proofs.Common.{drop-cons, slice_get}
use Rattle.std.proofs.lemmas.Grind.{common_steps}
use Rattle.std.proofs.lemmas.List.{take_more, set_at, get_or-drop}
use Rattle.std.proofs.lemmas.Option.{get_or_from_slice_get}
use Rattle.rc_terms.specs.declared.byte.MByte.{MByte}
use Rattle.byte_memory.specs.declared.fault.MemoryUb.TheVariants.{OutOfBounds, Misaligned}
use Rattle.byte_memory.specs.Memory.{fault_within}

pub out_of_bounds : (bytes : List MByte) (offset size align : ℕ) → length bytes < offset + size →
    fault_within bytes (pos offset) size align ≡ Some OutOfBounds
out_of_bounds bytes offset size align past = grind (arith, common_steps)

pub misaligned : (bytes : List MByte) (offset size align : ℕ) → offset + size ≤ length bytes → offset % align ≢ 0 →
    fault_within bytes (pos offset) size align ≡ Some Misaligned
misaligned bytes offset size align inside rest = grind (arith, common_steps)

pub without_fault : (bytes : List MByte) (offset size align : ℕ) → offset + size ≤ length bytes → offset % align ≡ 0 →
    fault_within bytes (pos offset) size align ≡ None
without_fault bytes offset size align inside rest = grind (arith, common_steps)

-- an offset that is no number of 64 bits lies outside
pub past_all : (bytes : List MByte) (offset : ℤ) (size align : ℕ) → length bytes < 2 ^ 64 →
    (FitsUnsigned w64 offset → ⊥) → fault_within bytes offset size align ≡ Some OutOfBounds
past_all bytes (negsuc n) size align short unfit = refl
past_all bytes (pos n) size align short unfit =
    elim (cases_lt n (2 ^ 64))
    [ inl h ↦ absurd (unfit (search rules, search rules)) | inr h ↦ out_of_bounds bytes n size align (omega arith) ]

-- a whole number that isn't negative is the one without its sign
pub natural_is : (z : ℤ) (n : ℕ) → pos 0 ≤ℤ z → n ≡ unsigned_abs z → z ≡ pos n
natural_is (pos k) n low is = ap (λ m. pos m) (sym is)
natural_is (negsuc k) n low is = absurd (search rules)

-- one more byte was read
pub read_more : (bytes value : List MByte) (offset i : ℕ) (b : MByte) → value ≡ take i (drop offset bytes) →
    offset + i < length bytes → slice_get bytes (offset + i) ≡ Some b →
    value ++ b ∷ [] ≡ take (i + 1) (drop offset bytes)
read_more bytes value offset i b so_far inside is =
    let at : get_or (drop offset bytes) i b ≡ b = get_or-drop offset bytes i b ∙ get_or_from_slice_get bytes
    (offset + i) b b is in
    let within : i < length (drop offset bytes) = omega (arith, length-drop offset bytes) in
    rw so_far (ap (λ x. take i (drop offset bytes) ++ x ∷ []) (sym at) ∙ sym (take_more (drop offset bytes) i b within))

-- one more byte was written
pub write_more : (old now value : List MByte) (offset i : ℕ) (d : MByte) →
    now ≡ take offset old ++ (take i value ++ drop (offset + i) old) → i < length value → offset + i < length old →
    set now (offset + i) (get_or value i d) ≡ take offset old ++ (take (i + 1) value ++ drop (offset + (i + 1)) old)
write_more old now value offset i d so_far inside within =
    let rest : drop (offset + i) old ≡ get_or old (offset + i) d ∷ drop (suc (offset + i)) old = drop-cons old
    (offset + i) d within in
    let next : suc (offset + i) ≡ offset + (i + 1) = omega arith in
    let long : length (take offset old ++ take i value) ≡ offset + i =
    omega (arith, length-append (take offset old) (take i value), length-take offset old, length-take i value) in
    let more = take_more value i d inside in
    rw (
      so_far,
      rest,
      ← append_assoc (take offset old) (take i value)
          (get_or old (offset + i) d ∷ drop (suc (offset + i)) old),
    )
    (set_at (take offset old ++ take i value) (get_or old (offset + i) d) (drop (suc (offset + i)) old)
    (get_or value i d) (offset + i) long
    ∙ (rw (next, more) (append_assoc (take offset old) (take i value) (get_or value i d ∷ drop (offset + (i + 1)) old)
    ∙ ap (λ xs. take offset old ++ xs)
    (sym (append_assoc (take i value) (get_or value i d ∷ []) (drop (offset + (i + 1)) old))))))
