-- Byte memory (after Caesium, RefinedC PLDI 2021, and CompCert's memory model): a finite map from the numbers of the
-- blocks that were opened, which are 0, 1 and so on, to blocks, each open with its bytes or closed with its length.
use Rattle.std.specs.Prelude.{◌≡◌, ℕ, ◌+◌, ◌%◌, ◌<◌, ◌≤◌, ◌⊎◌, ℤ, pos, negsuc, nat_lt, ◌==◌, if◌then◌else◌}
use Rattle.std.specs.Prelude.{List, [], ◌∷◌, ◌++◌, length, take, drop, replicate, slice_get, slice_index_or, slice_set}
use Rattle.std.specs.Prelude.{Option, Some, None, option_map, unwrap_or, option_and_then, IsSome}
use Rattle.rc_terms.specs.declared.location.Loc.{Loc}
use Rattle.rc_terms.specs.declared.location.Loc.TheVariants.{Null, At}
use Rattle.rc_terms.specs.declared.byte.MByte.{MByte}
use Rattle.rc_terms.specs.declared.byte.MByte.TheVariants.{Poison}
use Rattle.byte_memory.specs.declared.block.Block.{Block}
use Rattle.byte_memory.specs.declared.block.Block.TheVariants.{Open, Closed}
use Rattle.byte_memory.specs.declared.fault.MemoryUb.{MemoryUb}
use Rattle.byte_memory.specs.declared.fault.MemoryUb.TheVariants.{Dead, OutOfBounds, Misaligned, NullAccess}

-- the bytes of a block while it is alive
abbrev pub live_bytes : Block → Option (List MByte)
live_bytes (Open bytes) = Some bytes
live_bytes (Closed len) = None

-- how many bytes a block has, or had
abbrev pub block_length : Block → ℕ
block_length (Open bytes) = length bytes
block_length (Closed len) = len

-- the bytes of the block with this number, where it was opened and is alive
abbrev pub bytes_at : List Block → ℕ → Option (List MByte)
bytes_at memory block = option_and_then live_bytes (slice_get memory block)

-- the block is alive
abbrev pub IsAlive : List Block → ℕ → Type 0
IsAlive memory block = IsSome (bytes_at memory block)

-- the length of the block with this number, 0 where it was never opened
abbrev pub length_at : List Block → ℕ → ℕ
length_at memory block = unwrap_or (option_map block_length (slice_get memory block)) 0

-- the fault of an access to so many of these bytes, at an offset that the alignment is to divide
abbrev pub fault_within : List MByte → ℤ → ℕ → ℕ → Option MemoryUb
fault_within bytes (negsuc n) size align = Some OutOfBounds
fault_within bytes (pos offset) size align =
    if nat_lt (length bytes) (offset + size) then Some OutOfBounds
    else if offset % align == 0 then None else Some Misaligned

-- the same of the bytes of a block, where it is alive
abbrev pub fault_in : Option (List MByte) → ℤ → ℕ → ℕ → Option MemoryUb
fault_in None offset size align = Some Dead
fault_in (Some bytes) offset size align = fault_within bytes offset size align

-- the fault of an access to so many bytes at a location, if it has one: the first in the order null, dead, out of
-- bounds, misaligned
abbrev pub fault_of : List Block → Loc → ℕ → ℕ → Option MemoryUb
fault_of memory Null size align = Some NullAccess
fault_of memory (At block offset) size align = fault_in (bytes_at memory block) offset size align

-- so many bytes from an offset on
abbrev pub range_within : List MByte → ℤ → ℕ → List MByte
range_within bytes (negsuc n) size = []
range_within bytes (pos offset) size = take size (drop offset bytes)

-- the bytes that an access without a fault reaches
abbrev pub range_of : List Block → Loc → ℕ → List MByte
range_of memory Null size = []
range_of memory (At block offset) size = range_within (unwrap_or (bytes_at memory block) []) offset size

-- the block with a value in the place of its bytes from an offset on
abbrev pub overwritten : Block → ℤ → List MByte → Block
overwritten (Closed len) offset value = Closed len
overwritten (Open bytes) (negsuc n) value = Open bytes
overwritten (Open bytes) (pos offset) value = Open (take offset bytes ++ (value ++ drop (offset + length value) bytes))

-- the memory after a store without a fault: the block of the location has the value in its range
abbrev pub stored : List Block → Loc → List MByte → List Block
stored memory Null value = memory
stored memory (At block offset) value =
    slice_set memory block (overwritten (slice_index_or memory block (Closed 0)) offset value)

-- the memory after a block of this length was opened, all of it poison
abbrev pub opened : List Block → ℕ → List Block
opened memory len = memory ++ Open (replicate len Poison) ∷ []

-- the memory after a block was closed, of which the length stays
abbrev pub closed : List Block → ℕ → List Block
closed memory block = slice_set memory block (Closed (length_at memory block))

-- the byte at an offset of a block, where it has one and is alive
abbrev pub byte_at : List Block → ℕ → ℕ → Option MByte
byte_at memory block offset = option_and_then (λ (bytes : List MByte). slice_get bytes offset) (bytes_at memory block)

-- the byte at this offset of this block is none of so many bytes at a location
abbrev pub IsBeside : Loc → ℕ → ℕ → ℕ → Type 0
IsBeside Null size block offset = Unit {0}
IsBeside (At b (pos o)) size block offset = (b ≡ block → ⊥) ⊎ ((offset < o) ⊎ (o + size ≤ offset))
IsBeside (At b (negsuc n)) size block offset = Unit {0}

-- two ranges of bytes have no byte in common
abbrev pub AreApart : Loc → ℕ → Loc → ℕ → Type 0
AreApart (At b (pos o)) size (At c (pos p)) other = (b ≡ c → ⊥) ⊎ ((o + size ≤ p) ⊎ (p + other ≤ o))
AreApart at size where_else other = Unit {0}
