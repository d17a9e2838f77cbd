-- Which bytes of memory a step touches (this project's own).
use Rattle.std.specs.Prelude.{ℕ, ◌≡◌, ◌<◌, ℤ, pos, ◌≤ℤ◌, ◌<ℤ◌, ◌+ℤ◌, Bool, true, false, List, [], ◌∷◌, ◌++◌, map}
use Rattle.std.specs.Prelude.{◌⊎◌, IsTrue, Option, Some, None}
use Rattle.layouts.specs.declared.table.Declaration.{Declaration}
use Rattle.layouts.specs.Table.{bytes_of}
use Rattle.rc_terms.specs.declared.location.Loc.{Loc}
use Rattle.rc_terms.specs.declared.location.Loc.TheVariants.{Null, At}
use Rattle.rc_terms.specs.declared.byte.MByte.{MByte}
use Rattle.byte_memory.specs.declared.memory.Memory.{Memory}
use Rattle.byte_memory.specs.Memory.{length_at}
use Rattle.caesium_ir.specs.declared.operation.Op.{Op}
use Rattle.caesium_ir.specs.declared.operation.Op.TheVariants.{Load, LoadAtomic, Store, StoreAtomic, Cas, Exchange}
use Rattle.caesium_ir.specs.declared.block.End.{End}
use Rattle.caesium_ir.specs.declared.block.End.TheVariants.{Return}
use Rattle.caesium_ir.specs.declared.program.Program.{Program}
use Rattle.thread_steps.specs.declared.access.Touched.{Touched}
use Rattle.thread_steps.specs.declared.access.Touched.TheVariants.{Range, Block}
use Rattle.thread_steps.specs.declared.access.Access.{Access}
use Rattle.thread_steps.specs.declared.frame.Frame.{Frame}
use Rattle.thread_steps.specs.declared.thread.Thread.{Thread}
use Rattle.thread_steps.specs.declared.thread.Thread.TheVariants.{Running, Finished}
use Rattle.thread_steps.specs.Frame.{operands_on}
use Rattle.thread_steps.specs.Operands.{pointer_of}
use Rattle.thread_steps.specs.Operations.{operand_count}
use Rattle.thread_steps.specs.Next.{NextOf, Runs, Ends, next_of}

-- the byte at this offset of this block is one of these: so many from a location on, or all of a block
abbrev pub IsIn : Memory → Touched → ℕ → ℕ → Type 0
IsIn memory (Range Null size) block offset = ⊥
IsIn memory (Range (At of start) size) block offset =
    (of ≡ block) × (start ≤ℤ pos offset) × (pos offset <ℤ (start +ℤ pos size))
IsIn memory (Block of) block offset = (of ≡ block) × (offset < length_at memory block)

-- an access to so many bytes at a pointer, written or not, atomically or not
abbrev pub access_at : ℕ → Bool → Bool → Option Loc → List Access
access_at size writes atomic None = []
access_at size writes atomic (Some at) = record { bytes = Range at size; writes = writes; atomic = atomic } ∷ []

-- what an operation on these operands touches; what is no pointer points to nothing
abbrev pub op_accesses : List Declaration → Op → List (List MByte) → List Access
op_accesses table (Load layout) (at ∷ []) = access_at (bytes_of table layout) false false (pointer_of at)
op_accesses table LoadAtomic (at ∷ []) = access_at 1 false true (pointer_of at)
op_accesses table (Store layout) (at ∷ value ∷ []) = access_at (bytes_of table layout) true false (pointer_of at)
op_accesses table StoreAtomic (at ∷ value ∷ []) = access_at 1 true true (pointer_of at)
op_accesses table Exchange (at ∷ value ∷ []) = access_at 1 true true (pointer_of at)
op_accesses table Cas (object ∷ expected ∷ desired ∷ []) =
    access_at 1 true true (pointer_of object) ++ access_at 1 true false (pointer_of expected)
op_accesses table op operands = []

-- every byte of a block is written
abbrev pub closes : ℕ → Access
closes block = record { bytes = Block block; writes = true; atomic = false }

-- what the end of a block touches: a `return` all bytes of the blocks that it closes
abbrev pub end_accesses : End → Frame → List Access
end_accesses Return frame = map closes frame.locals
end_accesses end frame = []

-- what the next operation or end of a frame touches
abbrev pub next_accesses : List Declaration → Option NextOf → Frame → List Access
next_accesses table None frame = []
next_accesses table (Some (Runs function op)) frame = op_accesses table op (operands_on (operand_count op) frame)
next_accesses table (Some (Ends function end)) frame = end_accesses end frame

-- what the next step of a thread touches: nothing where it has none, and where it is stuck, what it would have
abbrev pub accesses_of : Program → Thread → List Access
accesses_of program (Running top callers) = next_accesses program.table (next_of program top) top
accesses_of program (Finished value) = []

-- one of the accesses writes the byte at this offset of this block
abbrev pub IsWritten : Memory → List Access → ℕ → ℕ → Type 0
IsWritten memory [] block offset = ⊥
IsWritten memory (access ∷ accesses) block offset =
    (IsTrue access.writes × IsIn memory access.bytes block offset) ⊎ IsWritten memory accesses block offset
