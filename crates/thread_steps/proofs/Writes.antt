-- A step changes no byte of an old block but those that its accesses write.
use Rattle.std.proofs.Common.{◌≡◌, ◌≢◌, ℕ, zero, suc, ◌+◌, ◌<◌, ◌≤◌, ◌⊎◌, inl, inr, Bool, true, false, List, [], ◌∷◌, ◌++◌, length, refl, ap, sym, ◌∙◌, subst, take, drop, map, arith}
use Rattle.std.proofs.Common.{ℤ, pos, negsuc, ◌≤ℤ◌, ◌<ℤ◌, ◌+ℤ◌}
use Rattle.std.specs.Prelude.{Option, Some, None, Result, Ok, Err, IsTrue, if◌then◌else◌, ◌==◌, replicate}
use Rattle.std.specs.Prelude.{slice_get, slice_set, slice_index_or, option_and_then, option_map, unwrap_or}
use Rattle.std.proofs.lemmas.Int.{ints}
use Rattle.std.proofs.lemmas.Bool.Decides.{Decides-eqb, eqb_tells}
use Rattle.layouts.specs.declared.layout.Layout.{Layout}
use Rattle.layouts.specs.declared.layout.Layout.TheVariants as layouts
use Rattle.layouts.specs.declared.table.Declaration.{Declaration}
use Rattle.layouts.specs.Table.{bytes_of, align_of}
use Rattle.rc_terms.specs.declared.location.Loc.{Loc}
use Rattle.rc_terms.specs.declared.location.Loc.TheVariants as locations
use Rattle.rc_terms.specs.declared.byte.MByte.{MByte}
use Rattle.rc_terms.specs.declared.byte.MByte.TheVariants as bytes
use Rattle.byte_memory.specs.declared.block.Block.{Block}
use Rattle.byte_memory.specs.declared.block.Block.TheVariants.{Open, Closed}
use Rattle.byte_memory.specs.declared.fault.MemoryUb.{MemoryUb}
use Rattle.byte_memory.specs.Memory.{byte_at, bytes_at, live_bytes, length_at, block_length, fault_of, range_of, stored, opened, closed, IsBeside, overwritten}
use Rattle.byte_memory.proofs.MemoryLemmas.{slice_get-set_same, slice_get-set_other, slice_get-append_left, Reaches, reached, closed_length, closed_dead}
use Rattle.caesium_ir.specs.declared.operation.Op.{Op}
use Rattle.caesium_ir.specs.declared.operation.Op.TheVariants.{Const, ConstBool, Null, Poison, Local, Field, Index}
use Rattle.caesium_ir.specs.declared.operation.Op.TheVariants.{Load, LoadAtomic, Store, StoreAtomic, Neg, Compl}
use Rattle.caesium_ir.specs.declared.operation.Op.TheVariants.{Binary, Shl, Shr, Cast, PtrEq, PtrNe, Cas, Exchange}
use Rattle.caesium_ir.specs.declared.operation.Op.TheVariants.{Call, Fork, Drop}
use Rattle.caesium_ir.specs.declared.block.End.{End}
use Rattle.caesium_ir.specs.declared.block.End.TheVariants.{Goto, If, Switch, Return}
use Rattle.caesium_ir.specs.declared.function.Local.{Local as LocalOf}
use Rattle.caesium_ir.specs.declared.function.Function.{Function}
use Rattle.caesium_ir.specs.declared.program.Program.{Program}
use Rattle.caesium_ir.specs.Function.{function_named}
use Rattle.thread_steps.specs.declared.answer.Ub.{Ub}
use Rattle.thread_steps.specs.declared.access.Access.{Access}
use Rattle.thread_steps.specs.declared.access.Touched.TheVariants.{Range, Block as Whole}
use Rattle.thread_steps.specs.declared.frame.Frame.{Frame}
use Rattle.thread_steps.specs.declared.thread.Thread.{Thread}
use Rattle.thread_steps.specs.declared.thread.Thread.TheVariants.{Running, Finished}
use Rattle.thread_steps.specs.Operands.{and_then, or_poison, pointer, pointer_of, boolean, sized}
use Rattle.thread_steps.specs.Operations.{Made, pushes, or_fault, load_at, store_at, store, exchange, compared, cas_at, cas}
use Rattle.thread_steps.specs.Operations.{operand_count, result_of}
use Rattle.thread_steps.specs.Access.{IsIn, access_at, op_accesses, end_accesses, closes, next_accesses, accesses_of, IsWritten}
use Rattle.thread_steps.specs.Calls.{Entered, enter, entering, are_arguments, with_arguments, with_locals, without_blocks}
use Rattle.thread_steps.specs.Frame.{operands_on}
use Rattle.thread_steps.specs.Next.{NextOf, Runs, Ends, next_of}
use Rattle.thread_steps.specs.Step.{After, address, step_plain, step_op, step_end, step_next, step_of, Step, entered_on, goes_to, condition, selector, handed_on}
use Rattle.thread_steps.proofs.Bytes.{stored_keeps, opened_keeps, opened_length, argument_keeps, argument_length, closed_keeps, closed_lengths}

-- what a judgement gave, and what came of it
pub ok_of : {A B : Type 0} (r : Result A Ub) (f : A → Result B Ub) (b : B) → and_then r f ≡ Ok b →
    (a : A) × (r ≡ Ok a) × (f a ≡ Ok b)
ok_of (Ok a) f b h = (a, refl, h)
ok_of (Err ub) f b h = cc

pub same_ok : {A : Type 0} (a b : A) → ◌≡◌ {A = Result A Ub} (Ok a) (Ok b) → a ≡ b
same_ok a b h = cc

no_fault : {A : Type 0} (fault : Option MemoryUb) (value found : A) → or_fault fault value ≡ Ok found →
    (fault ≡ None) × (value ≡ found)
no_fault None value found h = (refl, same_ok value found h)
no_fault (Some fault) value found h = cc

is_pointer : (o : Option Loc) (at : Loc) → or_poison o ≡ Ok at → o ≡ Some at
is_pointer None at h = cc
is_pointer (Some other) at h = ap Some (same_ok other at h)

is_sized : (b : Bool) (value found : List MByte) (fail : Ub) → (if b then Ok value else Err fail) ≡ Ok found →
    (b ≡ true) × (value ≡ found)
is_sized true value found fail h = (refl, same_ok value found h)
is_sized false value found fail h = cc

-- what pushes a value leaves the memory as it is
abbrev Keeps : List Block → List Block → ℕ → ℕ → Type 0
Keeps old new block offset = byte_at new block offset ≡ byte_at old block offset

kept : (memory : List Block) (r : Result (List MByte) Ub) (made : Made) (block offset : ℕ) →
    pushes memory r ≡ Ok made → Keeps memory made.memory block offset
kept memory r made block offset result =
    let (value, is, gives) = ok_of r _ made result in
    let same = same_ok _ made gives in
    ap (λ (m : Made). byte_at m.memory block offset) (sym same)

dropped : (memory : List Block) (pushed : Option (List MByte)) (made : Made) (block offset : ℕ) →
    ◌≡◌ {A = Result Made Ub} (Ok (record { value = pushed; memory = memory })) (Ok made) →
    Keeps memory made.memory block offset
dropped memory pushed made block offset result =
    ap (λ (m : Made). byte_at m.memory block offset) (sym (same_ok _ made result))

-- a store at a location whose bytes no access writes
put_keeps : (memory : List Block) (at : Loc) (value : List MByte) (size align : ℕ) (made : Made) (pushed : Option (List MByte))
    (block offset : ℕ) → length value ≡ size → fault_of memory at size align ≡ None →
    (record { value = pushed; memory = stored memory at value }) ≡ made → (IsIn memory (Range at size) block offset → ⊥) →
    Keeps memory made.memory block offset
put_keeps memory at value size align made pushed block offset long defined is free =
    let fits = subst (λ n. fault_of memory at n align ≡ None) (sym long) defined in
    let beside = subst (λ n. IsIn memory (Range at n) block offset → ⊥) (sym long) free in
    ap (λ (m : Made). byte_at m.memory block offset) (sym is)
    ∙ stored_keeps memory at value align block offset fits beside

first_free : (memory : List Block) (size : ℕ) (atomic : Bool) (o : Option Loc) (at : Loc) (more : List Access)
    (block offset : ℕ) → o ≡ Some at →
    (IsWritten memory (access_at size true atomic o ++ more) block offset → ⊥) →
    IsIn memory (Range at size) block offset → ⊥
first_free memory size atomic o at more block offset is free here =
    let found = subst (λ (p : Option Loc). IsWritten memory (access_at size true atomic p ++ more) block offset → ⊥) is free in
    found (inl (refl, here))

second_free : (memory : List Block) (size : ℕ) (atomic : Bool) (o : Option Loc) (more : List Access) (block offset : ℕ) →
    (IsWritten memory (access_at size true atomic o ++ more) block offset → ⊥) →
    IsWritten memory more block offset → ⊥
second_free memory size atomic None more block offset free here = free here
second_free memory size atomic (Some at) more block offset free here = free (inr here)

only_free : (memory : List Block) (size : ℕ) (atomic : Bool) (o : Option Loc) (at : Loc) (block offset : ℕ) → o ≡ Some at →
    (IsWritten memory (access_at size true atomic o) block offset → ⊥) → IsIn memory (Range at size) block offset → ⊥
only_free memory size atomic o at block offset is free here =
    let found = subst (λ (p : Option Loc). IsWritten memory (access_at size true atomic p) block offset → ⊥) is free in
    found (inl (refl, here))

store_keeps : (table : List Declaration) (layout : Layout) (atomic : Bool) (a b : List MByte) (memory : List Block)
    (made : Made) (block offset : ℕ) → store table layout a b memory ≡ Ok made →
    (IsWritten memory (access_at (bytes_of table layout) true atomic (pointer_of a)) block offset → ⊥) →
    Keeps memory made.memory block offset
store_keeps table layout atomic a b memory made block offset result free =
    let (at, at_is, rest) = ok_of (pointer a) _ made result in
    let (value, value_is, last) = ok_of (sized (bytes_of table layout) b) _ made rest in
    let size = is_sized (length b == bytes_of table layout) b value _ value_is in
    let long : length b ≡ bytes_of table layout = (Decides-eqb (length b) (bytes_of table layout)).0 size.0 in
    let value_long : length value ≡ bytes_of table layout = sym (ap length size.1) ∙ long in
    let done = no_fault (fault_of memory at (bytes_of table layout) (align_of table layout)) _ made last in
    put_keeps memory at value (bytes_of table layout) (align_of table layout) made _ block offset value_long done.0 done.1
    (only_free memory (bytes_of table layout) atomic (pointer_of a) at block offset (is_pointer (pointer_of a) at at_is) free)

exchange_keeps : (table : List Declaration) (a b : List MByte) (memory : List Block) (made : Made) (block offset : ℕ) →
    exchange table a b memory ≡ Ok made →
    (IsWritten memory (access_at 1 true true (pointer_of a)) block offset → ⊥) → Keeps memory made.memory block offset
exchange_keeps table a b memory made block offset result free =
    let (at, at_is, rest) = ok_of (pointer a) _ made result in
    let (value, value_is, more) = ok_of (sized 1 b) _ made rest in
    let (old, old_is, last) = ok_of (load_at table layouts.Bool at memory) _ made more in
    let size = is_sized (length b == 1) b value _ value_is in
    let long : length b ≡ 1 = (Decides-eqb (length b) 1).0 size.0 in
    let value_long : length value ≡ 1 = sym (ap length size.1) ∙ long in
    let done = no_fault (fault_of memory at 1 1) _ made last in
    put_keeps memory at value 1 1 made _ block offset value_long done.0 done.1
    (only_free memory 1 true (pointer_of a) at block offset (is_pointer (pointer_of a) at at_is) free)

-- the byte of a bool
one_byte : (bytes : List MByte) (b : Bool) → boolean bytes ≡ Ok b → length bytes ≡ 1
one_byte [] b h = cc
one_byte (bytes.Byte n ∷ []) b h = refl
one_byte (bytes.Frag at n ∷ []) b h = cc
one_byte (bytes.Poison ∷ []) b h = cc
one_byte (bytes.Byte n ∷ (second ∷ more)) b h = cc
one_byte (bytes.Frag at n ∷ (second ∷ more)) b h = cc
one_byte (bytes.Poison ∷ (second ∷ more)) b h = cc

compared_keeps : (is wanted : Bool) (object expected : Loc) (desired actual : List MByte) (memory : List Block) (made : Made)
    (block offset : ℕ) → compared is wanted object expected desired actual memory ≡ made →
    length desired ≡ 1 → length actual ≡ 1 → fault_of memory object 1 1 ≡ None → fault_of memory expected 1 1 ≡ None →
    (IsIn memory (Range object 1) block offset → ⊥) → (IsIn memory (Range expected 1) block offset → ⊥) →
    Keeps memory made.memory block offset
compared_keeps true true object expected desired actual memory made block offset is d a at other free free_other =
    put_keeps memory object desired 1 1 made _ block offset d at is free
compared_keeps false false object expected desired actual memory made block offset is d a at other free free_other =
    put_keeps memory object desired 1 1 made _ block offset d at is free
compared_keeps true false object expected desired actual memory made block offset is d a at other free free_other =
    put_keeps memory expected actual 1 1 made _ block offset a other is free_other
compared_keeps false true object expected desired actual memory made block offset is d a at other free free_other =
    put_keeps memory expected actual 1 1 made _ block offset a other is free_other

cas_keeps : (table : List Declaration) (a b c : List MByte) (memory : List Block) (made : Made) (block offset : ℕ) →
    cas table a b c memory ≡ Ok made →
    (IsWritten memory (access_at 1 true true (pointer_of a) ++ access_at 1 true false (pointer_of b)) block offset → ⊥) →
    Keeps memory made.memory block offset
cas_keeps table a b c memory made block offset result free =
    let (object, object_is, r1) = ok_of (pointer a) _ made result in
    let (expected, expected_is, r2) = ok_of (pointer b) _ made r1 in
    let (desired, desired_is, r3) = ok_of (sized 1 c) _ made r2 in
    let (actual, actual_is, r4) = ok_of (load_at table layouts.Bool object memory) _ made r3 in
    let (other, other_is, r5) = ok_of (load_at table layouts.Bool expected memory) _ made r4 in
    let (holds, holds_is, r6) = ok_of (boolean actual) _ made r5 in
    let (wanted, wanted_is, r7) = ok_of (boolean other) _ made r6 in
    let size = is_sized (length c == 1) c desired _ desired_is in
    let long : length desired ≡ 1 = sym (ap length size.1) ∙ (Decides-eqb (length c) 1).0 size.0 in
    let at = no_fault (fault_of memory object 1 1) _ actual actual_is in
    let there = no_fault (fault_of memory expected 1 1) _ other other_is in
    compared_keeps holds wanted object expected desired actual memory made block offset (same_ok _ made r7) long
    (one_byte actual holds holds_is) at.0 there.0
    (first_free memory 1 true (pointer_of a) object _ block offset (is_pointer (pointer_of a) object object_is) free)
    (only_free memory 1 false (pointer_of b) expected block offset (is_pointer (pointer_of b) expected expected_is)
    (second_free memory 1 true (pointer_of a) _ block offset free))

-- an operation
op_keeps : (table : List Declaration) (op : Op) (operands : List (List MByte)) (memory : List Block) (made : Made)
    (block offset : ℕ) → result_of table op operands memory ≡ Ok made →
    (IsWritten memory (op_accesses table op operands) block offset → ⊥) → Keeps memory made.memory block offset
op_keeps table (Const of value) [] memory made block offset result free = dropped memory _ made block offset result
op_keeps table (Const of value) (a ∷ more) memory made block offset result free = cc
op_keeps table (ConstBool value) [] memory made block offset result free = dropped memory _ made block offset result
op_keeps table (ConstBool value) (a ∷ more) memory made block offset result free = cc
op_keeps table Null [] memory made block offset result free = dropped memory _ made block offset result
op_keeps table Null (a ∷ more) memory made block offset result free = cc
op_keeps table (Poison size) [] memory made block offset result free = dropped memory _ made block offset result
op_keeps table (Poison size) (a ∷ more) memory made block offset result free = cc
op_keeps table (Field number member) [] memory made block offset result free = cc
op_keeps table (Field number member) (a ∷ []) memory made block offset result free = kept memory _ made block offset result
op_keeps table (Field number member) (a ∷ b ∷ more) memory made block offset result free = cc
op_keeps table (Load layout) [] memory made block offset result free = cc
op_keeps table (Load layout) (a ∷ []) memory made block offset result free = kept memory _ made block offset result
op_keeps table (Load layout) (a ∷ b ∷ more) memory made block offset result free = cc
op_keeps table LoadAtomic [] memory made block offset result free = cc
op_keeps table LoadAtomic (a ∷ []) memory made block offset result free = kept memory _ made block offset result
op_keeps table LoadAtomic (a ∷ b ∷ more) memory made block offset result free = cc
op_keeps table (Neg of) [] memory made block offset result free = cc
op_keeps table (Neg of) (a ∷ []) memory made block offset result free = kept memory _ made block offset result
op_keeps table (Neg of) (a ∷ b ∷ more) memory made block offset result free = cc
op_keeps table (Compl of) [] memory made block offset result free = cc
op_keeps table (Compl of) (a ∷ []) memory made block offset result free = kept memory _ made block offset result
op_keeps table (Compl of) (a ∷ b ∷ more) memory made block offset result free = cc
op_keeps table (Cast from to) [] memory made block offset result free = cc
op_keeps table (Cast from to) (a ∷ []) memory made block offset result free = kept memory _ made block offset result
op_keeps table (Cast from to) (a ∷ b ∷ more) memory made block offset result free = cc
op_keeps table Drop [] memory made block offset result free = cc
op_keeps table Drop (a ∷ []) memory made block offset result free = dropped memory _ made block offset result
op_keeps table Drop (a ∷ b ∷ more) memory made block offset result free = cc
op_keeps table (Index size of) [] memory made block offset result free = cc
op_keeps table (Index size of) (a ∷ []) memory made block offset result free = cc
op_keeps table (Index size of) (a ∷ b ∷ []) memory made block offset result free = kept memory _ made block offset result
op_keeps table (Index size of) (a ∷ b ∷ c ∷ more) memory made block offset result free = cc
op_keeps table (Binary operator of) [] memory made block offset result free = cc
op_keeps table (Binary operator of) (a ∷ []) memory made block offset result free = cc
op_keeps table (Binary operator of) (a ∷ b ∷ []) memory made block offset result free = kept memory _ made block offset result
op_keeps table (Binary operator of) (a ∷ b ∷ c ∷ more) memory made block offset result free = cc
op_keeps table (Shl of amount) [] memory made block offset result free = cc
op_keeps table (Shl of amount) (a ∷ []) memory made block offset result free = cc
op_keeps table (Shl of amount) (a ∷ b ∷ []) memory made block offset result free = kept memory _ made block offset result
op_keeps table (Shl of amount) (a ∷ b ∷ c ∷ more) memory made block offset result free = cc
op_keeps table (Shr of amount) [] memory made block offset result free = cc
op_keeps table (Shr of amount) (a ∷ []) memory made block offset result free = cc
op_keeps table (Shr of amount) (a ∷ b ∷ []) memory made block offset result free = kept memory _ made block offset result
op_keeps table (Shr of amount) (a ∷ b ∷ c ∷ more) memory made block offset result free = cc
op_keeps table PtrEq [] memory made block offset result free = cc
op_keeps table PtrEq (a ∷ []) memory made block offset result free = cc
op_keeps table PtrEq (a ∷ b ∷ []) memory made block offset result free = kept memory _ made block offset result
op_keeps table PtrEq (a ∷ b ∷ c ∷ more) memory made block offset result free = cc
op_keeps table PtrNe [] memory made block offset result free = cc
op_keeps table PtrNe (a ∷ []) memory made block offset result free = cc
op_keeps table PtrNe (a ∷ b ∷ []) memory made block offset result free = kept memory _ made block offset result
op_keeps table PtrNe (a ∷ b ∷ c ∷ more) memory made block offset result free = cc
op_keeps table (Store layout) [] memory made block offset result free = cc
op_keeps table (Store layout) (a ∷ []) memory made block offset result free = cc
op_keeps table (Store layout) (a ∷ b ∷ []) memory made block offset result free = store_keeps table layout false a b memory made block offset result free
op_keeps table (Store layout) (a ∷ b ∷ c ∷ more) memory made block offset result free = cc
op_keeps table StoreAtomic [] memory made block offset result free = cc
op_keeps table StoreAtomic (a ∷ []) memory made block offset result free = cc
op_keeps table StoreAtomic (a ∷ b ∷ []) memory made block offset result free = store_keeps table layouts.Bool true a b memory made block offset result free
op_keeps table StoreAtomic (a ∷ b ∷ c ∷ more) memory made block offset result free = cc
op_keeps table Exchange [] memory made block offset result free = cc
op_keeps table Exchange (a ∷ []) memory made block offset result free = cc
op_keeps table Exchange (a ∷ b ∷ []) memory made block offset result free = exchange_keeps table a b memory made block offset result free
op_keeps table Exchange (a ∷ b ∷ c ∷ more) memory made block offset result free = cc
op_keeps table Cas [] memory made block offset result free = cc
op_keeps table Cas (a ∷ []) memory made block offset result free = cc
op_keeps table Cas (a ∷ b ∷ []) memory made block offset result free = cc
op_keeps table Cas (a ∷ b ∷ c ∷ []) memory made block offset result free = cas_keeps table a b c memory made block offset result free
op_keeps table Cas (a ∷ b ∷ c ∷ d ∷ more) memory made block offset result free = cc
op_keeps table (Local number) operands memory made block offset result free = cc
op_keeps table (Call name arguments) operands memory made block offset result free = cc
op_keeps table (Fork name arguments) operands memory made block offset result free = cc

plain_keeps : (table : List Declaration) (op : Op) (frame : Frame) (callers : List Frame) (memory : List Block)
    (after : After) (block offset : ℕ) → step_plain table op frame callers memory ≡ Ok after →
    (IsWritten memory (op_accesses table op (operands_on (operand_count op) frame)) block offset → ⊥) →
    Keeps memory after.memory block offset
plain_keeps table op frame callers memory after block offset step free =
    let operands = operands_on (operand_count op) frame in
    let (made, is, gives) = ok_of (result_of table op operands memory) _ after step in
    ap (λ (a : After). byte_at a.memory block offset) (sym (same_ok _ after gives))
    ∙ op_keeps table op operands memory made block offset is free

-- a call, whose blocks are new
locals_keep : (table : List Declaration) (locals : List LocalOf) (memory : List Block) (block offset : ℕ) →
    block < length memory → Keeps memory (with_locals table locals memory) block offset
locals_keep table [] memory block offset old = refl
locals_keep table (local ∷ locals) memory block offset old =
    let size = bytes_of table local.layout in
    let long = opened_length memory size in
    locals_keep table locals (opened memory size) block offset (omega arith) ∙ opened_keeps memory size block offset old

arguments_keep : (table : List Declaration) (parameters : List LocalOf) (arguments : List (List MByte))
    (memory : List Block) (block offset : ℕ) → block < length memory →
    Keeps memory (with_arguments table parameters arguments memory) block offset
    × (block < length (with_arguments table parameters arguments memory))
arguments_keep table [] [] memory block offset old = (refl, old)
arguments_keep table [] (argument ∷ arguments) memory block offset old = (refl, old)
arguments_keep table (parameter ∷ parameters) [] memory block offset old = (refl, old)
arguments_keep table (parameter ∷ parameters) (argument ∷ arguments) memory block offset old =
    let size = bytes_of table parameter.layout in
    let next = stored (opened memory size) (locations.At (length memory) (pos 0)) argument in
    let long = argument_length memory size argument in
    let more = arguments_keep table parameters arguments next block offset (omega arith) in
    (more.0 ∙ argument_keeps memory size block offset argument old, more.1)

chosen : {A : Type 0} (b : Bool) (value found : A) (fail : Ub) → (if b then Ok value else Err fail) ≡ Ok found →
    value ≡ found
chosen true value found fail h = same_ok value found h
chosen false value found fail h = cc

enter_keeps : (table : List Declaration) (name : List ℕ) (function : Option Function) (arguments : List (List MByte))
    (memory : List Block) (made : Entered) (block offset : ℕ) → block < length memory →
    enter table name function arguments memory ≡ Ok made → Keeps memory made.memory block offset
enter_keeps table name None arguments memory made block offset old is = cc
enter_keeps table name (Some function) arguments memory made block offset old is =
    let fit = are_arguments table function.parameters arguments in
    let same = chosen fit (entering table name function arguments memory) made _ is in
    let first = arguments_keep table function.parameters arguments memory block offset old in
    let middle = with_arguments table function.parameters arguments memory in
    ap (λ (e : Entered). byte_at e.memory block offset) (sym same)
    ∙ locals_keep table function.locals middle block offset first.1 ∙ first.0

entered_keeps : (program : Program) (name : List ℕ) (count : ℕ) (frame : Frame) (memory : List Block) (after : After)
    (block offset : ℕ) (make : Entered → After) → ((e : Entered) → (make e).memory ≡ e.memory) → block < length memory →
    and_then (entered_on program name count frame memory) (λ made. Ok (make made)) ≡ Ok after →
    Keeps memory after.memory block offset
entered_keeps program name count frame memory after block offset make same old step =
    let (made, is, gives) = ok_of (entered_on program name count frame memory) _ after step in
    let found = function_named program.functions name in
    ap (λ (a : After). byte_at a.memory block offset) (sym (same_ok _ after gives))
    ∙ ap (λ m. byte_at m block offset) (same made)
    ∙ enter_keeps program.table name found (operands_on count frame) memory made block offset old is

step_op_keeps : (program : Program) (op : Op) (frame : Frame) (callers : List Frame) (memory : List Block) (after : After)
    (block offset : ℕ) → block < length memory → step_op program op frame callers memory ≡ Ok after →
    (IsWritten memory (op_accesses program.table op (operands_on (operand_count op) frame)) block offset → ⊥) →
    Keeps memory after.memory block offset
step_op_keeps program (Const of value) frame callers memory after block offset old step free =
    plain_keeps program.table (Const of value) frame callers memory after block offset step free
step_op_keeps program (ConstBool value) frame callers memory after block offset old step free =
    plain_keeps program.table (ConstBool value) frame callers memory after block offset step free
step_op_keeps program Null frame callers memory after block offset old step free =
    plain_keeps program.table Null frame callers memory after block offset step free
step_op_keeps program (Poison size) frame callers memory after block offset old step free =
    plain_keeps program.table (Poison size) frame callers memory after block offset step free
step_op_keeps program (Field number member) frame callers memory after block offset old step free =
    plain_keeps program.table (Field number member) frame callers memory after block offset step free
step_op_keeps program (Load layout) frame callers memory after block offset old step free =
    plain_keeps program.table (Load layout) frame callers memory after block offset step free
step_op_keeps program LoadAtomic frame callers memory after block offset old step free =
    plain_keeps program.table LoadAtomic frame callers memory after block offset step free
step_op_keeps program (Neg of) frame callers memory after block offset old step free =
    plain_keeps program.table (Neg of) frame callers memory after block offset step free
step_op_keeps program (Compl of) frame callers memory after block offset old step free =
    plain_keeps program.table (Compl of) frame callers memory after block offset step free
step_op_keeps program (Cast from to) frame callers memory after block offset old step free =
    plain_keeps program.table (Cast from to) frame callers memory after block offset step free
step_op_keeps program (Index size of) frame callers memory after block offset old step free =
    plain_keeps program.table (Index size of) frame callers memory after block offset step free
step_op_keeps program (Binary operator of) frame callers memory after block offset old step free =
    plain_keeps program.table (Binary operator of) frame callers memory after block offset step free
step_op_keeps program (Shl of amount) frame callers memory after block offset old step free =
    plain_keeps program.table (Shl of amount) frame callers memory after block offset step free
step_op_keeps program (Shr of amount) frame callers memory after block offset old step free =
    plain_keeps program.table (Shr of amount) frame callers memory after block offset step free
step_op_keeps program PtrEq frame callers memory after block offset old step free =
    plain_keeps program.table PtrEq frame callers memory after block offset step free
step_op_keeps program PtrNe frame callers memory after block offset old step free =
    plain_keeps program.table PtrNe frame callers memory after block offset step free
step_op_keeps program Drop frame callers memory after block offset old step free =
    plain_keeps program.table Drop frame callers memory after block offset step free
step_op_keeps program (Store layout) frame callers memory after block offset old step free =
    plain_keeps program.table (Store layout) frame callers memory after block offset step free
step_op_keeps program StoreAtomic frame callers memory after block offset old step free =
    plain_keeps program.table StoreAtomic frame callers memory after block offset step free
step_op_keeps program Exchange frame callers memory after block offset old step free =
    plain_keeps program.table Exchange frame callers memory after block offset step free
step_op_keeps program Cas frame callers memory after block offset old step free =
    plain_keeps program.table Cas frame callers memory after block offset step free
step_op_keeps program (Local number) frame callers memory after block offset old step free =
    let (made, is, gives) = ok_of (address (slice_get frame.locals number) memory) _ after step in
    let (found, found_is, pushed) = ok_of (or_poison (slice_get frame.locals number)) _ made is in
    ap (λ (a : After). byte_at a.memory block offset) (sym (same_ok _ after gives))
    ∙ ap (λ (m : Made). byte_at m.memory block offset) (sym (same_ok _ made pushed))
step_op_keeps program (Call name count) frame callers memory after block offset old step free =
    entered_keeps program name count frame memory after block offset _ (λ e. refl) old step
step_op_keeps program (Fork name count) frame callers memory after block offset old step free =
    entered_keeps program name count frame memory after block offset _ (λ e. refl) old step

-- the end of a block
blocks_keep : (blocks : List ℕ) (memory start : List Block) (block offset : ℕ) →
    ((n : ℕ) → length_at memory n ≡ length_at start n) →
    (IsWritten start (map closes blocks) block offset → ⊥) → Keeps memory (without_blocks blocks memory) block offset
blocks_keep [] memory start block offset lengths free = refl
blocks_keep (first ∷ blocks) memory start block offset lengths free =
    let here : IsIn memory (Whole first) block offset → ⊥ =
    λ h. free (inl (refl, (h.0, subst (λ n. offset < n) (lengths block) h.1))) in
    blocks_keep blocks (closed memory first) start block offset (λ n. closed_lengths memory first n ∙ lengths n)
    (λ h. free (inr h)) ∙ closed_keeps memory first block offset here

goes_keeps : {A : Type 0} (r : Result A Ub) (make : A → After) (memory : List Block) (after : After) (block offset : ℕ) →
    ((a : A) → (make a).memory ≡ memory) → and_then r (λ a. Ok (make a)) ≡ Ok after →
    Keeps memory after.memory block offset
goes_keeps r make memory after block offset same step =
    let (a, is, gives) = ok_of r _ after step in
    ap (λ (x : After). byte_at x.memory block offset) (sym (same_ok _ after gives))
    ∙ ap (λ m. byte_at m block offset) (same a)

end_keeps : (table : List Declaration) (function : Function) (end : End) (frame : Frame) (callers : List Frame)
    (memory : List Block) (after : After) (block offset : ℕ) →
    step_end table function end frame callers memory ≡ Ok after →
    (IsWritten memory (end_accesses end frame) block offset → ⊥) → Keeps memory after.memory block offset
end_keeps table function (Goto label) frame callers memory after block offset step free =
    ap (λ (x : After). byte_at x.memory block offset) (sym (same_ok _ after step))
end_keeps table function (If nonzero other) frame callers memory after block offset step free =
    goes_keeps (condition frame.row) _ memory after block offset (λ a. refl) step
end_keeps table function (Switch of cases otherwise) frame callers memory after block offset step free =
    goes_keeps (selector of frame.row) _ memory after block offset (λ a. refl) step
end_keeps table function Return frame callers memory after block offset step free =
    let (value, is, gives) = ok_of (handed_on table function.result frame.row) _ after step in
    ap (λ (x : After). byte_at x.memory block offset) (sym (same_ok _ after gives))
    ∙ blocks_keep frame.locals memory memory block offset (λ n. refl) free

next_keeps : (program : Program) (next : Option NextOf) (frame : Frame) (callers : List Frame) (memory : List Block)
    (after : After) (block offset : ℕ) → block < length memory →
    step_next program next frame callers memory ≡ Ok after →
    (IsWritten memory (next_accesses program.table next frame) block offset → ⊥) → Keeps memory after.memory block offset
next_keeps program None frame callers memory after block offset old step free = cc
next_keeps program (Some (Runs function op)) frame callers memory after block offset old step free =
    step_op_keeps program op frame callers memory after block offset old step free
next_keeps program (Some (Ends function end)) frame callers memory after block offset old step free =
    end_keeps program.table function end frame callers memory after block offset step free

pub step_keeps : (program : Program) (thread : Thread) (memory : List Block) (after : After) (block offset : ℕ) →
    Step program thread memory after → block < length memory →
    (IsWritten memory (accesses_of program thread) block offset → ⊥) → Keeps memory after.memory block offset
step_keeps program (Running top callers) memory after block offset step old free =
    next_keeps program (next_of program top) top callers memory after block offset old step free
step_keeps program (Finished value) memory after block offset step old free = absurd step
