-- What each operation makes of its operands and of memory (Caesium, RefinedC, PLDI 2021). It knows no row and no frame,
-- so that a semantics of structured C may use it, as CompCert's Clight uses its operators.
use Rattle.std.specs.Prelude.{ℕ, ◌==◌, Bool, true, false, not, ◌&&◌, ◌||◌, if◌then◌else◌, ℤ, pos, ◌*ℤ◌, int_lt}
use Rattle.std.specs.Prelude.{List, [], ◌∷◌, length, replicate, slice_get, slice_index_or, unwrap_or, is_some}
use Rattle.std.specs.Prelude.{Option, Some, None, Result, Ok, Err}
use Rattle.std.specs.Option.{option_map}
use Rattle.std.specs.Ordering.{int_eq}
use Rattle.layouts.specs.declared.int_type.IntType.{IntType}
use Rattle.layouts.specs.declared.int_type.IntType.TheVariants as int_types
use Rattle.layouts.specs.declared.layout.Layout.{Layout}
use Rattle.layouts.specs.declared.layout.Layout.TheVariants as layouts
use Rattle.layouts.specs.declared.operator.Operator.{Operator}
use Rattle.layouts.specs.declared.operator.Operator.TheVariants as operators
use Rattle.layouts.specs.declared.table.Declaration.{Declaration}
use Rattle.layouts.specs.Table.{bytes_of, align_of, declared_layout}
use Rattle.rc_terms.specs.declared.location.Loc.{Loc}
use Rattle.rc_terms.specs.declared.location.Loc.TheVariants as locations
use Rattle.int_ops.specs.declared.undefined.OpUb.{OpUb}
use Rattle.int_ops.specs.Arithmetic.{arithmetic, result_type, wrapped, truth}
use Rattle.rc_terms.specs.declared.byte.MByte.{MByte}
use Rattle.rc_terms.specs.declared.byte.MByte.TheVariants as bytes
use Rattle.byte_memory.specs.declared.fault.MemoryUb.{MemoryUb}
use Rattle.byte_memory.specs.declared.memory.Memory.{Memory}
use Rattle.byte_memory.specs.Encoding.{enc}
use Rattle.byte_memory.specs.Memory.{bytes_at, length_at, fault_of, range_of, stored}
use Rattle.byte_memory.specs.Values.{bool_bytes, ptr}
use Rattle.caesium_ir.specs.declared.operation.Op.{Op}
use Rattle.caesium_ir.specs.declared.operation.Op.TheVariants.{Const, ConstBool, Null, Poison, Local, Field, Index}
use Rattle.caesium_ir.specs.declared.operation.Op.TheVariants.{Load, LoadAtomic, Store, StoreAtomic, Neg, Compl}
use Rattle.caesium_ir.specs.declared.operation.Op.TheVariants.{Binary, Shl, Shr, Cast, PtrEq, PtrNe, Cas, Exchange}
use Rattle.caesium_ir.specs.declared.operation.Op.TheVariants.{Call, Fork, Drop}
use Rattle.caesium_ir.specs.declared.operation.Scalar.{Scalar}
use Rattle.caesium_ir.specs.declared.operation.Scalar.TheVariants as scalars
use Rattle.caesium_ir.specs.Operation.{operator_of}
use Rattle.thread_steps.specs.declared.answer.Ub.{Ub}
use Rattle.thread_steps.specs.declared.answer.Ub.TheVariants.{PoisonUsed, PtrCompare, Arithmetic, Access}
use Rattle.thread_steps.specs.Operands.{or_poison, and_then, same_location, pointer, integer, boolean, sized, moved}

-- how many operands an operation takes
abbrev pub operand_count : Op → ℕ
operand_count (Const of value) = 0
operand_count (ConstBool value) = 0
operand_count Null = 0
operand_count (Poison size) = 0
operand_count (Local number) = 0
operand_count (Field of member) = 1
operand_count (Index size of) = 2
operand_count (Load layout) = 1
operand_count LoadAtomic = 1
operand_count (Store layout) = 2
operand_count StoreAtomic = 2
operand_count (Neg of) = 1
operand_count (Compl of) = 1
operand_count (Binary operator of) = 2
operand_count (Shl of amount) = 2
operand_count (Shr of amount) = 2
operand_count (Cast from to) = 1
operand_count PtrEq = 2
operand_count PtrNe = 2
operand_count Cas = 3
operand_count Exchange = 2
operand_count (Call function arguments) = arguments
operand_count (Fork function arguments) = arguments
operand_count Drop = 1

-- the fragments of a location, where there is one
abbrev pub pointing : Result Loc Ub → Result (List MByte) Ub
pointing result = and_then result (λ at. Ok (ptr at))

-- the offset of a member of the struct or union with this number, which is 0 in a union
abbrev pub member_offset : List Declaration → ℕ → ℕ → ℕ
member_offset table number member =
    unwrap_or (option_map (λ (d : Declaration). slice_index_or (declared_layout table d).offsets member 0)
    (slice_get table number)) 0

-- `field s.i`: the pointer moved by the member's offset
abbrev pub field : List Declaration → ℕ → ℕ → List MByte → Memory → Result (List MByte) Ub
field table number member operand memory =
    and_then (pointer operand) (λ at. pointing (moved memory at (pos (member_offset table number member))))

-- `index k T`: the pointer moved by k times the number
abbrev pub index : ℕ → IntType → List MByte → List MByte → Memory → Result (List MByte) Ub
index size t operand number memory =
    and_then (pointer operand) (λ at. and_then (integer t number) (λ i. pointing (moved memory at (pos size *ℤ i))))

-- whether an access to so many bytes is defined, at an offset that the alignment is to divide
abbrev pub or_fault : {A : Type 0} → Option MemoryUb → A → Result A Ub
or_fault None value = Ok value
or_fault (Some fault) value = Err (Access fault)

-- the bytes of a layout at a location
abbrev pub load_at : List Declaration → Layout → Loc → Memory → Result (List MByte) Ub
load_at table layout at memory =
    or_fault (fault_of memory at (bytes_of table layout) (align_of table layout))
    (range_of memory at (bytes_of table layout))

-- `load L`, `load atomic bool`: the bytes at the pointer
abbrev pub load : List Declaration → Layout → List MByte → Memory → Result (List MByte) Ub
load table layout operand memory = and_then (pointer operand) (λ at. load_at table layout at memory)

-- what an operation makes: a value to push, where it pushes one, and the memory after it
pub record Made : Type 0 where
  pub value : Option (List MByte)
  pub memory : Memory

-- a value to push, where there is one, and this memory
abbrev pub pushes : Memory → Result (List MByte) Ub → Result Made Ub
pushes memory result = and_then result (λ value. Ok (record { value = Some value; memory = memory }))

-- the memory after a value of a layout was put at a location, and another value to push
abbrev pub store_at :
    List Declaration → Layout → Loc → List MByte → List MByte → Memory → Result Made Ub
store_at table layout at value result memory =
    or_fault (fault_of memory at (bytes_of table layout) (align_of table layout))
    (record { value = Some result; memory = stored memory at value })

-- `store L`, `store atomic bool`: the value is stored at the pointer, and pushed
abbrev pub store : List Declaration → Layout → List MByte → List MByte → Memory → Result Made Ub
store table layout operand value memory =
    and_then (pointer operand) (λ at. and_then (sized (bytes_of table layout) value)
    (λ value. store_at table layout at value value memory))

-- `exchange`: the bool is stored at the pointer, and the old one is pushed
abbrev pub exchange : List Declaration → List MByte → List MByte → Memory → Result Made Ub
exchange table operand value memory =
    and_then (pointer operand) (λ at. and_then (sized 1 value) (λ value. and_then (load_at table layouts.Bool at memory)
    (λ old. store_at table layouts.Bool at value old memory)))

-- where the two bools agree, the desired one in the object and true; else the object's in the expected place and false
abbrev pub compared : Bool → Bool → Loc → Loc → List MByte → List MByte → Memory → Made
compared true true object expected desired actual memory =
    record { value = Some (bool_bytes true); memory = stored memory object desired }
compared false false object expected desired actual memory =
    record { value = Some (bool_bytes true); memory = stored memory object desired }
compared is wanted object expected desired actual memory =
    record { value = Some (bool_bytes false); memory = stored memory expected actual }

-- the two loads of `cas`, and then its two bools
abbrev pub cas_at : List Declaration → Loc → Loc → List MByte → Memory → Result Made Ub
cas_at table object expected desired memory =
    and_then (load_at table layouts.Bool object memory) (λ actual.
    and_then (load_at table layouts.Bool expected memory) (λ other.
    and_then (boolean actual) (λ is. and_then (boolean other) (λ wanted.
    Ok (compared is wanted object expected desired actual memory)))))

-- `cas`: both pointers and the desired bool, then what they point to
abbrev pub cas : List Declaration → List MByte → List MByte → List MByte → Memory → Result Made Ub
cas table object expected desired memory =
    and_then (pointer object) (λ at. and_then (pointer expected) (λ other.
    and_then (sized 1 desired) (λ value. cas_at table at other value memory)))

-- the bytes of a number of the type; else the kind of arithmetic that is undefined
abbrev pub encoded : IntType → Result ℤ OpUb → Result (List MByte) Ub
encoded t (Ok n) = Ok (enc t n)
encoded t (Err ub) = Err (Arithmetic ub)

-- an operator on a number of the type
abbrev pub unary : Operator → IntType → List MByte → Result (List MByte) Ub
unary operator t operand =
    and_then (integer t operand) (λ a. encoded (result_type operator t) (arithmetic operator t a (pos 0)))

-- an operator on a number of one type and one of another
abbrev pub binary : Operator → IntType → IntType → List MByte → List MByte → Result (List MByte) Ub
binary operator t amount left right =
    and_then (integer t left) (λ a. and_then (integer amount right) (λ b.
    encoded (result_type operator t) (arithmetic operator t a b)))

-- the number that a value of a type that is converted is
abbrev pub scalar_value : Scalar → List MByte → Result ℤ Ub
scalar_value (scalars.Int t) operand = integer t operand
scalar_value scalars.Bool operand = and_then (boolean operand) (λ b. Ok (truth b))

-- the bytes of a number after its conversion (C11 6.3.1.2, 6.3.1.3)
abbrev pub converted : Scalar → ℤ → List MByte
converted (scalars.Int t) n = enc t (wrapped t n)
converted scalars.Bool n = bool_bytes (not (int_eq n (pos 0)))

-- `cast A B`
abbrev pub cast : Scalar → Scalar → List MByte → Result (List MByte) Ub
cast from to operand = and_then (scalar_value from operand) (λ n. Ok (converted to n))

-- whether the block is alive
abbrev pub alive : Memory → ℕ → Bool
alive memory block = is_some (bytes_at memory block)

-- whether two locations can be compared: a null one always; else both blocks are alive, and are one, or both offsets
-- are below their lengths
abbrev pub can_compare : Memory → Loc → Loc → Bool
can_compare memory (locations.At block offset) (locations.At other at) =
    alive memory block && alive memory other
    && ((block == other) || (int_lt offset (pos (length_at memory block)) && int_lt at (pos (length_at memory other))))
can_compare memory one other = true

-- whether two pointers are the same
abbrev pub same_pointers : List MByte → List MByte → Memory → Result Bool Ub
same_pointers left right memory =
    and_then (pointer left) (λ one. and_then (pointer right) (λ other.
    if can_compare memory one other then Ok (same_location one other) else Err PtrCompare))

-- `ptr_eq`
abbrev pub pointers_equal : List MByte → List MByte → Memory → Result (List MByte) Ub
pointers_equal left right memory =
    and_then (same_pointers left right memory) (λ same. Ok (enc int_types.Int (truth same)))

-- `ptr_ne`
abbrev pub pointers_differ : List MByte → List MByte → Memory → Result (List MByte) Ub
pointers_differ left right memory =
    and_then (same_pointers left right memory) (λ same. Ok (enc int_types.Int (truth (not same))))

-- the result of an operation on its operands, in the order in which they were pushed, or its kind of undefined
-- behaviour; a missing operand counts as poison, and what needs a frame or the program has no case here
abbrev pub result_of : List Declaration → Op → List (List MByte) → Memory → Result Made Ub
result_of table (Const of value) [] memory = pushes memory (Ok (enc of value))
result_of table (ConstBool value) [] memory = pushes memory (Ok (bool_bytes value))
result_of table Null [] memory = pushes memory (Ok (ptr locations.Null))
result_of table (Poison size) [] memory = pushes memory (Ok (replicate size bytes.Poison))
result_of table (Field number member) (at ∷ []) memory = pushes memory (field table number member at memory)
result_of table (Index size of) (at ∷ number ∷ []) memory = pushes memory (index size of at number memory)
result_of table (Load layout) (at ∷ []) memory = pushes memory (load table layout at memory)
result_of table LoadAtomic (at ∷ []) memory = pushes memory (load table layouts.Bool at memory)
result_of table (Store layout) (at ∷ value ∷ []) memory = store table layout at value memory
result_of table StoreAtomic (at ∷ value ∷ []) memory = store table layouts.Bool at value memory
result_of table (Neg of) (a ∷ []) memory = pushes memory (unary operators.Neg of a)
result_of table (Compl of) (a ∷ []) memory = pushes memory (unary operators.Compl of a)
result_of table (Binary operator of) (a ∷ b ∷ []) memory = pushes memory (binary (operator_of operator) of of a b)
result_of table (Shl of amount) (a ∷ b ∷ []) memory = pushes memory (binary operators.Shl of amount a b)
result_of table (Shr of amount) (a ∷ b ∷ []) memory = pushes memory (binary operators.Shr of amount a b)
result_of table (Cast from to) (a ∷ []) memory = pushes memory (cast from to a)
result_of table PtrEq (a ∷ b ∷ []) memory = pushes memory (pointers_equal a b memory)
result_of table PtrNe (a ∷ b ∷ []) memory = pushes memory (pointers_differ a b memory)
result_of table Cas (object ∷ expected ∷ desired ∷ []) memory = cas table object expected desired memory
result_of table Exchange (at ∷ value ∷ []) memory = exchange table at value memory
result_of table Drop (value ∷ []) memory = Ok (record { value = None; memory = memory })
result_of table op operands memory = Err PoisonUsed
