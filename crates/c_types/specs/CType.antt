-- The kinds of C types, which types are one, and the type of the value that an object of a type holds (C11 6.2.5,
-- 6.2.7, 6.3.2.1).
use Rattle.std.specs.Prelude.{Bool, true, false, ◌&&◌, ◌||◌, ◌==◌, Option, Some, None, is_some}
use Rattle.std.specs.Option.{option_map_or}
use Rattle.layouts.specs.declared.int_type.IntType.{IntType}
use Rattle.layouts.specs.declared.int_type.IntType.TheVariants as ints
use Rattle.c_types.specs.declared.ctype.CType.{CType, out-CType}
use Rattle.c_types.specs.declared.ctype.CType.TheFolds.{fold-CType}
use Rattle.c_types.specs.declared.ctype.CType.TheOpen.{CType-F}
use Rattle.c_types.specs.declared.ctype.CType.TheVariants as types

-- the integer types, `_Bool` included (C11 6.2.5p17)
abbrev pub is_integer : CType → Bool
is_integer types.Bool = true
is_integer (types.Integer t) = true
is_integer _ = false

-- the character types (C11 6.2.5p15)
abbrev pub is_character : CType → Bool
is_character (types.Integer ints.Char) = true
is_character (types.Integer ints.SChar) = true
is_character (types.Integer ints.UChar) = true
is_character _ = false

-- structs and unions (C11 6.2.5p20)
abbrev pub is_record : CType → Bool
is_record (types.Record number) = true
is_record _ = false

-- void (C11 6.2.5p19)
abbrev pub is_void : CType → Bool
is_void types.Void = true
is_void _ = false

-- what one layer of a pointer points to
abbrev pub pointee_of : CType-F CType → Option CType
pointee_of (CType-F.Pointer to) = Some to
pointee_of _ = None

-- what a pointer points to, none where the type is no pointer (C11 6.2.5p20)
abbrev pub pointee : CType → Option CType
pointee t = pointee_of (out-CType t)

-- pointers to whatever type
abbrev pub is_pointer : CType → Bool
is_pointer t = is_some (pointee t)

-- pointers to void
abbrev pub is_void_pointer : CType → Bool
is_void_pointer t = option_map_or is_void (pointee t) false

-- pointers to a character type
abbrev pub is_character_pointer : CType → Bool
is_character_pointer t = option_map_or is_character (pointee t) false

-- the scalar types: integers and pointers (C11 6.2.5p21)
abbrev pub is_scalar : CType → Bool
is_scalar t = is_integer t || is_pointer t

-- the value of an object of a type, by one layer of the type
abbrev pub value_type_by : CType → CType-F CType → CType
value_type_by t CType-F.AtomicBool = types.Bool
value_type_by t (CType-F.Array element length) = types.Pointer element
value_type_by t _ = t

-- The type of the value of an object of the type: an array becomes a pointer to its first element (C11 6.3.2.1p3), and
-- an `atomic_bool` gives a `_Bool` (C11 6.3.2.1p2).
abbrev pub value_type : CType → CType
value_type t = value_type_by t (out-CType t)

-- two integer types are one: types that lie alike in memory may still be two (C11 6.2.5p14)
abbrev pub same_int : IntType → IntType → Bool
same_int ints.Char ints.Char = true
same_int ints.SChar ints.SChar = true
same_int ints.UChar ints.UChar = true
same_int ints.Short ints.Short = true
same_int ints.UShort ints.UShort = true
same_int ints.Int ints.Int = true
same_int ints.UInt ints.UInt = true
same_int ints.Long ints.Long = true
same_int ints.ULong ints.ULong = true
same_int ints.LLong ints.LLong = true
same_int ints.ULLong ints.ULLong = true
same_int _ _ = false

-- one layer of two types is one: each part of the first says which types it is one with
abbrev pub same_layer : CType-F (CType → Bool) → CType-F CType → Bool
same_layer CType-F.Void CType-F.Void = true
same_layer CType-F.Bool CType-F.Bool = true
same_layer CType-F.AtomicBool CType-F.AtomicBool = true
same_layer (CType-F.Integer t) (CType-F.Integer u) = same_int t u
same_layer (CType-F.Pointer is_to) (CType-F.Pointer to) = is_to to
same_layer (CType-F.Array is_element length) (CType-F.Array element other) = (length == other) && is_element element
same_layer (CType-F.Record number) (CType-F.Record other) = number == other
same_layer _ _ = false

-- two types are one; two structs or unions are one where one declaration of a tag declares them (C11 6.2.7p1)
abbrev pub same_type : CType → CType → Bool
same_type = fold-CType (CType → Bool) (λ layer other. same_layer layer (out-CType other))
