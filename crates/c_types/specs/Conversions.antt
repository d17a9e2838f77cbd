-- Which values convert to which types, which may be compared, and what a conditional gives (C11 6.3.2.3, 6.5.4, 6.5.9,
-- 6.5.15, 6.5.16.1), as far as the profile has them: no conversion between integers and pointers but that of a null
-- pointer constant, and between pointers only where the types are one, or one points to void, or under a cast to a
-- character type. `null` says whether a value is a null pointer constant.
use Rattle.std.specs.Prelude.{Bool, ◌&&◌, ◌||◌, if◌then◌else◌, Option, Some, None}
use Rattle.layouts.specs.declared.int_type.IntType.{IntType}
use Rattle.c_types.specs.declared.ctype.CType.{CType}
use Rattle.c_types.specs.declared.ctype.CType.TheVariants as types
use Rattle.c_types.specs.Arithmetic.{arithmetic_type}
use Rattle.c_types.specs.CType.{is_integer, is_pointer, is_void_pointer, is_character_pointer, is_record, is_void}
use Rattle.c_types.specs.CType.{same_type}

-- two integers
abbrev pub are_integers : CType → CType → Bool
are_integers one other = is_integer one && is_integer other

-- two pointers
abbrev pub are_pointers : CType → CType → Bool
are_pointers one other = is_pointer one && is_pointer other

-- two pointers to one type, or two of which one points to void (C11 6.3.2.3p1)
abbrev pub are_like_pointers : CType → CType → Bool
are_like_pointers one other =
    are_pointers one other && (same_type one other || (is_void_pointer one || is_void_pointer other))

-- two values of one struct or union
abbrev pub are_one_record : CType → CType → Bool
are_one_record one other = is_record one && same_type one other

-- a value converts without a cast, as by assignment (C11 6.5.16.1p1)
abbrev pub converts : Bool → CType → CType → Bool
converts null from to =
    are_integers from to || (are_one_record from to || (are_like_pointers from to || (null && is_pointer to)))

-- two pointers of which one points to a character type (C11 6.3.2.3p7)
abbrev pub are_cast_pointers : CType → CType → Bool
are_cast_pointers one other = are_pointers one other && (is_character_pointer one || is_character_pointer other)

-- a value converts by a cast: to void whatever it is, else a scalar to a scalar (C11 6.5.4p2)
abbrev pub casts : Bool → CType → CType → Bool
casts null from to =
    is_void to
    || (are_integers from to
    || (are_like_pointers from to || (are_cast_pointers from to || (null && is_pointer to))))

-- two values may be compared by `==` and `!=` (C11 6.5.9p2)
abbrev pub are_comparable : Bool → CType → Bool → CType → Bool
are_comparable null left other_null right =
    are_integers left right
    || (are_like_pointers left right || ((null && is_pointer right) || (other_null && is_pointer left)))

-- The type of a conditional whose branches are no integers: that of both where it is one; beside a null pointer
-- constant that of the other, a pointer; of two pointers of which one points to void that of a pointer to void (C11
-- 6.5.15p6).
abbrev pub joined_type : Bool → CType → Bool → CType → Option CType
joined_type null then_type other_null else_type =
    if same_type then_type else_type then Some then_type
    else (if null && is_pointer else_type then Some else_type
    else (if other_null && is_pointer then_type then Some then_type
    else (if are_like_pointers then_type else_type then Some (types.Pointer types.Void) else None)))

-- an integer type where there is one, else another
abbrev pub integer_or : Option IntType → Option CType → Option CType
integer_or (Some t) other = Some (types.Integer t)
integer_or None other = other

-- the type of a conditional by those of its branches, none where they don't go together (C11 6.5.15p3 to p6)
abbrev pub conditional_type : Bool → CType → Bool → CType → Option CType
conditional_type null then_type other_null else_type =
    integer_or (arithmetic_type then_type else_type) (joined_type null then_type other_null else_type)
