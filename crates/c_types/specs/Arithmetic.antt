-- The integer promotions and the usual arithmetic conversions (C11 6.3.1.1, 6.3.1.8).
use Rattle.std.specs.Prelude.{ℕ, Bool, ◌&&◌, if◌then◌else◌, Option, Some, None, nat_lt, nat_le, int_le}
use Rattle.layouts.specs.declared.int_type.IntType.{IntType}
use Rattle.layouts.specs.declared.int_type.IntType.TheVariants as ints
use Rattle.layouts.specs.IntType.{is_signed, least_of, greatest_of}
use Rattle.c_types.specs.declared.ctype.CType.{CType}
use Rattle.c_types.specs.declared.ctype.CType.TheVariants as types

-- the conversion rank, of which only the order counts (C11 6.3.1.1p1)
abbrev pub rank : IntType → ℕ
rank ints.Char = 1
rank ints.SChar = 1
rank ints.UChar = 1
rank ints.Short = 2
rank ints.UShort = 2
rank ints.Int = 3
rank ints.UInt = 3
rank ints.Long = 4
rank ints.ULong = 4
rank ints.LLong = 5
rank ints.ULLong = 5

-- the first type holds each number of the second
abbrev pub holds_all : IntType → IntType → Bool
holds_all wide narrow = int_le (least_of wide) (least_of narrow) && int_le (greatest_of narrow) (greatest_of wide)

-- the integer promotion: a type of lower rank than `int` becomes `int`, or `unsigned int` where `int` doesn't hold all
-- of its numbers (C11 6.3.1.1p2)
abbrev pub promoted : IntType → IntType
promoted t =
    if nat_lt (rank t) (rank ints.Int) then (if holds_all ints.Int t then ints.Int else ints.UInt) else t

-- the type without sign of the same rank (C11 6.2.5p6)
abbrev pub unsigned_of : IntType → IntType
unsigned_of ints.Char = ints.UChar
unsigned_of ints.SChar = ints.UChar
unsigned_of ints.Short = ints.UShort
unsigned_of ints.Int = ints.UInt
unsigned_of ints.Long = ints.ULong
unsigned_of ints.LLong = ints.ULLong
unsigned_of t = t

-- of two promoted types of one signedness: the one of higher rank
abbrev pub of_higher_rank : IntType → IntType → IntType
of_higher_rank left right = if nat_lt (rank left) (rank right) then right else left

-- of a promoted type with a sign and one without: the latter where its rank isn't lower, else the former where it holds
-- all numbers of the latter, else the type without sign that belongs to the former
abbrev pub of_mixed : IntType → IntType → IntType
of_mixed with_sign without =
    if nat_le (rank with_sign) (rank without) then without
    else (if holds_all with_sign without then with_sign else unsigned_of with_sign)

-- the common type of two promoted types (C11 6.3.1.8p1)
abbrev pub common : IntType → IntType → IntType
common left right =
    if is_signed left then (if is_signed right then of_higher_rank left right else of_mixed left right)
    else (if is_signed right then of_mixed right left else of_higher_rank left right)

-- the type of a promoted operand, none where it is no integer (C11 6.3.1.1p2)
abbrev pub promoted_type : CType → Option IntType
promoted_type types.Bool = Some ints.Int
promoted_type (types.Integer t) = Some (promoted t)
promoted_type _ = None

-- the common type of two types, where both are there
abbrev pub common_of_both : Option IntType → Option IntType → Option IntType
common_of_both (Some left) (Some right) = Some (common left right)
common_of_both _ _ = None

-- the usual arithmetic conversions of two operands, none where one is no integer (C11 6.3.1.8p1)
abbrev pub arithmetic_type : CType → CType → Option IntType
arithmetic_type left right = common_of_both (promoted_type left) (promoted_type right)
