-- The types of integer constants, and constants in other types (C11 6.4.4.1, 6.3.1.2, 6.3.1.3, 6.5.3.3).
use Rattle.std.specs.Prelude.{Bool, ◌&&◌, List, [], ◌∷◌, find, Option, Some, None, ℤ, pos, neg_ℤ, int_le, not}
use Rattle.std.specs.Ordering.{int_eq}
use Rattle.layouts.specs.declared.int_type.IntType.{IntType}
use Rattle.layouts.specs.declared.int_type.IntType.TheVariants as ints
use Rattle.layouts.specs.IntType.{least_of, greatest_of}
use Rattle.int_ops.specs.Arithmetic.{wrapped, truth}
use Rattle.c_lexer.specs.declared.token.IntegerBase.{IntegerBase}
use Rattle.c_lexer.specs.declared.token.IntegerBase.TheVariants.{Decimal, Octal, Hexadecimal}
use Rattle.c_lexer.specs.declared.token.IntegerSuffix.{IntegerSuffix}
use Rattle.c_lexer.specs.declared.token.IntegerSuffix.TheVariants as suffixes
use Rattle.c_lexer.specs.declared.token.IntegerConstant.{IntegerConstant}
use Rattle.c_types.specs.declared.ctype.CType.{CType}
use Rattle.c_types.specs.declared.ctype.CType.TheVariants as types

-- the types that a constant of this base and suffix may have, in the order in which they are tried: the table of C11
-- 6.4.4.1p5, whose columns are decimal constants, and octal and hexadecimal ones
abbrev pub candidates : IntegerBase → IntegerSuffix → List IntType
candidates Decimal suffixes.Plain = ints.Int ∷ ints.Long ∷ ints.LLong ∷ []
candidates _ suffixes.Plain = ints.Int ∷ ints.UInt ∷ ints.Long ∷ ints.ULong ∷ ints.LLong ∷ ints.ULLong ∷ []
candidates _ suffixes.Unsigned = ints.UInt ∷ ints.ULong ∷ ints.ULLong ∷ []
candidates Decimal suffixes.Long = ints.Long ∷ ints.LLong ∷ []
candidates _ suffixes.Long = ints.Long ∷ ints.ULong ∷ ints.LLong ∷ ints.ULLong ∷ []
candidates _ suffixes.UnsignedLong = ints.ULong ∷ ints.ULLong ∷ []
candidates Decimal suffixes.LongLong = ints.LLong ∷ []
candidates _ suffixes.LongLong = ints.LLong ∷ ints.ULLong ∷ []
candidates _ suffixes.UnsignedLongLong = ints.ULLong ∷ []

-- the type holds the number
abbrev pub holds : IntType → ℤ → Bool
holds t number = int_le (least_of t) number && int_le number (greatest_of t)

-- the type of an integer constant: the first of its list that holds it, none where no type does (C11 6.4.4.1p5)
abbrev pub constant_type : IntegerConstant → Option IntType
constant_type constant = find (λ t. holds t (pos constant.value)) (candidates constant.base constant.suffix)

-- a constant of a promoted type behind a minus sign (C11 6.5.3.3p3)
abbrev pub negated : IntType → ℤ → ℤ
negated t number = wrapped t (neg_ℤ number)

-- a number converted to a type (C11 6.3.1.2, 6.3.1.3); as it is where that is no integer type
abbrev pub converted : CType → ℤ → ℤ
converted types.Bool number = truth (not (int_eq number (pos 0)))
converted (types.Integer t) number = wrapped t number
converted _ number = number

-- the least and the greatest number of an integer type (C11 6.2.5, 5.2.4.2.1)
abbrev pub range_of : CType → Option (ℤ × ℤ)
range_of types.Bool = Some (pos 0, pos 1)
range_of (types.Integer t) = Some (least_of t, greatest_of t)
range_of _ = None
