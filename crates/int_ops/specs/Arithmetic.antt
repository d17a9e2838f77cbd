-- What the operators of C give on whole numbers: C11 6.5.3.3 and 6.5.5 to 6.5.14, in two's complement (6.2.6.2);
-- conversions: C11 6.3.1.3, and for `shr` of a negative number and for narrower signed types, which C11 leaves to the
-- implementation, those of gcc ("Integers implementation").
use Rattle.std.specs.Prelude.{ℕ, ◌*◌, ◌^◌, suc, Bool, true, false, not, ◌&&◌, ◌||◌, if◌then◌else◌, Result, Ok, Err}
use Rattle.std.specs.Prelude.{ℤ, pos, negsuc, neg_ℤ, ◌+ℤ◌, ◌-ℤ◌, ◌*ℤ◌, int_lt, int_le, int_div, int_rem, unsigned_abs}
use Rattle.std.specs.Prelude.{bit_and, bit_or, bit_xor}
use Rattle.std.specs.Int.{int_div_euclid, int_rem_euclid}
use Rattle.std.specs.Ordering.{int_eq}
use Rattle.layouts.specs.declared.int_type.IntType.{IntType}
use Rattle.layouts.specs.declared.int_type.IntType.TheVariants as types
use Rattle.layouts.specs.declared.operator.Operator.{Operator}
use Rattle.layouts.specs.declared.operator.Operator.TheVariants.{Neg, Compl, Add, Sub, Mul, Div, Rem, Shl, Shr}
use Rattle.layouts.specs.declared.operator.Operator.TheVariants.{And, Or, Xor, Eq, Ne, Lt, Le, Gt, Ge}
use Rattle.layouts.specs.IntType.{int_bytes_of, is_signed, least_of, greatest_of, IsInRange}
use Rattle.int_ops.specs.declared.undefined.OpUb.{OpUb}
use Rattle.int_ops.specs.declared.undefined.OpUb.TheVariants.{Overflow, ZeroDivisor, LeastByMinusOne, ShiftRange}

-- how many bits a number of the type has
abbrev pub width_of : IntType → ℕ
width_of t = 8 * int_bytes_of t

-- that many low bits of a number in two's complement: its remainder by 2 ^ width, which isn't negative
abbrev pub low_bits : IntType → ℤ → ℕ
low_bits t n = unsigned_abs (int_rem_euclid n (pos (2 ^ width_of t)))

-- the number of the type with the same low bits: with a sign, bits past the greatest number stand for a negative one
abbrev pub wrapped : IntType → ℤ → ℤ
wrapped t n =
    let low = pos (low_bits t n) in if int_le low (greatest_of t) then low else (low -ℤ pos (2 ^ width_of t))

-- a times 2 ^ b, rounded down
abbrev pub scaled : ℤ → ℤ → ℤ
scaled a (pos b) = a *ℤ pos (2 ^ b)
scaled a (negsuc b) = int_div_euclid a (pos (2 ^ suc b))

-- 1 where the test holds, else 0
abbrev pub truth : Bool → ℤ
truth holds = if holds then pos 1 else pos 0

-- the result on whole numbers: `/` rounds toward zero, and `%` has the dividend's sign
abbrev pub exact : Operator → IntType → ℤ → ℤ → ℤ
exact Neg t a b = neg_ℤ a
exact Compl t a b = neg_ℤ a -ℤ pos 1
exact Add t a b = a +ℤ b
exact Sub t a b = a -ℤ b
exact Mul t a b = a *ℤ b
exact Div t a b = int_div a b
exact Rem t a b = int_rem a b
exact Shl t a b = scaled a b
exact Shr t a b = scaled a (neg_ℤ b)
exact And t a b = pos (bit_and (low_bits t a) (low_bits t b))
exact Or t a b = pos (bit_or (low_bits t a) (low_bits t b))
exact Xor t a b = pos (bit_xor (low_bits t a) (low_bits t b))
exact Eq t a b = truth (int_eq a b)
exact Ne t a b = truth (not (int_eq a b))
exact Lt t a b = truth (int_lt a b)
exact Le t a b = truth (int_le a b)
exact Gt t a b = truth (int_lt b a)
exact Ge t a b = truth (int_le b a)

-- the type of the result: a comparison's is `int`, any other operator's is that of the operands
abbrev pub result_type : Operator → IntType → IntType
result_type Eq t = types.Int
result_type Ne t = types.Int
result_type Lt t = types.Int
result_type Le t = types.Int
result_type Gt t = types.Int
result_type Ge t = types.Int
result_type operator t = t

-- the type is signed, and the number isn't one of its own
abbrev pub is_past : IntType → ℤ → Bool
is_past t n = is_signed t && (int_lt n (least_of t) || int_lt (greatest_of t) n)

-- a signed result isn't one of the type's, or a negative number is shifted left
abbrev pub overflows : Operator → IntType → ℤ → ℤ → Bool
overflows Neg t a b = is_past t (exact Neg t a b)
overflows Add t a b = is_past t (exact Add t a b)
overflows Sub t a b = is_past t (exact Sub t a b)
overflows Mul t a b = is_past t (exact Mul t a b)
overflows Shl t a b = int_lt a (pos 0) || is_past t (exact Shl t a b)
overflows operator t a b = false

-- the operators that divide
abbrev pub is_division : Operator → Bool
is_division Div = true
is_division Rem = true
is_division operator = false

-- the operators that shift
abbrev pub is_shift : Operator → Bool
is_shift Shl = true
is_shift Shr = true
is_shift operator = false

-- what the operator gives on two numbers: the first refusal that stands, else the exact result wrapped to its type
abbrev pub arithmetic : Operator → IntType → ℤ → ℤ → Result ℤ OpUb
arithmetic operator t a b =
    if overflows operator t a b then Err Overflow
    else (if is_division operator && int_eq b (pos 0) then Err ZeroDivisor
    else (if is_division operator && int_eq a (least_of t) && int_eq b (neg_ℤ (pos 1)) then Err LeastByMinusOne
    else (if is_shift operator && (int_lt b (pos 0) || int_le (pos (width_of t)) b) then Err ShiftRange
    else Ok (wrapped (result_type operator t) (exact operator t a b)))))

-- the right operand is one of the type's, but a unary operator has none, and a shift's may be any number
abbrev pub IsRightOperand : Operator → IntType → ℤ → Type 0
IsRightOperand Neg t b = Unit {0}
IsRightOperand Compl t b = Unit {0}
IsRightOperand Shl t b = Unit {0}
IsRightOperand Shr t b = Unit {0}
IsRightOperand operator t b = IsInRange t b
