-- The operations of terms on whole numbers, which have no bound. The names are those of the terms' grammar; what each
-- gives at the edges is this project's own.
use Rattle.std.specs.Prelude.{◌-◌, ◌^◌, Bool, cond, nat_lt, Option, Some, None, bit_and, bit_or, bit_xor}
use Rattle.std.specs.Prelude.{ℤ, pos, negsuc, ◌*ℤ◌, int_div, int_rem}
use Rattle.std.specs.Int.{int_div_euclid}
use Rattle.std.specs.Ordering.{int_eq}

-- a / b rounded toward zero, 0 at a zero divisor
abbrev pub quotient : ℤ → ℤ → ℤ
quotient a b = cond (int_eq b (pos 0)) (pos 0) (int_div a b)

-- what is left of a then, with the sign of a, 0 at a zero divisor
abbrev pub remainder : ℤ → ℤ → ℤ
remainder a b = cond (int_eq b (pos 0)) (pos 0) (int_rem a b)

-- a * 2 ^ b, 0 where b is negative
abbrev pub shifted_left : ℤ → ℤ → ℤ
shifted_left a (pos b) = a *ℤ pos (2 ^ b)
shifted_left a (negsuc b) = pos 0

-- a / 2 ^ b rounded down, 0 where b is negative
abbrev pub shifted_right : ℤ → ℤ → ℤ
shifted_right a (pos b) = int_div_euclid a (pos (2 ^ b))
shifted_right a (negsuc b) = pos 0

-- In two's complement without a bound on the width `negsuc n` has the bits of n, each turned round. So, by De Morgan:
-- the bits that both numbers have
abbrev pub bits_of_both : ℤ → ℤ → ℤ
bits_of_both (pos a) (pos b) = pos (bit_and a b)
bits_of_both (pos a) (negsuc b) = pos (a - bit_and a b)
bits_of_both (negsuc a) (pos b) = pos (b - bit_and a b)
bits_of_both (negsuc a) (negsuc b) = negsuc (bit_or a b)

-- the bits that one number has at least
abbrev pub bits_of_either : ℤ → ℤ → ℤ
bits_of_either (pos a) (pos b) = pos (bit_or a b)
bits_of_either (pos a) (negsuc b) = negsuc (b - bit_and a b)
bits_of_either (negsuc a) (pos b) = negsuc (a - bit_and a b)
bits_of_either (negsuc a) (negsuc b) = negsuc (bit_and a b)

-- the bits that one number alone has
abbrev pub bits_of_one : ℤ → ℤ → ℤ
bits_of_one (pos a) (pos b) = pos (bit_xor a b)
bits_of_one (pos a) (negsuc b) = negsuc (bit_xor a b)
bits_of_one (negsuc a) (pos b) = negsuc (bit_xor a b)
bits_of_one (negsuc a) (negsuc b) = pos (bit_xor a b)

-- whether a divides b; 0 divides 0 alone
abbrev pub divides : ℤ → ℤ → Bool
divides a b = cond (int_eq a (pos 0)) (int_eq b (pos 0)) (int_eq (int_rem b a) (pos 0))

-- whether 128 bits with a sign hold the number
abbrev pub holds_in_128_bits : ℤ → Bool
holds_in_128_bits (pos n) = nat_lt n (2 ^ 127)
holds_in_128_bits (negsuc n) = nat_lt n (2 ^ 127)

-- the number, where 128 bits hold it
abbrev pub in_128_bits : ℤ → Option ℤ
in_128_bits number = cond (holds_in_128_bits number) (Some number) None
