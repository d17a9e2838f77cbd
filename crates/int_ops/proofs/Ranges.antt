-- How large the numbers of the types are, and their low bits.
use Rattle.std.proofs.Common.{◌≡◌, ℕ, ◌-◌, ◌*◌, ◌^◌, ◌<◌, ◌≤◌, Bool, true, false, arith, refl, suc}
use Rattle.std.specs.Prelude.{int_le}
use Rattle.std.proofs.Common.{ℤ, pos, negsuc, neg_ℤ, ◌+ℤ◌, ◌-ℤ◌, ◌*ℤ◌, ◌≤ℤ◌, ◌<ℤ◌, unsigned_abs, FitsSigned}
use Rattle.std.proofs.Common.{zero, ◌/◌, lit<, Fits, to_z, of_z, div-le_self}
use Rattle.std.specs.Prelude.{int_div}
use Rattle.std.proofs.Math.Nat.{mul-le-mul}
use Rattle.std.proofs.lemmas.Int.{ints, fits_signed_mul, fits_signed_from_abs}
use Rattle.std.proofs.Math.Nat.{mod-lt}
use Rattle.std.specs.Int.{int_rem_euclid, w128}
use Rattle.layouts.specs.declared.int_type.IntType.{IntType}
use Rattle.layouts.specs.declared.int_type.IntType.TheVariants.{Char, SChar, UChar, Short, UShort, Int, UInt, Long}
use Rattle.layouts.specs.declared.int_type.IntType.TheVariants.{ULong, LLong, ULLong}
use Rattle.layouts.specs.IntType.{IsInRange, is_signed, greatest_of}
use Rattle.int_ops.specs.Arithmetic.{width_of, low_bits, wrapped, truth}

-- a number of any of the types
pub record IsSmall (n : ℤ) : Type 0 where
  pub low : neg_ℤ (pos (2 ^ 63)) ≤ℤ n
  pub high : n ≤ℤ pos (2 ^ 64 - 1)

pub between : (l g n : ℤ) → l ≤ℤ n → n ≤ℤ g → neg_ℤ (pos (2 ^ 63)) ≤ℤ l → g ≤ℤ pos (2 ^ 64 - 1) → IsSmall n
between l g n low high below above = record { low = omega (arith, ints); high = omega (arith, ints) }

pub small : (t : IntType) (n : ℤ) → IsInRange t n → IsSmall n
small Char n h = between _ _ n h.0 h.1 (omega (arith, ints)) (omega (arith, ints))
small SChar n h = between _ _ n h.0 h.1 (omega (arith, ints)) (omega (arith, ints))
small UChar n h = between _ _ n h.0 h.1 (omega (arith, ints)) (omega (arith, ints))
small Short n h = between _ _ n h.0 h.1 (omega (arith, ints)) (omega (arith, ints))
small UShort n h = between _ _ n h.0 h.1 (omega (arith, ints)) (omega (arith, ints))
small Int n h = between _ _ n h.0 h.1 (omega (arith, ints)) (omega (arith, ints))
small UInt n h = between _ _ n h.0 h.1 (omega (arith, ints)) (omega (arith, ints))
small Long n h = between _ _ n h.0 h.1 (omega (arith, ints)) (omega (arith, ints))
small ULong n h = between _ _ n h.0 h.1 (omega (arith, ints)) (omega (arith, ints))
small LLong n h = between _ _ n h.0 h.1 (omega (arith, ints)) (omega (arith, ints))
small ULLong n h = between _ _ n h.0 h.1 (omega (arith, ints)) (omega (arith, ints))

-- a number of a signed type
pub signed_high : (t : IntType) (n : ℤ) → is_signed t ≡ true → n ≤ℤ greatest_of t → n ≤ℤ pos (2 ^ 63 - 1)
signed_high Char n e h = omega (arith, ints)
signed_high SChar n e h = omega (arith, ints)
signed_high UChar n e h = cc
signed_high Short n e h = omega (arith, ints)
signed_high UShort n e h = cc
signed_high Int n e h = omega (arith, ints)
signed_high UInt n e h = cc
signed_high Long n e h = omega (arith, ints)
signed_high ULong n e h = cc
signed_high LLong n e h = omega (arith, ints)
signed_high ULLong n e h = cc

pub abs_from_range : (n : ℤ) → neg_ℤ (pos (2 ^ 63)) ≤ℤ n → n ≤ℤ pos (2 ^ 63 - 1) → unsigned_abs n ≤ 2 ^ 63
abs_from_range (pos n) low high = omega (arith, ints)
abs_from_range (negsuc n) low high = omega (arith, ints)

pub signed_abs : (t : IntType) (n : ℤ) → is_signed t ≡ true → IsInRange t n → unsigned_abs n ≤ 2 ^ 63
signed_abs t n e h = abs_from_range n ((small t n h).low) (signed_high t n e h.1)

-- the low bits are below 2 ^ width
pub rem_euclid_below : (n : ℤ) (m : ℕ) → 0 < m → unsigned_abs (int_rem_euclid n (pos m)) < m
rem_euclid_below (pos a) m h = mod-lt a h
rem_euclid_below (negsuc a) m h = omega arith

-- low bits past the greatest number stand for a negative one
pub upper_half : (t : IntType) (low : ℕ) → low < 2 ^ width_of t → greatest_of t <ℤ pos low
    → IsInRange t (pos low -ℤ pos (2 ^ width_of t))
upper_half Char low h above = (omega (arith, ints), omega (arith, ints))
upper_half SChar low h above = (omega (arith, ints), omega (arith, ints))
upper_half UChar low h above = absurd (omega (arith, ints))
upper_half Short low h above = (omega (arith, ints), omega (arith, ints))
upper_half UShort low h above = absurd (omega (arith, ints))
upper_half Int low h above = (omega (arith, ints), omega (arith, ints))
upper_half UInt low h above = absurd (omega (arith, ints))
upper_half Long low h above = (omega (arith, ints), omega (arith, ints))
upper_half ULong low h above = absurd (omega (arith, ints))
upper_half LLong low h above = (omega (arith, ints), omega (arith, ints))
upper_half ULLong low h above = absurd (omega (arith, ints))

pub width_positive : (t : IntType) → 0 < 2 ^ width_of t
width_positive Char = omega arith
width_positive SChar = omega arith
width_positive UChar = omega arith
width_positive Short = omega arith
width_positive UShort = omega arith
width_positive Int = omega arith
width_positive UInt = omega arith
width_positive Long = omega arith
width_positive ULong = omega arith
width_positive LLong = omega arith
width_positive ULLong = omega arith

pub low_bits_below : (t : IntType) (n : ℤ) → low_bits t n < 2 ^ width_of t
low_bits_below t n = rem_euclid_below n (2 ^ width_of t) (width_positive t)

pub fits_mag : (n : ℤ) → neg_ℤ (pos (2 ^ 127)) ≤ℤ n → n <ℤ pos (2 ^ 127) → FitsSigned w128 n
fits_mag (pos n) low high = record { sfits = omega (arith, ints) }
fits_mag (negsuc n) low high = record { sfits = omega (arith, ints) }

pub fits_small : (n : ℤ) → IsSmall n → FitsSigned w128 n
fits_small n h = fits_mag n (omega (arith, ints, h.low)) (omega (arith, ints, h.high))

pub le_from : (m n : ℕ) → int_le (pos m) (pos n) ≡ true → m ≤ n
le_from m n h = grind (arith, ints)

pub not_le : (a b : ℤ) → int_le a b ≡ false → b <ℤ a
not_le a b h = grind (arith, ints)

-- a number whose low bits are past the greatest number
pub record IsUpper (t : IntType) (n upper : ℤ) : Type 0 where
  pub value : upper ≡ wrapped t n
  pub in_range : IsInRange t upper
  pub fits : FitsSigned w128 upper

pub wrapped_upper : (t : IntType) (n low modulus : ℤ) → low ≡ pos (low_bits t n) → modulus ≡ pos (2 ^ width_of t)
    → int_le low (greatest_of t) ≡ false → IsUpper t n (low -ℤ modulus)
wrapped_upper t n low modulus low-is modulus-is past =
    let past' : int_le (pos (low_bits t n)) (greatest_of t) ≡ false = (rw low-is at past) in
    let above : greatest_of t <ℤ pos (low_bits t n) = not_le (pos (low_bits t n)) (greatest_of t) past' in
    let inside : IsInRange t (pos (low_bits t n) -ℤ pos (2 ^ width_of t)) = upper_half t (low_bits t n)
    (low_bits_below t n) above in
    rw (low-is, modulus-is) (record {
      value = rw past' refl;
      in_range = inside;
      fits = fits_small _ (small t _ inside);
    })

pub abs_small : (n : ℤ) → IsSmall n → unsigned_abs n < 2 ^ 64
abs_small (pos n) h = omega (arith, ints, h.high)
abs_small (negsuc n) h = omega (arith, ints, h.low)

-- two numbers of 64 bits have a product of 128
pub product_fits : (x y : ℕ) → x < 2 ^ 64 → y < 2 ^ 64 → Fits w128 (x * y)
product_fits x y hx hy =
    let first : x ≤ 2 ^ 64 - 1 = omega arith in
    let second : y ≤ 2 ^ 64 - 1 = omega arith in
    let below : x * y ≤ (2 ^ 64 - 1) * (2 ^ 64 - 1) = mul-le-mul first second in
    record { fits = omega arith }

-- the steps on the way to a result fit 128 bits with a sign
pub zero_less : (a : ℤ) → pos 0 -ℤ a ≡ neg_ℤ a
zero_less a = omega (arith, ints)

pub neg_fits : (a : ℤ) → IsSmall a → FitsSigned w128 (pos 0 -ℤ a)
neg_fits a h = fits_mag _ (omega (arith, ints, h.low, h.high)) (omega (arith, ints, h.low, h.high))

pub compl_fits : (a : ℤ) → IsSmall a → FitsSigned w128 (neg_ℤ a -ℤ pos 1)
compl_fits a h = fits_mag _ (omega (arith, ints, h.low, h.high)) (omega (arith, ints, h.low, h.high))

pub add_fits : (a b : ℤ) → IsSmall a → IsSmall b → FitsSigned w128 (a +ℤ b)
add_fits a b h k = fits_mag _ (omega (arith, ints, h.low, h.high, k.low, k.high)) (omega (
  arith,
  ints,
  h.low,
  h.high,
  k.low,
  k.high,
))

pub sub_fits : (a b : ℤ) → IsSmall a → IsSmall b → FitsSigned w128 (a -ℤ b)
sub_fits a b h k = fits_mag _ (omega (arith, ints, h.low, h.high, k.low, k.high)) (omega (
  arith,
  ints,
  h.low,
  h.high,
  k.low,
  k.high,
))

pub mul_fits : (t : IntType) (a b : ℤ) → is_signed t ≡ true → IsInRange t a → IsInRange t b → FitsSigned w128 (a *ℤ b)
mul_fits t a b e h k = fits_signed_mul w128 a b (2 ^ 63) (2 ^ 63) (signed_abs t a e h) (signed_abs t b e k) (lit< tt)

abs_neg : (n : ℕ) → unsigned_abs (neg_ℤ (pos n)) ≡ n
abs_neg zero = refl
abs_neg (suc n) = refl

abs_div : (a b : ℤ) → unsigned_abs (int_div a b) ≤ unsigned_abs a
abs_div (pos a) (pos b) = div-le_self a b
abs_div (pos a) (negsuc b) = rw (abs_neg (a / suc b)) (div-le_self a (suc b))
abs_div (negsuc a) (pos b) = rw (abs_neg (suc a / b)) (div-le_self (suc a) b)
abs_div (negsuc a) (negsuc b) = div-le_self (suc a) (suc b)

pub div_fits : (a b : ℤ) → IsSmall a → FitsSigned w128 (int_div a b)
div_fits a b h =
    let below : unsigned_abs a < 2 ^ 64 = abs_small a h in
    let smaller : unsigned_abs (int_div a b) ≤ unsigned_abs a = abs_div a b in
    fits_signed_from_abs w128 (int_div a b) (omega arith)

-- what a test gives
pub truth_value : (holds : Bool) (r : ℤ) → r ≡ truth holds → to_z w128 (of_z w128 r) ≡ wrapped Int (truth holds)
truth_value false r e = rw e refl
truth_value true r e = rw e refl

pub truth_in_range : (holds : Bool) (r : ℤ) → r ≡ truth holds → IsInRange Int (to_z w128 (of_z w128 r))
truth_in_range false r e = rw e (omega (arith, ints), omega (arith, ints))
truth_in_range true r e = rw e (omega (arith, ints), omega (arith, ints))
