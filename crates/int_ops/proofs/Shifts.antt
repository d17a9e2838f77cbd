-- That a shift of the host's numbers is the scaled number of the definition.
use Rattle.std.proofs.Common.{◌≡◌, ℕ, zero, suc, ◌-◌, ◌*◌, ◌/◌, ◌%◌, ◌^◌, ◌<◌, ◌≤◌, Bool, true, false, refl, sym, ◌∙◌}
use Rattle.std.proofs.Common.{ap}
use Rattle.std.proofs.Common.{ℤ, pos, negsuc, neg_ℤ, ◌*ℤ◌, ◌<ℤ◌, unsigned_abs, FitsSigned, to_z, of_z, arith, Ok, Err}
use Rattle.std.proofs.Common.{div-le_self}
use Rattle.std.proofs.Math.Nat.{mul-le-mul, pow-le-pow_right, mod-eq_of_lt, zero-mul, div-one, mul-one}
use Rattle.std.proofs.lemmas.Bool.{lt-ltb}
use Rattle.std.proofs.lemmas.Int.{ints, to_z_pos}
use Rattle.std.specs.Prelude.{int_lt, int_le, ◌&&◌, if◌then◌else◌, Result}
use Rattle.std.specs.Int.{w128, int_shr}
use Rattle.layouts.specs.declared.int_type.IntType.{IntType}
use Rattle.layouts.specs.declared.int_type.IntType.TheVariants.{Char, SChar, UChar, Short, UShort, Int, UInt, Long}
use Rattle.layouts.specs.declared.int_type.IntType.TheVariants.{ULong, LLong, ULLong}
use Rattle.layouts.specs.declared.operator.Operator.TheVariants.{Shl}
use Rattle.layouts.specs.IntType.{is_signed}
use Rattle.int_ops.specs.declared.undefined.OpUb.{OpUb}
use Rattle.int_ops.specs.declared.undefined.OpUb.TheVariants.{Overflow, ShiftRange}
use Rattle.int_ops.specs.Arithmetic.{width_of, wrapped, scaled, is_past, arithmetic}
use Rattle.int_ops.proofs.Ranges.{IsSmall, not_le, le_from}

pub width_at_most : (t : IntType) → width_of t ≤ 64
width_at_most Char = omega arith
width_at_most SChar = omega arith
width_at_most UChar = omega arith
width_at_most Short = omega arith
width_at_most UShort = omega arith
width_at_most Int = omega arith
width_at_most UInt = omega arith
width_at_most Long = omega arith
width_at_most ULong = omega arith
width_at_most LLong = omega arith
width_at_most ULLong = omega arith

-- ---- to the left

pub shifted_below : (x k : ℕ) → x ≤ 2 ^ 64 - 1 → k ≤ 63 → x * 2 ^ k < 2 ^ 127
shifted_below x k hx hk =
    let power : 2 ^ k ≤ 2 ^ 63 = pow-le-pow_right (omega arith) hk in
    let below : x * 2 ^ k ≤ (2 ^ 64 - 1) * 2 ^ 63 = mul-le-mul hx power in
    omega arith

pub shifted_value : (x k : ℕ) → x ≤ 2 ^ 64 - 1 → k ≤ 63 → to_z w128 ((x * 2 ^ k) % 2 ^ 128) ≡ pos (x * 2 ^ k)
shifted_value x k hx hk =
    let below : x * 2 ^ k < 2 ^ 127 = shifted_below x k hx hk in
    let within : x * 2 ^ k < 2 ^ 128 = omega arith in
    ap (to_z w128) (mod-eq_of_lt within) ∙ to_z_pos w128 (x * 2 ^ k) below

pub shl_value : (t : IntType) (a amount : ℤ) → IsSmall a → int_lt a (pos 0) ≡ false → int_lt amount (pos 0) ≡ false
    → int_le (pos (width_of t)) amount ≡ false
    → to_z w128 ((of_z w128 a * 2 ^ unsigned_abs amount) % 2 ^ 128) ≡ scaled a amount
shl_value t (pos x) (pos k) small left right near =
    let width : width_of t ≤ 64 = width_at_most t in
    let below : pos k <ℤ pos (width_of t) = not_le (pos (width_of t)) (pos k) near in
    shifted_value x k (omega (arith, ints, small.high)) (omega (arith, ints))
shl_value t (pos x) (negsuc k) small left right near = cc
shl_value t (negsuc x) amount small left right near = cc

pub shl_result : (t : IntType) (a amount n : ℤ) (r : Result ℤ OpUb) → int_lt a (pos 0) ≡ false
    → int_lt amount (pos 0) ≡ false → int_le (pos (width_of t)) amount ≡ false → n ≡ scaled a amount
    → r ≡ (if is_past t n then Err Overflow else Ok (wrapped t n)) → r ≡ arithmetic Shl t a amount
shl_result t a amount n r left right near n-is r-is = rw (left, right, near) (rw n-is at r-is)

-- a number above 0 by the width or more
pub above_all : (t : IntType) (n : ℕ) → 2 ^ width_of t ≤ n → is_past t (pos n) ≡ is_signed t
above_all Char n h = lt-ltb 127 n (omega arith)
above_all SChar n h = lt-ltb 127 n (omega arith)
above_all UChar n h = refl
above_all Short n h = lt-ltb (2 ^ 15 - 1) n (omega arith)
above_all UShort n h = refl
above_all Int n h = lt-ltb (2 ^ 31 - 1) n (omega arith)
above_all UInt n h = refl
above_all Long n h = lt-ltb (2 ^ 63 - 1) n (omega arith)
above_all ULong n h = refl
above_all LLong n h = lt-ltb (2 ^ 63 - 1) n (omega arith)
above_all ULLong n h = refl

pub zero_not_past : (t : IntType) → is_past t (pos 0) ≡ false
zero_not_past Char = refl
zero_not_past SChar = refl
zero_not_past UChar = refl
zero_not_past Short = refl
zero_not_past UShort = refl
zero_not_past Int = refl
zero_not_past UInt = refl
zero_not_past Long = refl
zero_not_past ULong = refl
zero_not_past LLong = refl
zero_not_past ULLong = refl

and_true : (b : Bool) → (b && true) ≡ b
and_true false = refl
and_true true = refl

and_false : (b : Bool) → (b && false) ≡ false
and_false false = refl
and_false true = refl

pub far_past : (t : IntType) (a amount : ℤ) → int_lt a (pos 0) ≡ false → int_lt amount (pos 0) ≡ false
    → int_le (pos (width_of t)) amount ≡ true → is_past t (scaled a amount) ≡ (is_signed t && int_lt (pos 0) a)
far_past t (pos zero) (pos k) left right far =
    ap (λ n. is_past t (pos n)) (zero-mul (2 ^ k)) ∙ zero_not_past t ∙ sym (and_false (is_signed t))
far_past t (pos (suc x)) (pos k) left right far =
    let wide : width_of t ≤ k = le_from (width_of t) k far in
    let power : 2 ^ width_of t ≤ 2 ^ k = pow-le-pow_right (omega arith) wide in
    let more : 1 * 2 ^ k ≤ suc x * 2 ^ k = mul-le-mul (omega arith) (omega arith) in
    let positive : int_lt (pos 0) (pos (suc x)) ≡ true = lt-ltb 0 (suc x) (omega arith) in
    above_all t (suc x * 2 ^ k) (omega arith) ∙ sym (and_true (is_signed t)) ∙ ap (λ b. is_signed t && b) (sym positive)
far_past t (pos x) (negsuc k) left right far = cc
far_past t (negsuc x) amount left right far = cc

two_refusals : (b : Bool) (r : Result ℤ OpUb) → r ≡ Err (if b then Overflow else ShiftRange)
    → r ≡ (if b then Err Overflow else Err ShiftRange)
two_refusals false r e = e
two_refusals true r e = e

pub far_result : (t : IntType) (a amount : ℤ) (u : OpUb) → int_lt a (pos 0) ≡ false → int_lt amount (pos 0) ≡ false
    → int_le (pos (width_of t)) amount ≡ true
    → u ≡ (if is_signed t && int_lt (pos 0) a then Overflow else ShiftRange) → Err u ≡ arithmetic Shl t a amount
far_result t a amount u left right far u-is =
    let past = far_past t a amount left right far in
    rw (u-is, left, right, far, past) (two_refusals (is_signed t && int_lt (pos 0) a) _ refl)

-- ---- to the right

pub shr_fits : (a : ℤ) (k : ℕ) → IsSmall a → FitsSigned w128 (int_shr a k)
shr_fits (pos x) k small =
    let smaller : x / 2 ^ k ≤ x = div-le_self x (2 ^ k) in record { sfits = omega (arith, ints, small.high) }
shr_fits (negsuc x) k small =
    let smaller : x / 2 ^ k ≤ x = div-le_self x (2 ^ k) in record { sfits = omega (arith, ints, small.low) }

by_nothing : (a : ℤ) → int_shr a 0 ≡ a *ℤ pos 1
by_nothing (pos x) = ap pos (div-one x ∙ sym (mul-one x))
by_nothing (negsuc x) = ap negsuc (div-one x) ∙ omega (arith, ints)

pub shr_value : (a amount : ℤ) → int_lt amount (pos 0) ≡ false
    → int_shr a (unsigned_abs amount) ≡ scaled a (neg_ℤ amount)
shr_value a (pos zero) right = by_nothing a
shr_value (pos x) (pos (suc k)) right = refl
shr_value (negsuc x) (pos (suc k)) right = refl
shr_value a (negsuc k) right = cc
