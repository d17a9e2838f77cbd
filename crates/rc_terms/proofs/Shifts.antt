-- Shifts of numbers of 128 bits.
use Rattle.std.proofs.Common.{◌≡◌, ◌≢◌, ℕ, zero, suc, ◌-◌, ◌*◌, ◌^◌, ◌<◌, ◌≤◌, refl, sym, ◌∙◌, ap, subst, arith, Bool, true, false, cond}
use Rattle.std.proofs.Common.{ℤ, pos, negsuc, neg_ℤ, ◌*ℤ◌, ◌≤ℤ◌, FitsSigned, to_z, of_z, Option, Some, None}
use Rattle.std.proofs.Math.Nat.{div-eq_of_lt}
use Rattle.std.proofs.Math.Pow.{pow_mono}
use Rattle.std.proofs.lemmas.Int.{to_z-of_z, ints}
use Rattle.std.proofs.lemmas.Bool.{le-ltb, ltb-false}
use Rattle.std.proofs.Math.Dec.{ltb}
use Rattle.std.proofs.Math.Nat.{pow-suc, mul-le-mul_right}
use lib.Signed.{shr_z, mag_shr}
use mir.Syntax.{w128}
use Rattle.rc_terms.specs.Numbers.{shifted_left, shifted_right, in_128_bits, holds_in_128_bits}

-- of a number of 128 bits only the sign is left past 127 places
pub only_the_sign : (a b : ℤ) → FitsSigned w128 a → pos 127 ≤ℤ b → shr_z a (2 ^ 127) ≡ shifted_right a b
only_the_sign (pos n) (pos k) fits past =
    let long : 127 ≤ k = omega (arith, ints) in
    let small : n < 2 ^ 127 = fits.sfits in
    let more : 2 ^ 127 ≤ 2 ^ k = pow_mono long in
    let lt : n < 2 ^ k = omega arith in
    ap pos (div-eq_of_lt small ∙ sym (div-eq_of_lt lt))
only_the_sign (negsuc n) (pos k) fits past =
    let long : 127 ≤ k = omega (arith, ints) in
    let small : n < 2 ^ 127 = fits.sfits in
    let more : 2 ^ 127 ≤ 2 ^ k = pow_mono long in
    let lt : n < 2 ^ k = omega arith in
    ap negsuc (div-eq_of_lt small ∙ sym (div-eq_of_lt lt))
only_the_sign a (negsuc k) fits past = absurd (omega (arith, ints))

pub arithmetic_shift : (a b : ℤ) → FitsSigned w128 a → pos 127 ≤ℤ b
    → to_z w128 (of_z w128 (shr_z (to_z w128 (of_z w128 a)) (2 ^ 127))) ≡ shifted_right a b
arithmetic_shift a b fits past =
    let P : ℤ → Type 0 = λ z. to_z w128 (of_z w128 (shr_z z (2 ^ 127))) ≡ shifted_right a b in
    subst P (sym (to_z-of_z w128 a fits))
    (to_z-of_z w128 (shr_z a (2 ^ 127)) (record { sfits = le-lt (mag_shr a (2 ^ 127)) fits.sfits }) ∙ only_the_sign a b fits past)
  where
    le-lt : {k m n : ℕ} → k ≤ m → m < n → k < n
    le-lt h l = omega arith

-- numbers that 128 bits don't hold, on either side
wide_pos : (m : ℕ) → 2 ^ 127 ≤ m → in_128_bits (pos m) ≡ None
wide_pos m h = ap (λ b. cond b (Some (pos m)) None) (le-ltb m (2 ^ 127) h)

wide_neg : (m : ℕ) → 2 ^ 127 < m → in_128_bits (neg_ℤ (pos m)) ≡ None
wide_neg zero h = absurd (omega arith)
wide_neg (suc m) h = ap (λ b. cond b (Some (negsuc m)) None) (le-ltb m (2 ^ 127) (omega arith))

is_false : (b : Bool) (z : ℤ) → cond b (Some z) None ≡ None → b ≡ false
is_false true z e = cc
is_false false z e = refl

none_pos : (m : ℕ) → in_128_bits (pos m) ≡ None → 2 ^ 127 ≤ m
none_pos m e = ltb-false m (2 ^ 127) (is_false (ltb m (2 ^ 127)) (pos m) e)

none_neg : (m : ℕ) → in_128_bits (neg_ℤ (pos m)) ≡ None → 2 ^ 127 < m
none_neg zero e = cc
none_neg (suc m) e = omega (arith, ltb-false m (2 ^ 127) (is_false (ltb m (2 ^ 127)) (negsuc m) e))

is_some : (b : Bool) (z n : ℤ) → cond b (Some z) None ≡ Some n → n ≡ z
is_some true z n e = cc
is_some false z n e = cc

pub some_is : (z n : ℤ) → in_128_bits z ≡ Some n → n ≡ z
some_is z n e = is_some (holds_in_128_bits z) z n e

-- a power that isn't held makes a multiple that isn't, as does a multiple of half of it
pub wide_power : (a : ℤ) (k : ℕ) → a ≢ pos 0 → in_128_bits (pos (2 ^ k)) ≡ None → in_128_bits (a *ℤ pos (2 ^ suc k)) ≡ None
wide_power (pos zero) k h e = absurd (h refl)
wide_power (pos (suc n)) k h e =
    wide_pos (suc n * 2 ^ suc k) (omega (arith, none_pos (2 ^ k) e, pow-suc 2 k, mul-le-mul_right (2 ^ suc k) (one_le n)))
  where
    one_le : (n : ℕ) → 1 ≤ suc n
    one_le n = omega arith
wide_power (negsuc n) k h e =
    wide_neg (suc n * 2 ^ suc k) (omega (arith, none_pos (2 ^ k) e, pow-suc 2 k, mul-le-mul_right (2 ^ suc k) (one_le n)))
  where
    one_le : (n : ℕ) → 1 ≤ suc n
    one_le n = omega arith

pub wide_half : (a : ℤ) (k : ℕ) → in_128_bits (a *ℤ pos (2 ^ k)) ≡ None → in_128_bits (a *ℤ pos (2 ^ suc k)) ≡ None
wide_half (pos n) k e =
    wide_pos (n * 2 ^ suc k) (omega (arith, none_pos (n * 2 ^ k) e, ap (λ p. n * p) (pow-suc 2 k)))
wide_half (negsuc n) k e =
    wide_neg (suc n * 2 ^ suc k) (omega (arith, none_neg (suc n * 2 ^ k) e, ap (λ p. suc n * p) (pow-suc 2 k)))

neg_twice : (m : ℕ) → neg_ℤ (pos m) *ℤ pos 2 ≡ neg_ℤ (pos (m * 2))
neg_twice zero = refl
neg_twice (suc m) = refl

pub twice : (a : ℤ) (k : ℕ) → (a *ℤ pos (2 ^ k)) *ℤ pos 2 ≡ a *ℤ pos (2 ^ suc k)
twice (pos n) k = ap pos (omega (arith, ap (λ p. n * p) (pow-suc 2 k)))
twice (negsuc n) k =
    let same : suc n * 2 ^ k * 2 ≡ suc n * 2 ^ suc k = omega (arith, ap (λ p. suc n * p) (pow-suc 2 k)) in
    neg_twice (suc n * 2 ^ k) ∙ ap (λ m. neg_ℤ (pos m)) same

-- nothing but 0 is held 128 places to the left
pub too_far : (a b : ℤ) → a ≢ pos 0 → pos 128 ≤ℤ b → None ≡ in_128_bits (shifted_left a b)
too_far a (pos zero) h far = absurd (omega (arith, ints))
too_far a (pos (suc k)) h far =
    let long : 127 ≤ k = omega (arith, ints) in
    sym (wide_power a k h (wide_pos (2 ^ k) (pow_mono long)))
too_far a (negsuc k) h far = absurd (omega (arith, ints))

-- a number of places above 0 is one more than that less one
pub scaled_is : (a : ℤ) (k : ℕ) (half number : ℤ) (result : Option ℤ) → 0 < k
    → in_128_bits (pos (2 ^ (k - 1))) ≡ Some half → in_128_bits (a *ℤ half) ≡ Some number
    → result ≡ in_128_bits (number *ℤ pos 2) → result ≡ in_128_bits (a *ℤ pos (2 ^ k))
scaled_is a zero half number result h e f g = absurd (omega arith)
scaled_is a (suc k) half number result h e f g =
    let less : suc k - 1 ≡ k = omega arith in
    let half_is : half ≡ pos (2 ^ k) = some_is _ half e ∙ ap (λ n. pos (2 ^ n)) less in
    let number_is : number ≡ a *ℤ pos (2 ^ k) = some_is _ number f ∙ ap (λ z. a *ℤ z) half_is in
    g ∙ ap (λ z. in_128_bits (z *ℤ pos 2)) number_is ∙ ap in_128_bits (twice a k)
