-- The bits of signed numbers at 128 bits are those without a bound on the width.
use Rattle.std.proofs.Common.{◌≡◌, ℕ, suc, ◌+◌, ◌-◌, ◌^◌, ◌<◌, ◌∙◌, ap, subst, arith}
use Rattle.std.proofs.Common.{ℤ, pos, negsuc, FitsSigned, to_z, of_z}
use Rattle.std.specs.Int.Bits.{bit_and, bit_or, bit_xor, and_comm, and_le_l, and_le_r, and_lt, or_lt, xor_lt, or_add_and, xor_add_and}
use Rattle.std.proofs.lemmas.Nat.{and-not}
use Rattle.std.proofs.lemmas.Int.{to_z_pos, to_z-of_z}
use mir.Syntax.{w128}
use Rattle.rc_terms.specs.Numbers.{bits_of_both, bits_of_either, bits_of_one}

-- a number and its complement have no bit in common, and together all
complement : (m n : ℕ) → m < 2 ^ 127 → n < 2 ^ 128 → bit_and (2 ^ 128 - suc m) n + bit_and m n ≡ n
complement m n hm hn =
    let form : 2 ^ 128 - 1 - m ≡ 2 ^ 128 - suc m = omega arith in
    subst (λ x. bit_and x n + bit_and m n ≡ n) form (and-not 128 m n (omega arith) hn)

below : (z : ℤ) → FitsSigned w128 z → of_z w128 z < 2 ^ 128
below (pos n) fits = let h : n < 2 ^ 127 = fits.sfits in omega arith
below (negsuc n) fits = omega arith

-- what stands for a number that isn't negative, and for one that is
as_pos : (bits n : ℕ) → bits ≡ n → n < 2 ^ 127 → to_z w128 bits ≡ pos n
as_pos bits n is small = ap (to_z w128) is ∙ to_z_pos w128 n small

as_negsuc : (bits n : ℕ) → bits ≡ 2 ^ 128 - suc n → n < 2 ^ 127 → to_z w128 bits ≡ negsuc n
as_negsuc bits n is small =
    let fits : FitsSigned w128 (negsuc n) = record { sfits = small } in
    ap (to_z w128) is ∙ to_z-of_z w128 (negsuc n) fits

-- the common bits, by the signs
both_with_negative : (a b : ℕ) → a < 2 ^ 128 → b < 2 ^ 127 → bit_and a (2 ^ 128 - suc b) ≡ a - bit_and a b
both_with_negative a b ha hb =
    omega (arith, complement b a hb ha, and_comm a (2 ^ 128 - suc b), and_comm a b)

both_negative : (a b : ℕ) → a < 2 ^ 127 → b < 2 ^ 127
    → bit_and (2 ^ 128 - suc a) (2 ^ 128 - suc b) ≡ 2 ^ 128 - suc (bit_or a b)
both_negative a b ha hb =
    omega (arith, complement a (2 ^ 128 - suc b) ha (omega arith), both_with_negative a b (omega arith) hb, or_add_and a b, and_le_l a b, or_lt 127 a b ha hb)

pub bits_of_both_is : (a b : ℤ) → FitsSigned w128 a → FitsSigned w128 b
    → to_z w128 (bit_and (of_z w128 a) (of_z w128 b)) ≡ bits_of_both a b
bits_of_both_is (pos a) (pos b) ha hb = to_z_pos w128 (bit_and a b) (and_lt 127 a b ha.sfits hb.sfits)
bits_of_both_is (pos a) (negsuc b) ha hb =
    let small : a < 2 ^ 127 = ha.sfits in
    as_pos _ (a - bit_and a b) (both_with_negative a b (omega arith) hb.sfits) (omega arith)
bits_of_both_is (negsuc a) (pos b) ha hb =
    let small : b < 2 ^ 127 = hb.sfits in
    as_pos _ (b - bit_and a b)
    (omega (arith, and_comm (2 ^ 128 - suc a) b, both_with_negative b a (omega arith) ha.sfits, and_comm a b)) (omega arith)
bits_of_both_is (negsuc a) (negsuc b) ha hb =
    as_negsuc _ (bit_or a b) (both_negative a b ha.sfits hb.sfits) (or_lt 127 a b ha.sfits hb.sfits)

pub bits_of_either_is : (a b : ℤ) → FitsSigned w128 a → FitsSigned w128 b
    → to_z w128 (bit_or (of_z w128 a) (of_z w128 b)) ≡ bits_of_either a b
bits_of_either_is (pos a) (pos b) ha hb = to_z_pos w128 (bit_or a b) (or_lt 127 a b ha.sfits hb.sfits)
bits_of_either_is (pos a) (negsuc b) ha hb =
    let small : a < 2 ^ 127 = ha.sfits in
    let other : b < 2 ^ 127 = hb.sfits in
    as_negsuc _ (b - bit_and a b)
    (omega (arith, or_add_and a (2 ^ 128 - suc b), both_with_negative a b (omega arith) other, and_le_l a b, and_le_r a b)) (omega arith)
bits_of_either_is (negsuc a) (pos b) ha hb =
    let small : a < 2 ^ 127 = ha.sfits in
    let other : b < 2 ^ 127 = hb.sfits in
    as_negsuc _ (a - bit_and a b)
    (omega (arith, or_add_and (2 ^ 128 - suc a) b, and_comm (2 ^ 128 - suc a) b, both_with_negative b a (omega arith) small, and_comm a b, and_le_l a b, and_le_r a b)) (omega arith)
bits_of_either_is (negsuc a) (negsuc b) ha hb =
    let small : a < 2 ^ 127 = ha.sfits in
    let other : b < 2 ^ 127 = hb.sfits in
    as_negsuc _ (bit_and a b)
    (omega (arith, or_add_and (2 ^ 128 - suc a) (2 ^ 128 - suc b), both_negative a b small other, or_add_and a b, and_le_l a b, or_lt 127 a b small other)) (and_lt 127 a b small other)

pub bits_of_one_is : (a b : ℤ) → FitsSigned w128 a → FitsSigned w128 b
    → to_z w128 (bit_xor (of_z w128 a) (of_z w128 b)) ≡ bits_of_one a b
bits_of_one_is (pos a) (pos b) ha hb = to_z_pos w128 (bit_xor a b) (xor_lt 127 a b ha.sfits hb.sfits)
bits_of_one_is (pos a) (negsuc b) ha hb =
    let small : a < 2 ^ 127 = ha.sfits in
    let other : b < 2 ^ 127 = hb.sfits in
    as_negsuc _ (bit_xor a b)
    (omega (arith, xor_add_and a (2 ^ 128 - suc b), both_with_negative a b (omega arith) other, xor_add_and a b, and_le_l a b, and_le_r a b)) (xor_lt 127 a b small other)
bits_of_one_is (negsuc a) (pos b) ha hb =
    let small : a < 2 ^ 127 = ha.sfits in
    let other : b < 2 ^ 127 = hb.sfits in
    as_negsuc _ (bit_xor a b)
    (omega (arith, xor_add_and (2 ^ 128 - suc a) b, and_comm (2 ^ 128 - suc a) b, both_with_negative b a (omega arith) small, and_comm a b, xor_add_and a b, and_le_l a b, and_le_r a b)) (xor_lt 127 a b small other)
bits_of_one_is (negsuc a) (negsuc b) ha hb =
    let small : a < 2 ^ 127 = ha.sfits in
    let other : b < 2 ^ 127 = hb.sfits in
    as_pos _ (bit_xor a b)
    (omega (arith, xor_add_and (2 ^ 128 - suc a) (2 ^ 128 - suc b), both_negative a b small other, or_add_and a b, xor_add_and a b, and_le_l a b, or_lt 127 a b small other)) (xor_lt 127 a b small other)
