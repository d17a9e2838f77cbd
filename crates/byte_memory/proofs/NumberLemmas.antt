-- That a number of a type is read back from its bytes.
use Rattle.std.proofs.Common.{◌≡◌, ℕ, ◌+◌, ◌/◌, ◌^◌, ◌<◌, ◌≤◌, zero, suc, ℤ, pos, negsuc, ◌-ℤ◌, ◌≤ℤ◌}
use Rattle.std.proofs.Common.{List, [], ◌∷◌, map, length, Option, Some, option_map, refl, ap, ◌∙◌}
use Rattle.std.proofs.Common.{arith}
use Rattle.std.specs.Prelude.{int_le, ◌==◌, if◌then◌else◌}
use Rattle.std.proofs.lemmas.Int.{ints}
use Rattle.std.proofs.lemmas.List.{length-map}
use Rattle.layouts.specs.declared.int_type.IntType.{IntType}
use Rattle.layouts.specs.declared.int_type.IntType.TheVariants.{Char, SChar, UChar, Short, UShort, Int, UInt, Long}
use Rattle.layouts.specs.declared.int_type.IntType.TheVariants.{ULong, LLong, ULLong}
use Rattle.layouts.specs.IntType.{int_bytes_of, IsInRange}
use Rattle.std.proofs.Math.Nat.{pow-succ'}
use Rattle.std.proofs.lemmas.Nat.{div_below}
use Rattle.std.proofs.lemmas.Grind.{common_steps}
use Rattle.rc_terms.specs.declared.byte.MByte.TheVariants.{Byte}
use Rattle.byte_memory.specs.Encoding.{bytes_from_low, natural_of, int_bytes, enc, number_from}
use Rattle.byte_memory.specs.Values.{plain_bytes, int_of}

pub length-bytes_from_low : (size : ℕ) (n : ℤ) → length (bytes_from_low size n) ≡ size
length-bytes_from_low zero n = refl
length-bytes_from_low (suc size) n = ap suc (length-bytes_from_low size _)

pub plain_bytes-map : (bs : List ℕ) → plain_bytes (map Byte bs) ≡ Some bs
plain_bytes-map [] = refl
plain_bytes-map (b ∷ bs) = ap (λ o. option_map (λ (xs : List ℕ). b ∷ xs) o) (plain_bytes-map bs)

-- a number without sign that has no more bytes
pub natural-pos : (size a : ℕ) → a < 256 ^ size → natural_of (bytes_from_low size (pos a)) ≡ a
natural-pos zero a below = omega arith
natural-pos (suc size) a below =
    let more = pow-succ' 256 size in
    let upper : a / 256 < 256 ^ size = div_below a 256 (256 ^ size) (omega arith) (omega arith) in
    omega (arith, natural-pos size (a / 256) upper)

-- a negative number
pub natural-negative : (size a : ℕ) → a < 256 ^ size → natural_of (bytes_from_low size (negsuc a)) + a + 1 ≡ 256 ^ size
natural-negative zero a below = omega arith
natural-negative (suc size) a below =
    let more = pow-succ' 256 size in
    let upper : a / 256 < 256 ^ size = div_below a 256 (256 ^ size) (omega arith) (omega arith) in
    omega (arith, natural-negative size (a / 256) upper)

chosen : (m g : ℕ) (x : ℤ) → m ≤ g → (if int_le (pos m) (pos g) then pos m else x) ≡ pos m
chosen m g x within = grind (arith, common_steps)

passed : (m g : ℕ) (x y : ℤ) → g < m → (if int_le (pos m) (pos g) then x else y) ≡ y
passed m g x y past = grind (arith, common_steps)

difference : (m a w : ℕ) → m + a + 1 ≡ w → pos m -ℤ pos w ≡ negsuc a
difference m a w is = omega (arith, ints)

same_length : (size : ℕ) (x y : Option ℤ) → (if size == size then x else y) ≡ x
same_length size x y = grind (arith, common_steps)

-- the number that is chosen for the bytes of one, where the greatest is g and so many bytes have w values
number_chosen : ℕ → ℕ → ℕ → ℤ
number_chosen g w m = if int_le (pos m) (pos g) then pos m else pos m -ℤ pos w

-- with a sign
signed_back : (size g : ℕ) (n : ℤ) → g + g + 2 ≡ 256 ^ size → negsuc g ≤ℤ n → n ≤ℤ pos g →
    number_chosen g (256 ^ size) (natural_of (bytes_from_low size n)) ≡ n
unfolding number_chosen
signed_back size g (pos a) wide least greatest =
    let small : a ≤ g = omega (arith, ints) in
    let is = natural-pos size a (omega arith) in
    rw is (chosen a g _ small)
signed_back size g (negsuc a) wide least greatest =
    let small : a ≤ g = omega (arith, ints) in
    let is = natural-negative size a (omega arith) in
    passed _ g _ _ (omega arith) ∙ difference _ a _ is

-- without a sign
unsigned_back : (size g : ℕ) (n : ℤ) → g + 1 ≡ 256 ^ size → pos 0 ≤ℤ n → n ≤ℤ pos g →
    number_chosen g (256 ^ size) (natural_of (bytes_from_low size n)) ≡ n
unfolding number_chosen
unsigned_back size g (pos a) wide least greatest =
    let small : a ≤ g = omega (arith, ints) in
    let is = natural-pos size a (omega arith) in
    rw is (chosen a g _ small)
unsigned_back size g (negsuc a) wide least greatest = absurd (omega (arith, ints))

number_back : (t : IntType) (n : ℤ) → IsInRange t n → number_from t (natural_of (bytes_from_low (int_bytes_of t) n)) ≡ n
unfolding number_chosen
number_back Char n range = signed_back 1 127 n refl range.0 range.1
number_back SChar n range = signed_back 1 127 n refl range.0 range.1
number_back UChar n range = unsigned_back 1 255 n refl range.0 range.1
number_back Short n range = signed_back 2 32767 n refl range.0 range.1
number_back UShort n range = unsigned_back 2 65535 n refl range.0 range.1
number_back Int n range = signed_back 4 2147483647 n refl range.0 range.1
number_back UInt n range = unsigned_back 4 4294967295 n refl range.0 range.1
number_back Long n range = signed_back 8 9223372036854775807 n refl range.0 range.1
number_back ULong n range = unsigned_back 8 18446744073709551615 n refl range.0 range.1
number_back LLong n range = signed_back 8 9223372036854775807 n refl range.0 range.1
number_back ULLong n range = unsigned_back 8 18446744073709551615 n refl range.0 range.1

-- a number of a type is read back from its bytes
pub int_back : (t : IntType) (n : ℤ) → IsInRange t n → int_of t (enc t n) ≡ Some n
unfolding enc int_bytes
int_back t n range =
    let long = length-map (bytes_from_low (int_bytes_of t) n) (λ (b : ℕ). Byte b) in
    let size = length-bytes_from_low (int_bytes_of t) n in
    let plain = plain_bytes-map (bytes_from_low (int_bytes_of t) n) in
    rw (long, size, plain) (same_length (int_bytes_of t) _ _ ∙ ap (λ m. Some m) (number_back t n range))
