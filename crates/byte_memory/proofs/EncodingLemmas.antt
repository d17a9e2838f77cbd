-- That the bytes of a number, taken one by one, are those of the definition.
use Rattle.std.proofs.Common.{◌*◌, ◌^◌, add-one}
use Rattle.std.proofs.Math.Nat.{pow-succ', mul-le-mul_left, pow-le-pow_right}
use Rattle.std.proofs.Common.{◌≡◌, ℕ, ◌+◌, ◌-◌, ◌<◌, ◌≤◌, suc, List, [], ◌∷◌, ◌++◌, length, map, take, set, ap, sym}
use Rattle.std.proofs.Common.{◌∙◌, arith}
use Rattle.std.proofs.Common.{ℤ, pos, append_assoc, unsigned_abs}
use Rattle.std.proofs.lemmas.List.{take_all, take_more_set, append-nil}
use Rattle.std.specs.Int.{int_rem_euclid, int_div_euclid}
use Rattle.rc_terms.specs.declared.byte.MByte.{MByte}
use Rattle.rc_terms.specs.declared.byte.MByte.TheVariants.{Byte}
use Rattle.byte_memory.specs.Encoding.{low_byte, upper_bytes, bytes_from_low}

-- one more byte was taken from the rest of a number
pub byte_more : (size : ℕ) (n rest : ℤ) (done : List ℕ) (i : ℕ) → i < size →
    bytes_from_low size n ≡ done ++ bytes_from_low (size - i) rest → bytes_from_low size n ≡
    (done ++ low_byte rest ∷ []) ++ bytes_from_low (size - (i + 1)) (upper_bytes rest)
byte_more size n rest done i inside so_far =
    let left : size - i ≡ suc (size - (i + 1)) = omega arith in
    so_far ∙ ap (λ k. done ++ bytes_from_low k rest) left ∙ sym
    (append_assoc done (low_byte rest ∷ []) (bytes_from_low (size - (i + 1)) (upper_bytes rest)))

-- one more byte was written in its place
pub written_more : (size : ℕ) (n rest low up : ℤ) (into : List ℕ) (i : ℕ) → i < size → length into ≡ size →
    bytes_from_low size n ≡ take i into ++ bytes_from_low (size - i) rest → low ≡ int_rem_euclid rest (pos 256) →
    up ≡ int_div_euclid rest (pos 256) → bytes_from_low size n ≡ take (i + 1) (set into i (unsigned_abs low)) ++
    bytes_from_low (size - (i + 1)) up
written_more size n rest low up into i inside long so_far low-is up-is =
    let within : i < length into = omega arith in
    rw (low-is, up-is, take_more_set into i (low_byte rest) within)
    (byte_more size n rest (take i into) i inside so_far)

-- one more byte was put at the end
pub pushed_more : (size : ℕ) (n rest low up : ℤ) (items more : List MByte) (i : ℕ) → i < size →
    map Byte (bytes_from_low size n) ≡ items ++ map Byte (bytes_from_low (size - i) rest) →
    low ≡ int_rem_euclid rest (pos 256) → up ≡ int_div_euclid rest (pos 256) →
    more ≡ items ++ Byte (unsigned_abs low) ∷ [] → map Byte (bytes_from_low size n) ≡ more ++ map Byte
    (bytes_from_low (size - (i + 1)) up)
pushed_more size n rest low up items more i inside so_far low-is up-is more-is =
    let left : size - i ≡ suc (size - (i + 1)) = omega arith in
    rw (more-is, low-is, up-is)
    (so_far ∙ ap (λ k. items ++ map Byte (bytes_from_low k rest)) left ∙ sym
    (append_assoc items (Byte (low_byte rest) ∷ [])
    (map Byte (bytes_from_low (size - (i + 1)) (upper_bytes rest)))))

-- all bytes were written
pub written_all : (size : ℕ) (n rest : ℤ) (into : List ℕ) (i : ℕ) → size ≤ i → length into ≡ size →
    bytes_from_low size n ≡ take i into ++ bytes_from_low (size - i) rest → into ≡ bytes_from_low size n
written_all size n rest into i over long so_far =
    let none : size - i ≡ 0 = omega arith in
    let whole = take_all i into (omega arith) in
    sym (so_far ∙ (rw (none, whole) (append-nil into)))

-- all bytes were put
pub pushed_all : (size : ℕ) (n rest : ℤ) (items : List MByte) (i : ℕ) → size ≤ i →
    map Byte (bytes_from_low size n) ≡ items ++ map Byte (bytes_from_low (size - i) rest) →
    items ≡ map Byte (bytes_from_low size n)
pushed_all size n rest items i over so_far =
    let none : size - i ≡ 0 = omega arith in
    sym (so_far ∙ (rw none (append-nil items)))

-- one more byte below the others
pub number_below : (low upper k : ℕ) → low < 256 → upper < 256 ^ k → low + 256 * upper < 256 ^ (k + 1)
number_below low upper k small below =
    let more : 256 ^ (k + 1) ≡ 256 * 256 ^ k = rw add-one (pow-succ' 256 k) in
    omega (arith, mul-le-mul_left 256 (suc-le below))
  where
    suc-le : {a b : ℕ} → a < b → a + 1 ≤ b
    suc-le h = omega arith

-- a number of at most seven bytes
pub number_fits : (upper k : ℕ) → upper < 256 ^ k → k ≤ 7 → upper < 256 ^ 7
number_fits upper k below short = omega (arith, pow-le-pow_right {n = 256} (omega arith) short)
