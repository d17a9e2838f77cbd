-- Numbers that a pointer is moved by.
use Rattle.std.proofs.Common.{◌≡◌, ◌≢◌, ℕ, zero, suc, ◌<◌, ◌≤◌, ◌^◌, Bool, true, false, refl, ap, sym, subst, Ok, Err, arith, lit<}
use Rattle.std.proofs.Common.{ℤ, pos, negsuc, ◌+ℤ◌, ◌*ℤ◌, FitsSigned, unsigned_abs}
use Rattle.std.specs.Prelude.{◌&&◌, int_le, if◌then◌else◌}
use Rattle.std.specs.Int.{w128}
use Rattle.std.proofs.lemmas.Int.{ints, fits_signed_mul, fits_signed_from_abs}
use Rattle.layouts.specs.declared.int_type.IntType.{IntType}
use Rattle.layouts.specs.IntType.{IsInRange}
use Rattle.rc_terms.specs.declared.location.Loc.{Loc}
use Rattle.rc_terms.specs.declared.location.Loc.TheVariants.{At}
use Rattle.byte_memory.specs.declared.memory.Memory.{Memory}
use Rattle.byte_memory.specs.Memory.{length_at}
use Rattle.thread_steps.specs.declared.answer.Ub.TheVariants.{PtrBounds}
use Rattle.thread_steps.specs.Operands.{moved}
use Rattle.int_ops.proofs.Ranges.{small, abs_small, le_from, fits_mag}

-- a size by a number of a type
pub moves_fit : (t : IntType) (size : ℕ) (n : ℤ) → size < 2 ^ 32 → IsInRange t n → FitsSigned w128 (pos size *ℤ n)
moves_fit t size n below h =
    let least : unsigned_abs (pos size) ≤ 2 ^ 32 = omega arith in
    let abs : unsigned_abs n < 2 ^ 64 = abs_small n (small t n h) in
    let other : unsigned_abs n ≤ 2 ^ 64 = omega arith in
    fits_signed_mul w128 (pos size) n (2 ^ 32) (2 ^ 64) least other (lit< tt)

-- what doesn't fit 128 bits is in no block
outside : (b : Bool) (n : ℕ) (len : ℕ) → len < 2 ^ 32 → (FitsSigned w128 (pos n) → ⊥) → int_le (pos n) (pos len) ≡ b →
    b ≡ false
outside false n len below wide is = refl
outside true n len below wide is =
    let within = le_from n len is in
    absurd (wide (fits_signed_from_abs w128 (pos n) (omega arith)))

refused_by : (a b : Bool) → b ≡ false → (a && b) ≡ false
refused_by true b h = h
refused_by false b h = refl

pub out_of_block : (n : ℤ) (len : ℕ) → len < 2 ^ 32 → (FitsSigned w128 n → ⊥) →
    (int_le (pos 0) n && int_le n (pos len)) ≡ false
out_of_block (pos n) len below wide =
    refused_by (int_le (pos 0) (pos n)) _ (outside (int_le (pos n) (pos len)) n len below wide refl)
out_of_block (negsuc n) len below wide = refl

pub moved_out : (memory : Memory) (block length : ℕ) (at : Loc) (offset by : ℤ) → at ≡ At block offset →
    length ≡ length_at memory block → (int_le (pos 0) (offset +ℤ by) && int_le (offset +ℤ by) (pos length)) ≡ false →
    Err PtrBounds ≡ moved memory at by
moved_out memory block length at offset by is long out =
    let outside_block = subst (λ n. (int_le (pos 0) (offset +ℤ by) && int_le (offset +ℤ by) (pos n)) ≡ false) long out in
    let none = ap (λ b. if b then Ok (At block (offset +ℤ by)) else Err PtrBounds) outside_block in
    subst (λ l. Err PtrBounds ≡ moved memory l by) (sym is) (sym none)
