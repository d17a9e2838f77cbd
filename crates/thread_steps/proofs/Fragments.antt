-- Pointers and their fragments.
use Rattle.std.proofs.Common.{◌≡◌, ℕ, zero, suc, ◌+◌, ◌≤◌, Bool, true, false, List, [], ◌∷◌, length, Option, Some, None, refl, ap, sym, ◌∙◌, subst, arith}
use Rattle.std.specs.Prelude.{◌==◌, ◌&&◌, if◌then◌else◌, ℤ, option_and_then}
use Rattle.std.specs.Ordering.{int_eq}
use Rattle.std.proofs.lemmas.Bool.Decides.{Decides-eqb, Decides-int_eq}
use Rattle.rc_terms.specs.declared.location.Loc.{Loc}
use Rattle.rc_terms.specs.declared.location.Loc.TheVariants.{Null, At}
use Rattle.rc_terms.specs.declared.byte.MByte.{MByte}
use Rattle.rc_terms.specs.declared.byte.MByte.TheVariants.{Byte, Frag, Poison}
use Rattle.byte_memory.specs.Values.{ptr}
use Rattle.thread_steps.specs.Operands.{same_location, is_fragment, are_fragments, location_in, pointer_of}

both : (a b : Bool) → (a && b) ≡ true → (a ≡ true) × (b ≡ true)
both true b h = (refl, h)
both false b h = cc

joined : (a b : Bool) → a ≡ true → b ≡ true → (a && b) ≡ true
joined true b h k = k
joined false b h k = cc

pub same_of : (one other : Loc) → same_location one other ≡ true → one ≡ other
same_of Null Null h = refl
same_of Null (At block offset) h = cc
same_of (At block offset) Null h = cc
same_of (At block offset) (At other at) h =
    let parts = both (block == other) (int_eq offset at) h in
    let blocks : block ≡ other = (Decides-eqb block other).0 parts.0 in
    let offsets : offset ≡ at = (Decides-int_eq offset at).0 parts.1 in
    cc

pub same_as_itself : (at : Loc) → same_location at at ≡ true
same_as_itself Null = refl
same_as_itself (At block offset) =
    joined (block == block) (int_eq offset offset) ((Decides-eqb block block).1 refl)
    ((Decides-int_eq offset offset).1 refl)

-- so many fragments from this one on
abbrev fragments : Loc → ℕ → ℕ → List MByte
fragments at n zero = []
fragments at n (suc k) = Frag at n ∷ fragments at (suc n) k

fragment_is : (at : Loc) (n : ℕ) (byte : MByte) → is_fragment at n byte ≡ true → byte ≡ Frag at n
fragment_is at n (Byte b) h = cc
fragment_is at n Poison h = cc
fragment_is at n (Frag of m) h =
    let parts = both (same_location of at) (m == n) h in
    let locations : of ≡ at = same_of of at parts.0 in
    let numbers : m ≡ n = (Decides-eqb m n).0 parts.1 in
    cc

below_nine : (at : Loc) (n : ℕ) (bytes : List MByte) → are_fragments at n bytes ≡ true → n ≤ 8
below_nine at n [] h = let is : n ≡ 8 = (Decides-eqb n 8).0 h in omega arith
below_nine at n (byte ∷ bytes) h =
    let more = below_nine at (suc n) bytes (both (is_fragment at n byte) (are_fragments at (suc n) bytes) h).1 in
    omega arith

fragments_are : (at : Loc) (k n : ℕ) (bytes : List MByte) → n + k ≡ 8 → are_fragments at n bytes ≡ true →
    bytes ≡ fragments at n k
fragments_are at zero n [] size h = refl
fragments_are at zero n (byte ∷ bytes) size h =
    let more = below_nine at (suc n) bytes (both (is_fragment at n byte) (are_fragments at (suc n) bytes) h).1 in
    absurd (omega arith)
fragments_are at (suc k) n [] size h = let is : n ≡ 8 = (Decides-eqb n 8).0 h in absurd (omega arith)
fragments_are at (suc k) n (byte ∷ bytes) size h =
    let parts = both (is_fragment at n byte) (are_fragments at (suc n) bytes) h in
    let first = fragment_is at n byte parts.0 in
    let others = fragments_are at k (suc n) bytes (omega arith) parts.1 in
    cc

-- what is a pointer is its fragments
chosen : (b : Bool) (at found : Loc) → (if b then Some at else None) ≡ Some found → (b ≡ true) × (at ≡ found)
chosen true at found h = (refl, cc)
chosen false at found h = cc

from_location : (bytes : List MByte) (o : Option Loc) (found : Loc) →
    option_and_then (λ at. if are_fragments at 0 bytes then Some at else None) o ≡ Some found → bytes ≡ ptr found
from_location bytes None found h = cc
from_location bytes (Some at) found h =
    let parts = chosen (are_fragments at 0 bytes) at found h in
    subst (λ l. bytes ≡ ptr l) parts.1 (fragments_are at 8 0 bytes refl parts.0)

pub pointer_is : (bytes : List MByte) (found : Loc) → pointer_of bytes ≡ Some found → bytes ≡ ptr found
pointer_is bytes found h = from_location bytes (location_in bytes) found h

fragment_of : (at : Loc) (n : ℕ) → is_fragment at n (Frag at n) ≡ true
fragment_of at n = joined (same_location at at) (n == n) (same_as_itself at) ((Decides-eqb n n).1 refl)

fragments_of : (at : Loc) (k n : ℕ) → n + k ≡ 8 → are_fragments at n (fragments at n k) ≡ true
fragments_of at zero n size = (Decides-eqb n 8).1 (omega arith)
fragments_of at (suc k) n size =
    joined (is_fragment at n (Frag at n)) _ (fragment_of at n) (fragments_of at k (suc n) (omega arith))

pub pointer_of_ptr : (at : Loc) → pointer_of (ptr at) ≡ Some at
pointer_of_ptr at =
    ap (λ b. if b then Some at else None) (fragments_of at 8 0 refl)

no_location : (bytes : List MByte) (o : Option Loc) → pointer_of bytes ≡ o → ((at : Loc) → bytes ≡ ptr at → ⊥) →
    pointer_of bytes ≡ None
no_location bytes None is none = is
no_location bytes (Some at) is none = absurd (none at (pointer_is bytes at is))

-- what is no pointer's fragments is no pointer
pub no_pointer : (bytes : List MByte) → ((at : Loc) → bytes ≡ ptr at → ⊥) → pointer_of bytes ≡ None
no_pointer bytes none = no_location bytes (pointer_of bytes) refl none
