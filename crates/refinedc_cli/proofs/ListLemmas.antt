-- Short lists from what is read at their places.
use Rattle.std.proofs.Common.{◌≡◌, ◌<◌, ◌≤◌, List, [], ◌∷◌, length, get_or, arith}

pub two_from_reads : {A : Type 0} (xs : List A) (a b : A) → 2 ≤ length xs → length xs < 3 → a ≡ get_or xs 0 a → b ≡ get_or xs 1 b → xs ≡ a ∷ b ∷ []
two_from_reads [] a b low high first second = absurd (omega arith)
two_from_reads (x ∷ []) a b low high first second = absurd (omega arith)
two_from_reads (x ∷ y ∷ []) a b low high first second = cc
two_from_reads (x ∷ y ∷ z ∷ xs) a b low high first second = absurd (omega arith)
