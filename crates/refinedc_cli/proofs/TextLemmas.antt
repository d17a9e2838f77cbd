-- A format's pieces, grouped to the right, are those grouped to the left.
use Rattle.std.proofs.Common.{◌≡◌, ℕ, List, ◌++◌, append_assoc}
use Rattle.std.specs.Prelude.{codes}

pub place_pieces : (name line column : List ℕ) → name ++ (codes ":" ++ (line ++ (codes ":" ++ (column ++ codes ": "))))
    ≡ name ++ codes ":" ++ line ++ codes ":" ++ column ++ codes ": "
place_pieces name line column = simp append_assoc

pub goal_pieces : (left right : List ℕ) → codes "unsolved " ++ (left ++ (codes " = " ++ right)) ≡ codes "unsolved " ++ left ++ codes " = " ++ right
goal_pieces left right = simp append_assoc
