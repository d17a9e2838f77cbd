use Rattle.std.proofs.Common.{◌≤◌, ◌<◌, ℕ}
use Rattle.c_lexer.specs.Comments.{ClosesAt}
use Rattle.c_lexer.proofs.comment.closing.Given as goal

abbrev pub invariant-loop-place : goal.invariant-loop-place
invariant-loop-place l = (earlier : ℕ) → 2 ≤ earlier → earlier < l.place → ClosesAt l.bytes earlier → ⊥
