use Rattle.std.proofs.Common.{◌-◌, ◌≤◌, ℕ, List, length, drop}
use Rattle.c_lexer.specs.Comments.{IsGap}
use Rattle.c_lexer.proofs.gap.whole_gap.Given as goal

abbrev pub invariant-loop-length : goal.invariant-loop-length
invariant-loop-length l = record {
  within : l.at ≤ length l.bytes;
  passed : (afters : List (List ℕ)) × IsGap afters l.bytes (drop l.at l.bytes);
}

abbrev pub decreases-loop-length : goal.decreases-loop-length
decreases-loop-length l = length l.bytes - l.at
