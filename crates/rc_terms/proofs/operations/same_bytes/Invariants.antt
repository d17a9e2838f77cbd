use Rattle.std.proofs.Common.{◌≡◌, drop}
use Rattle.std.specs.Cmp.Lexicographic.{pointwise}
use Rattle.rc_terms.specs.Operators.{same_byte}
use Rattle.rc_terms.proofs.operations.same_bytes.Given as goal

-- the bytes from the index on decide
abbrev pub invariant-loop-index : goal.invariant-loop-index
invariant-loop-index l =
    pointwise same_byte (drop l.index l.bytes) (drop l.index l.others) ≡ pointwise same_byte l.bytes l.others
