use Rattle.std.proofs.Common.{◌≡◌, ◌+◌, drop}
use Rattle.std.specs.List.{prefix_len}
use Rattle.c_lexer.specs.Integers.{is_digit_of}
use Rattle.c_lexer.proofs.integer.digits_length.Given as goal

abbrev pub invariant-loop-index : goal.invariant-loop-index
invariant-loop-index l = l.index + prefix_len (is_digit_of l.base) (drop l.index l.bytes) ≡ prefix_len (is_digit_of l.base) l.bytes
