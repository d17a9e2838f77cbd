use Rattle.std.proofs.Common.{◌≡◌, ◌+◌, drop}
use Rattle.std.specs.List.{prefix_len}
use Rattle.c_lexer.specs.Bytes.{is_line_byte}
use Rattle.c_lexer.proofs.comment.line_length.Given as goal

abbrev pub invariant-loop-index : goal.invariant-loop-index
invariant-loop-index l = l.index + prefix_len is_line_byte (drop l.index l.bytes) ≡ prefix_len is_line_byte l.bytes
