use Rattle.std.proofs.Common.{◌≡◌, ◌+◌, drop}
use Rattle.std.specs.List.{prefix_len}
use Rattle.c_lexer.specs.Bytes.{is_word_byte}
use Rattle.c_lexer.proofs.word.word_length.Given as goal

abbrev pub invariant-loop-index : goal.invariant-loop-index
invariant-loop-index l = l.index + prefix_len is_word_byte (drop l.index l.bytes) ≡ prefix_len is_word_byte l.bytes
