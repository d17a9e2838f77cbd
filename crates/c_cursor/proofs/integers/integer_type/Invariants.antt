use Rattle.std.proofs.Common.{◌≡◌, drop}
use Rattle.c_grammar.specs.Specifiers.{integer_type, type_among}
use Rattle.c_cursor.specs.Integers.{spellings_seen}
use Rattle.c_cursor.proofs.integers.integer_type.Given as goal

abbrev pub invariant-loop-spelling : goal.invariant-loop-spelling
invariant-loop-spelling l = integer_type l.words ≡ type_among l.words (spellings_seen (drop l.spelling-index l.spelling-items))
