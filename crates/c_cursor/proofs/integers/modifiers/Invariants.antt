use Rattle.std.proofs.Common.{◌≡◌, ◌++◌, drop}
use Rattle.std.specs.List.{filter}
use Rattle.c_grammar.specs.Specifiers.{is_modifier}
use Rattle.c_cursor.proofs.integers.modifiers.Given as goal

abbrev pub invariant-loop-word : goal.invariant-loop-word
invariant-loop-word l = filter is_modifier l.words ≡ l.found ++ filter is_modifier (drop l.word-index l.words)
