use Rattle.std.proofs.Common.{◌≡◌, ◌-◌}
use Rattle.c_grammar.specs.Reading.{words, words_from}
use Rattle.c_cursor.specs.Words.{test_of}
use Rattle.c_cursor.proofs.Turns.{behind}
use Rattle.c_cursor.proofs.type_words.words.Given as goal

abbrev pub invariant-loop-turn : goal.invariant-loop-turn
invariant-loop-turn l = words (test_of l.test) l.fn.cursor ≡ behind l.found (words_from (test_of l.test) (l._turn-end - l._turn) l.cursor)
