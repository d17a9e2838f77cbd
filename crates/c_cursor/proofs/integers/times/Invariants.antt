use Rattle.std.proofs.Common.{◌≡◌, ◌+◌, ◌≤◌, drop}
use Rattle.c_grammar.specs.Specifiers.{times}
use Rattle.c_cursor.proofs.integers.times.Given as goal

abbrev pub invariant-loop-other : goal.invariant-loop-other
invariant-loop-other l = record {
  sum : times l.word l.list ≡ l.count + times l.word (drop l.other-index l.list);
  fits : l.count ≤ l.other-index;
}
