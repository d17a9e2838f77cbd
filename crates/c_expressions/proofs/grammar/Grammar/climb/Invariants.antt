use Rattle.std.proofs.Common.{◌≡◌, suc, ◌-◌}
use Rattle.c_syntax.specs.Depth.{expression_depth}
use Rattle.c_grammar.specs.Reading.{turns, nested, climb}
use Rattle.c_cursor.specs.Deep.{counted}
use Rattle.c_expressions.proofs.grammar.Grammar.climb.Given as goal

abbrev pub invariant-loop-turn : goal.invariant-loop-turn
invariant-loop-turn g l = record {
  reads : climb 200 (nested 200 l.self.room) l.wanted (suc (turns l.fn.cursor))
      (record { tree = l.fn.first.deep.tree; level = l.fn.first.level; rest = l.fn.cursor })
      ≡ climb 200 (nested 200 l.self.room) l.wanted (l._turn-end - l._turn)
      (record { tree = l.deep.tree; level = l.level; rest = l.cursor });
  deep : l.deep.depth ≡ counted (expression_depth l.deep.tree);
}
