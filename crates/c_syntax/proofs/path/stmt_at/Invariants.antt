use Rattle.std.proofs.Common.{◌≡◌, drop}
use Rattle.c_syntax.specs.Statements.{statement_at}
use Rattle.c_syntax.proofs.path.stmt_at.Given as goal

abbrev pub invariant-loop-number : goal.invariant-loop-number
invariant-loop-number l =
    statement_at l.body l.path.children ≡ statement_at l.statement (drop l.number-index l.path.children)
