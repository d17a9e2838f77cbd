use Rattle.c_statements.specs.Parts.{position_seen}
use Rattle.c_statements.proofs.Parts.{Ended, while-read}
use Rattle.c_statements.proofs.nesting.Statements.while_behind.Goals as goal

pub returns : goal.returns
returns g c =
    let end : Ended c.args.cursor.now c.statement.new.cursor c.leave.new.self = record { scope = c.scope-scope.result; count = c.scope-scope.ensures; leaves = c.leave.ensures } in
    let e = while-read c.args.self.now.room c.args.cursor.now c.tested.new.cursor c.statement.new.cursor c.leave.new.self c.in_ok-test.test.tree c.in_ok-body.body.tree (position_seen c.in_loop.result) c.in_loop.ensures c.in_ok-test.ensures.0 c.in_ok-body.ensures.0 end in
    (rw c.while_loop.ensures.tree e, c.while_loop.ensures.depth)
