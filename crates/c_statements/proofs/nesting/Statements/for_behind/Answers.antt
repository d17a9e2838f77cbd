use Rattle.c_statements.specs.Parts.{position_seen}
use Rattle.c_statements.proofs.Parts.{Ended, for-read}
use Rattle.c_statements.proofs.nesting.Statements.for_behind.Goals as goal

pub returns : goal.returns
returns g c =
    let end : Ended c.args.cursor.now c.statement.new.cursor c.leave.new.self = record { scope = c.scope-scope.result; count = c.scope-scope.ensures; leaves = c.leave.ensures } in
    let e = for-read c.args.self.now.room c.args.cursor.now c.expect.new.self c.begun.new.cursor c.optional.new.cursor c.expect-2.new.self c.optional-2.new.cursor c.expect-3.new.self c.statement.new.cursor c.leave.new.self c.in_ok-init.init.tree c.in_ok-test.test.tree c.in_ok-step.step.tree c.in_ok-body.body.tree (position_seen c.in_loop.result) c.in_loop.ensures c.in_ok-expect.ensures c.in_ok-init.ensures.0 c.in_ok-test.ensures.0 c.in_ok-expect-2.ensures c.in_ok-step.ensures.0 c.in_ok-expect-3.ensures c.in_ok-body.ensures.0 end in
    (rw c.for_loop.ensures.tree e, c.for_loop.ensures.depth)
