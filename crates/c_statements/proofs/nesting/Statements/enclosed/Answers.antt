use Rattle.c_statements.specs.Parts.{position_seen}
use Rattle.c_statements.proofs.Parts.{Ended, enclosed-read}
use Rattle.c_statements.proofs.nesting.Statements.enclosed.Goals as goal

pub returns : goal.returns
returns g c =
    let end : Ended c.args.cursor.now c.statement.new.cursor c.leave.new.self = record { scope = c.scope-scope.result; count = c.scope-scope.ensures; leaves = c.leave.ensures } in
    (enclosed-read c.args.self.now.room (position_seen c.args.position) c.args.cursor.now c.statement.new.cursor c.leave.new.self c.in_ok-found.found.tree c.in_ok-found.ensures.0 end, c.in_ok-found.ensures.1)
