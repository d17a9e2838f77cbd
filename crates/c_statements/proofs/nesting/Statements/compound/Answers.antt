use Rattle.c_statements.specs.Parts.{position_seen}
use Rattle.c_statements.proofs.Parts.{Ended, compound-read}
use Rattle.c_statements.proofs.nesting.Statements.compound.Goals as goal

pub returns : goal.returns
returns g c =
    let end : Ended c.args.cursor.now c.children.new.cursor c.leave.new.self = record { scope = c.scope-scope.result; count = c.scope-scope.ensures; leaves = c.leave.ensures } in
    let e = compound-read c.args.self.now.room (position_seen c.args.position) c.args.cursor.now c.children.new.cursor c.leave.new.self c.in_ok-children.children.tree c.in_ok-children.ensures.0 end in
    (rw c.compound.ensures.tree e, c.compound.ensures.depth)
