use Rattle.c_statements.specs.Parts.{position_seen}
use Rattle.c_statements.proofs.Parts.{Ended, switch-read}
use Rattle.c_statements.proofs.nesting.Statements.switch_behind.Goals as goal

pub returns : goal.returns
returns g c =
    let end : Ended c.args.cursor.now c.switch_body.new.cursor c.leave.new.self = record { scope = c.scope-scope.result; count = c.scope-scope.ensures; leaves = c.leave.ensures } in
    let e = switch-read c.args.self.now.room (position_seen c.args.position) c.args.cursor.now c.tested.new.cursor c.switch_body.new.cursor c.leave.new.self c.in_ok-value.value.tree c.in_ok-body.body.tree (position_seen c.in_switch.result) c.in_switch.ensures c.in_ok-value.ensures.0 c.in_ok-body.ensures.0 end in
    (rw c.switch.ensures.tree e, c.switch.ensures.depth)
