use Rattle.std.proofs.Common.{rules, arith}
use Rattle.std.proofs.lemmas.Grind.{common_steps}
use Rattle.c_statements.specs.Parts.{position_seen}
use Rattle.c_statements.proofs.Parts.{Ended, if-parts, if-read}
use Rattle.c_statements.proofs.nesting.Statements.if_behind.Goals as goal

pub returns-in_err-test : goal.returns-in_err-test
returns-in_err-test g c = let e = if-parts c.args.self.now.room (position_seen c.args.position) c.args.cursor.now in first_of (search rules, grind (arith, common_steps))

pub returns-in_err-then : goal.returns-in_err-then
returns-in_err-then g c = let e = if-parts c.args.self.now.room (position_seen c.args.position) c.args.cursor.now in first_of (search rules, grind (arith, common_steps))

pub returns-in_err-found : goal.returns-in_err-found
returns-in_err-found g c = let e = if-parts c.args.self.now.room (position_seen c.args.position) c.args.cursor.now in first_of (search rules, grind (arith, common_steps))

pub returns : goal.returns
returns g c =
    let end : Ended c.args.cursor.now c.perhaps_else.new.cursor c.leave.new.self = record { scope = c.scope-scope.result; count = c.scope-scope.ensures; leaves = c.leave.ensures } in
    (if-read c.args.self.now.room (position_seen c.args.position) c.args.cursor.now c.tested.new.cursor c.enclosed.new.cursor c.perhaps_else.new.cursor c.leave.new.self c.in_ok-test.test.tree c.in_ok-then.then.tree c.in_ok-found.found.tree c.in_ok-test.ensures.0 c.in_ok-then.ensures.0 c.in_ok-found.ensures.0 end, c.in_ok-found.ensures.1)
