use Rattle.std.proofs.Common.{rules, arith}
use Rattle.std.proofs.lemmas.Grind.{common_steps}
use Rattle.c_statements.specs.Parts.{position_seen}
use Rattle.c_statements.proofs.Parts.{Ended, do-parts, do-read}
use Rattle.c_statements.proofs.nesting.Statements.do_behind.Goals as goal

pub returns-in_err-body : goal.returns-in_err-body
returns-in_err-body g c = let e = do-parts c.args.self.now.room c.args.cursor.now in first_of (search rules, grind (arith, common_steps))

pub returns-then-not-keyword : goal.returns-then-not-keyword
returns-then-not-keyword g c = let e = do-parts c.args.self.now.room c.args.cursor.now in first_of (search rules, grind (arith, common_steps))

pub returns-in_err-test : goal.returns-in_err-test
returns-in_err-test g c = let e = do-parts c.args.self.now.room c.args.cursor.now in first_of (search rules, grind (arith, common_steps))

pub returns-in_err-expect : goal.returns-in_err-expect
returns-in_err-expect g c = let e = do-parts c.args.self.now.room c.args.cursor.now in first_of (search rules, grind (arith, common_steps))

pub returns : goal.returns
returns g c =
    let end : Ended c.args.cursor.now c.expect.new.self c.leave.new.self = record { scope = c.scope-scope.result; count = c.scope-scope.ensures; leaves = c.leave.ensures } in
    let e = do-read c.args.self.now.room c.args.cursor.now c.enclosed.new.cursor c.keyword.new.self c.tested.new.cursor c.expect.new.self c.leave.new.self c.in_ok-body.body.tree c.in_ok-test.test.tree (position_seen c.in_loop.result) c.in_loop.ensures c.in_ok-body.ensures.0 c.if-not-keyword.ensures c.in_ok-test.ensures.0 c.in_ok-expect.ensures end in
    (rw c.do_loop.ensures.tree e, c.do_loop.ensures.depth)
