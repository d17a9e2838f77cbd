use Rattle.std.proofs.Common.{◌≡◌, Some}
use Rattle.c_grammar.specs.Specifiers.{type_start}
use Rattle.c_cursor.specs.Starts.{type_seen}
use Rattle.c_expressions.specs.Parts.{reader}
use Rattle.c_expressions.proofs.TypeSteps.{type-by}
use Rattle.c_expressions.proofs.grammar.Grammar.single_type.Goals as goal

pub returns-in-Some : goal.returns-in-Some
returns-in-Some g c =
    let begins : type_start c.args.cursor.now
    ≡ Some (record { start = type_seen c.in-Some.start; rest = c.skip.new.self }) = cc c.in-Some.ensures in
    rw (type-by (reader c.args.self.now.room) c.args.cursor.now c.skip.new.self (type_seen c.in-Some.start) begins)
    c.single_by.ensures
