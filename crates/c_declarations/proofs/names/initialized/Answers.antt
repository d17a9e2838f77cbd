use Rattle.std.proofs.Common.{rules, arith}
use Rattle.std.proofs.lemmas.Grind.{common_steps}
use Rattle.c_grammar.specs.DeclarationReading.{initialized}
use Rattle.c_declarations.proofs.Kept.{leaves-behind}
use Rattle.c_declarations.proofs.names.initialized.Goals as goal

pub returns-in_ok-declare : goal.returns-in_ok-declare
unfolding initialized
returns-in_ok-declare c =
    let k = leaves-behind c.args.cursor.now c.pointers.new.cursor c.in_ok-pointers.pointers
    (record { name = c.in_ok-name.name; rest = c.declared_name.new.cursor }) c.mark.new.self
    c.function_behind.new.cursor c.leave.new.self c.in_ok-function.function.tree c.scope-scope.result c.in_ok-pointers.ensures c.in_ok-name.ensures
    c.if-mark.ensures c.in_ok-function.ensures.0 c.scope-scope.ensures c.leave.ensures in
    first_of (search rules, grind (arith, common_steps))
