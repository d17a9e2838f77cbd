use Rattle.std.proofs.Common.{◌≡◌, ◌+◌, ◌-◌, Some, rules, arith}
use Rattle.std.proofs.lemmas.Grind.{common_steps}
use Rattle.c_lexer.specs.declared.punctuator.Punctuator.TheVariants as marks
use Rattle.c_syntax.specs.declared.declaration.InitDeclarator.TheVariants as declarators
use Rattle.c_syntax.specs.Depth.{specifier_depth}
use Rattle.c_grammar.specs.Input.{mark}
use Rattle.c_grammar.specs.Declarations.{behind_function}
use Rattle.c_grammar.specs.DeclarationReading.{function_names_from}
use Rattle.c_cursor.proofs.Turns.{one_more, no_more, behind, behind-behind, behind-nothing}
use Rattle.c_expressions.specs.Parts.{reader}
use Rattle.c_declarations.proofs.Depth.{initializers-more}
use Rattle.c_declarations.proofs.FunctionSteps.{function-more}
use Rattle.c_declarations.proofs.Kept.{leaves}
use Rattle.c_declarations.proofs.functions.function_names.Goals as goal

pub returns-in_err-function : goal.returns-in_err-function
unfolding function_names_from
returns-in_err-function c =
    let e = one_more (λ n. behind c.loop-turn.tree (function_names_from (reader 200) n c.loop-turn.cursor))
    _ c.loop-turn._turn c.loop-turn-test.true c.loop-turn.invariant.reads in
    first_of (search rules, grind (arith, common_steps, behind-behind, behind-nothing))

pub returns-in_err-expect : goal.returns-in_err-expect
unfolding function_names_from
returns-in_err-expect c =
    let e = one_more (λ n. behind c.loop-turn.tree (function_names_from (reader 200) n c.loop-turn.cursor))
    _ c.loop-turn._turn c.loop-turn-test.true c.loop-turn.invariant.reads in
    let k = leaves c.loop-turn.cursor c.function_declared.new.cursor c.leave.new.self c.in_ok-function.function.tree
    c.scope-scope.result c.scope-scope.ensures c.in_ok-function.ensures.0 c.leave.ensures in
    first_of (search rules, grind (arith, common_steps, behind-behind, behind-nothing))

pub returns-then-not-mark : goal.returns-then-not-mark
unfolding function_names_from
returns-then-not-mark c =
    let e = one_more (λ n. behind c.loop-turn.tree (function_names_from (reader 200) n c.loop-turn.cursor))
    _ c.loop-turn._turn c.loop-turn-test.true c.loop-turn.invariant.reads in
    let k = leaves c.loop-turn.cursor c.function_declared.new.cursor c.leave.new.self c.in_ok-function.function.tree
    c.scope-scope.result c.scope-scope.ensures c.in_ok-function.ensures.0 c.leave.ensures in
    let d = initializers-more (specifier_depth c.args.specifier.now.tree) c.loop-turn.tree
    (declarators.Function c.in_ok-function.function.tree) in
    (first_of (search rules, grind (arith, common_steps, behind-nothing)), first_of (search rules, grind arith))

pub loop-turn-preserved : goal.loop-turn-preserved
unfolding function_names_from
loop-turn-preserved c =
    let e = one_more (λ n. behind c.loop-turn.tree (function_names_from (reader 200) n c.loop-turn.cursor))
    _ c.loop-turn._turn c.loop-turn-test.true c.loop-turn.invariant.reads in
    let k = leaves c.loop-turn.cursor c.function_declared.new.cursor c.leave.new.self c.in_ok-function.function.tree
    c.scope-scope.result c.scope-scope.ensures c.in_ok-function.ensures.0 c.leave.ensures in
    let d = initializers-more (specifier_depth c.args.specifier.now.tree) c.loop-turn.tree
    (declarators.Function c.in_ok-function.function.tree) in
    let m : mark marks.Comma
    (behind_function c.loop-turn.cursor c.in_ok-function.function.tree c.function_declared.new.cursor) ≡ Some c.mark.new.self = first_of (cc, grind (arith, common_steps)) in
    let more = function-more (c.turns-turn-end.result - (c.loop-turn._turn + 1)) c.loop-turn.tree c.loop-turn.cursor
    c.function_declared.new.cursor c.mark.new.self c.in_ok-function.function.tree c.in_ok-function.ensures.0 m in
    record {
      reads = first_of (cc (e, more), grind (arith, more));
      deep = first_of (search rules, grind arith);
    }

pub returns : goal.returns
unfolding function_names_from
returns c =
    let e = no_more (λ n. behind c.loop-turn.tree (function_names_from (reader 200) n c.loop-turn.cursor))
    _ c.loop-turn._turn c.loop-turn-test.false c.loop-turn.invariant.reads in
    first_of (search rules, grind (arith, common_steps, behind-behind, behind-nothing))
