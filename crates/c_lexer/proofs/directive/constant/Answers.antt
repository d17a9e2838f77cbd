use Rattle.std.proofs.Common.{sym, ◌∙◌, drop}
use Rattle.c_lexer.proofs.DirectiveLaws.{no_constant}
use Rattle.c_lexer.proofs.directive.constant.Goals as goal

pub returns-else-is_constant : goal.returns-else-is_constant
returns-else-is_constant c = λ kind text rest is token.
    let at = c.in-Some.ensures in
    no_constant c.args.bytes.now c.in-Some.token.kind _ (drop c.in-Some.token.end c.args.bytes.now) at.2 (sym c.is_constant.ensures ∙ c.if-is_constant.false) kind text rest is token
