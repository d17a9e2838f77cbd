use Rattle.std.proofs.Common.{sym, ◌∙◌, drop}
use Rattle.c_lexer.proofs.DirectiveLaws.{no_identifier}
use Rattle.c_lexer.proofs.directive.identifier.Goals as goal

pub returns-else-is_identifier : goal.returns-else-is_identifier
returns-else-is_identifier c =
    no_identifier c.args.bytes.now c.in-Some.word.kind _ (drop c.in-Some.word.end c.args.bytes.now) c.in-Some.ensures.2 (sym c.is_identifier.ensures ∙ c.if-is_identifier.false)
