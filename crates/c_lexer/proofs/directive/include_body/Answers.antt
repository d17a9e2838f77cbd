use Rattle.std.proofs.Common.{sym, subst}
use Rattle.std.proofs.lemmas.List.{take_rest}
use Rattle.c_lexer.specs.Scanning.Directives.{IsHeaderLine}
use Rattle.c_lexer.proofs.directive.include_body.Goals as goal

pub returns-in-None : goal.returns-in-None
returns-in-None c = λ header rest line. c.in-None.ensures header rest (subst (λ l. IsHeaderLine l header rest) (sym (take_rest c.args.bytes.now c.args.end)) line)
