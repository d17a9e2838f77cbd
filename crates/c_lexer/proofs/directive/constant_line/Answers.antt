use Rattle.std.proofs.Common.{sym, ◌∙◌, drop, subst}
use Rattle.std.proofs.lemmas.List.{take_rest}
use Rattle.c_lexer.specs.Directives.{EndsLine}
use Rattle.c_lexer.proofs.DirectiveLaws.{same_token_behind}
use Rattle.c_lexer.proofs.directive.constant_line.Goals as goal

pub returns-in-None-line_end : goal.returns-in-None-line_end
returns-in-None-line_end c = λ kind rest line.
    let bytes = c.args.bytes.now in
    let found = c.in-Some.ensures.1 in
    let same = same_token_behind bytes kind c.in-Some.constant.kind line.0 _ line.1 (drop c.in-Some.constant.end bytes) line.3 found.2 in
    c.in-None-line_end.ensures rest (subst (λ l. EndsLine l rest) (same.rest ∙ sym (take_rest bytes c.in-Some.constant.end)) line.4)

pub returns-in-None : goal.returns-in-None
returns-in-None c = λ kind rest line. c.in-None.ensures kind line.0 line.1 line.2 line.3
