use Rattle.std.proofs.Common.{sym, ◌∙◌}
use Rattle.std.proofs.lemmas.List.{take_rest}
use Rattle.c_lexer.proofs.DirectiveLaws.{no_end_at}
use Rattle.c_lexer.proofs.directive.line_end.Goals as goal

pub returns-else-is_line_end : goal.returns-else-is_line_end
returns-else-is_line_end c =
    no_end_at c.args.bytes.now _ c.whole_gap-end.result c.whole_gap-end.ensures.behind (take_rest c.args.bytes.now c.whole_gap-end.result) (sym c.is_line_end.ensures ∙ c.if-is_line_end.false)
