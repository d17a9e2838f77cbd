use Rattle.std.proofs.Common.{sym, ◌∙◌}
use Rattle.std.proofs.lemmas.List.{take_rest}
use Rattle.c_lexer.proofs.DirectiveLaws.{none_at_blank, none_at_unread, located_at}
use Rattle.c_lexer.proofs.directive.first_token.Goals as goal

pub returns-then-begins_blank : goal.returns-then-begins_blank
returns-then-begins_blank c =
    none_at_blank c.args.bytes.now _ c.whole_gap-start.result c.whole_gap-start.ensures.behind (take_rest c.args.bytes.now c.whole_gap-start.result) (sym c.begins_blank.ensures ∙ c.if-begins_blank.true)

pub returns-in-Ok : goal.returns-in-Ok
returns-in-Ok c =
    located_at c.args.bytes.now _ c.whole_gap-start.result c.whole_gap-start.ensures.behind (take_rest c.args.bytes.now c.whole_gap-start.result) c.in-Ok.scanned.kind c.in-Ok.scanned.length
    c.whole_gap-start.ensures.within c.in-Ok.ensures.0 c.in-Ok.ensures.1

pub returns-in-Err : goal.returns-in-Err
returns-in-Err c =
    none_at_unread c.args.bytes.now _ c.whole_gap-start.result c.whole_gap-start.ensures.behind (take_rest c.args.bytes.now c.whole_gap-start.result) c.in-Err.ensures.0
