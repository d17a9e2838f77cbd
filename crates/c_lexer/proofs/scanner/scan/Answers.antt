use Rattle.std.proofs.Common.{sym, ◌∙◌}
use Rattle.c_lexer.proofs.PunctuatorScans.{no_token_but_comment}
use Rattle.c_lexer.proofs.scanner.scan.Goals as goal

pub returns-then-begins_comment : goal.returns-then-begins_comment
returns-then-begins_comment c = no_token_but_comment c.args.bytes.now (sym c.begins_comment.ensures ∙ c.if-begins_comment.true)
