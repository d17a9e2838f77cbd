use Rattle.c_lexer.proofs.Gaps.{line_found}
use Rattle.c_lexer.proofs.comment.comment_length.Goals as goal

pub returns-then-bytes-eq47 : goal.returns-then-bytes-eq47
returns-then-bytes-eq47 c = line_found c.args.bytes.now c.line_length.result c.line_length.ensures c.if-bytes-lt2.false c.if-bytes-ne47.false c.if-bytes-eq47.true
