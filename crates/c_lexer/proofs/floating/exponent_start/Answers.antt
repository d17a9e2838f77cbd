use Rattle.c_lexer.proofs.Floats.{short_start}
use Rattle.c_lexer.proofs.floating.exponent_start.Goals as goal

pub returns-then-bytes-lt2-clause-start : goal.returns-then-bytes-lt2-clause-start
returns-then-bytes-lt2-clause-start c = short_start c.args.bytes.now c.if-bytes-lt2.true
