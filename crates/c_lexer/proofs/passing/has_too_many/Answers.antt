use Rattle.std.proofs.lemmas.Bool.{ltb-true}
use Rattle.c_lexer.specs.Files.{token_limit}
use Rattle.c_lexer.proofs.Totality.{many_passed}
use Rattle.c_lexer.proofs.passing.has_too_many.Goals as goal

pub returns-then-bytes-all : goal.returns-then-bytes-all
returns-then-bytes-all c = λ many.
    let all = c.pass-all.result in
    many_passed c.args.bytes.now all.at all.fresh all.tokens c.pass-all.ensures.passed c.if-bytes-all.true (ltb-true token_limit all.tokens many)
