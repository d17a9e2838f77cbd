use Rattle.c_lexer.proofs.Totality.{passed_reading}
use Rattle.c_lexer.proofs.laws.every_file_has_a_reading.Goals as goal

pub returns : goal.returns
returns c =
    let passed = c.pass.result in
    passed_reading c.args.bytes.now passed.at passed.fresh passed.tokens c.pass.ensures.passed c.pass.ensures.stops
