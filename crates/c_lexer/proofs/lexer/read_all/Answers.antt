use Rattle.c_lexer.proofs.Readings.{concluded}
use Rattle.c_lexer.proofs.lexer.read_all.Goals as goal

pub returns : goal.returns
returns c =
    let stands = c.loop-reader.invariant in
    concluded c.args.bytes.now c.loop-reader.reader stands c.finish.result c.loop-reader-test.false (c.finish.ensures stands.elements stands.read)
