use Rattle.std.proofs.Common.{codes, drop}
use Rattle.std.proofs.lemmas.Bool.Decides.{Decides-eqb}
use Rattle.std.proofs.lemmas.Slice.Eq.{starts_is}
use Rattle.c_lexer.proofs.header.Header.at_front.Goals as goal

pub returns-then-starts_with-3-clause-found : goal.returns-then-starts_with-3-clause-found
returns-then-starts_with-3-clause-found c = (drop 11 c.args.bytes.now, (starts_is Decides-eqb c.args.bytes.now (codes "<stdbool.h>") c.starts_with-else-starts_with-2.result c.starts_with-else-starts_with-2.ensures.value).0 c.if-starts_with-3.true)

pub returns-then-starts_with-4-clause-found : goal.returns-then-starts_with-4-clause-found
returns-then-starts_with-4-clause-found c = (drop 13 c.args.bytes.now, (starts_is Decides-eqb c.args.bytes.now (codes "<stdatomic.h>") c.starts_with-else-starts_with-3.result c.starts_with-else-starts_with-3.ensures.value).0 c.if-starts_with-4.true)

pub returns-then-starts_with-5-clause-found : goal.returns-then-starts_with-5-clause-found
returns-then-starts_with-5-clause-found c = (drop 12 c.args.bytes.now, (starts_is Decides-eqb c.args.bytes.now (codes "<refinedc.h>") c.starts_with-else-starts_with-4.result c.starts_with-else-starts_with-4.ensures.value).0 c.if-starts_with-5.true)
