use Rattle.std.proofs.lemmas.List.{take_rest}
use Rattle.c_lexer.proofs.Elements.{no_directive_at, opens_hash}
use Rattle.c_lexer.proofs.element.directive.Goals as goal

pub returns-in-None : goal.returns-in-None
returns-in-None c = (no_directive_at c.args.bytes.now _ (take_rest c.args.bytes.now 1) c.in-None.ensures, opens_hash c.args.bytes.now c.requires.some c.requires.hash)
