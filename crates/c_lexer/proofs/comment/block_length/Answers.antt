use Rattle.c_lexer.proofs.Gaps.{block_found, no_block}
use Rattle.c_lexer.proofs.comment.block_length.Goals as goal

pub returns-in-Some : goal.returns-in-Some
returns-in-Some c =
    let found = c.in-Some.ensures.found in
    (found.1, block_found c.args.bytes.now c.in-Some.place found.0 found.1 c.requires.slash c.requires.star found.2 found.3)

pub returns-in-None : goal.returns-in-None
returns-in-None c = no_block c.args.bytes.now c.requires.star c.in-None.ensures.none
