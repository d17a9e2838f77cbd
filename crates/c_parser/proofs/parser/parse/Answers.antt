use Rattle.c_parser.proofs.parser.parse.Goals as goal

pub returns-in-Ok-clause-sound : goal.returns-in-Ok-clause-sound
returns-in-Ok-clause-sound c = c.files_are_read_exactly.ensures.sound 200 c.args.tokens.now c.in-Ok.tree c.in-Ok.ensures
