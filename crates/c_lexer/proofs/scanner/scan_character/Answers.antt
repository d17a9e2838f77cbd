use Rattle.c_lexer.proofs.ScanQuotes.{character_scanned, no_character_begins}
use Rattle.c_lexer.proofs.scanner.scan_character.Goals as goal

pub returns-in-Some : goal.returns-in-Some
returns-in-Some c = character_scanned c.args.bytes.now c.in-Some.quoted.length c.in-Some.quoted.constant c.requires.quote c.in-Some.ensures.0 c.in-Some.ensures.1

pub returns-in-None : goal.returns-in-None
returns-in-None c = no_character_begins c.args.bytes.now c.requires.quote c.requires.some c.in-None.ensures
