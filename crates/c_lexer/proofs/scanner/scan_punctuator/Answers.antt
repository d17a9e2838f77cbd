use Rattle.std.proofs.Common.{ap, length}
use Rattle.c_lexer.proofs.PunctuatorScans.{punctuator_scanned, no_punctuator_begins}
use Rattle.c_lexer.proofs.scanner.scan_punctuator.Goals as goal

pub returns-in-Some : goal.returns-in-Some
returns-in-Some c = punctuator_scanned c.args.bytes.now c.requires c.in-Some.punctuator (length c.text.result.now) (ap length c.text.ensures) c.in-Some.ensures

pub returns-in-None : goal.returns-in-None
returns-in-None c = no_punctuator_begins c.args.bytes.now c.requires c.in-None.ensures
