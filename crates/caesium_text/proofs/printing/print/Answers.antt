use Rattle.std.proofs.Common.{rules, append_assoc}
use Rattle.caesium_text.proofs.TextLemmas.{text_of_both}
use Rattle.caesium_text.proofs.printing.print.Goals as goal

pub returns : goal.returns
returns c = search (rules, append_assoc, text_of_both)
