use Rattle.std.proofs.Common.{rules, append_assoc}
use Rattle.std.proofs.lemmas.Result.{IfOk-equal}
use Rattle.caesium_text.proofs.TextLemmas.{text_of_first, text_of_both}
use Rattle.caesium_text.proofs.functions.append_function.Goals as goal

pub returns : goal.returns
returns c = search (rules, IfOk-equal, append_assoc, text_of_first, text_of_both)
