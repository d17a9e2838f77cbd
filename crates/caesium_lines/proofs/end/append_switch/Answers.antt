use Rattle.std.proofs.Common.{rules, append_assoc}
use Rattle.std.proofs.lemmas.Result.{IfOk-equal}
use Rattle.caesium_lines.proofs.WordLemmas.{spaced-append}
use Rattle.caesium_lines.proofs.end.append_switch.Goals as goal

pub returns : goal.returns
returns c = search (rules, IfOk-equal, append_assoc, spaced-append)
