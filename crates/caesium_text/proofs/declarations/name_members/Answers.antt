use Rattle.std.proofs.Common.{arith, drop}
use Rattle.std.proofs.lemmas.Grind.{common_steps}
use Rattle.caesium_text.proofs.TextLemmas.{offsets_past}
use Rattle.caesium_text.proofs.declarations.name_members.Goals as goal

pub returns : goal.returns
returns c =
    grind (arith, common_steps, offsets_past c.args.table.now c.args.offsets.now (drop c.loop-number.number c.args.members.now) c.loop-number.number (omega arith))
