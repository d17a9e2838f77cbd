use Rattle.std.proofs.Common.{arith}
use Rattle.std.proofs.lemmas.Grind.{common_steps}
use Rattle.caesium_text.specs.Text.{local_line}
use Rattle.caesium_text.proofs.TextLemmas.{text_step, text_past, ended}
use Rattle.caesium_text.proofs.functions.append_locals.Goals as goal

pub loop-local-preserved : goal.loop-local-preserved
loop-local-preserved c =
    grind (arith, common_steps, text_step (local_line c.args.table.now) c.args.locals.now c.loop-local.local-index c.local-item.result (omega arith) c.local-item.is)

pub returns : goal.returns
returns c = ended _ _ _ (text_past (local_line c.args.table.now) c.args.locals.now c.loop-local.local-index (omega arith)) c.loop-local.invariant
