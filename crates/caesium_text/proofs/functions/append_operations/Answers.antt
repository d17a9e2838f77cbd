use Rattle.std.proofs.Common.{arith, ◌++◌}
use Rattle.std.proofs.lemmas.Grind.{common_steps}
use Rattle.caesium_text.specs.Text.{op_line}
use Rattle.caesium_text.proofs.TextLemmas.{text_step, text_past, ended}
use Rattle.caesium_text.proofs.functions.append_operations.Goals as goal

pub loop-placed-preserved : goal.loop-placed-preserved
loop-placed-preserved c =
    grind (arith, common_steps, text_step (op_line c.args.table.now (c.args.parameters.now ++ c.args.locals.now)) c.args.operations.now c.loop-placed.placed-index c.placed-item.result (omega arith) c.placed-item.is)

pub returns : goal.returns
returns c = ended _ _ _ (text_past (op_line c.args.table.now (c.args.parameters.now ++ c.args.locals.now)) c.args.operations.now c.loop-placed.placed-index (omega arith)) c.loop-placed.invariant
