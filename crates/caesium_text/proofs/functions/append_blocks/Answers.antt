use Rattle.std.proofs.Common.{arith, ◌++◌}
use Rattle.std.specs.List.{flat_map}
use Rattle.caesium_text.specs.Text.{lines_text, block_lines}
use Rattle.caesium_text.proofs.TextLemmas.{flat_step, flat_past, stepped, ended}
use Rattle.caesium_text.proofs.functions.append_blocks.Goals as goal

pub loop-block-preserved : goal.loop-block-preserved
loop-block-preserved c =
    stepped c.args.text.now _ _ _ _ _ (lines_text (flat_map (block_lines c.args.table.now (c.args.parameters.now ++ c.args.locals.now)) c.args.blocks.now)) c.in_ok-append_block.ensures (flat_step (block_lines c.args.table.now (c.args.parameters.now ++ c.args.locals.now)) c.args.blocks.now c.loop-block.block-index c.block-item.result (omega arith) c.block-item.is) c.loop-block.invariant

pub returns : goal.returns
returns c = ended _ _ _ (flat_past (block_lines c.args.table.now (c.args.parameters.now ++ c.args.locals.now)) c.args.blocks.now c.loop-block.block-index (omega arith)) c.loop-block.invariant
