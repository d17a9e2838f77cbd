use Rattle.std.proofs.Common.{◌≡◌, drop}
use Rattle.caesium_ir.specs.Block.{block_labelled}
use Rattle.caesium_ir.proofs.function.first_labelled.Given as goal

-- the first among what is left is the first of all
abbrev pub invariant-loop-block : goal.invariant-loop-block
invariant-loop-block l = block_labelled (drop l.block-index l.blocks) l.label ≡ block_labelled l.blocks l.label
