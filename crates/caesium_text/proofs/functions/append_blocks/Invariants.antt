use Rattle.std.proofs.Common.{◌≡◌, ◌++◌, drop}
use Rattle.caesium_text.specs.Text.{lines_text, block_lines}
use Rattle.std.specs.List.{flat_map}
use Rattle.caesium_text.proofs.functions.append_blocks.Given as goal

-- the text so far and the blocks to come are the text with all
abbrev pub invariant-loop-block : goal.invariant-loop-block
invariant-loop-block l = l.text ++ lines_text (flat_map (block_lines l.table (l.parameters ++ l.locals)) (drop l.block-index l.blocks))
    ≡ l.fn.text ++ lines_text (flat_map (block_lines l.table (l.parameters ++ l.locals)) l.blocks)
