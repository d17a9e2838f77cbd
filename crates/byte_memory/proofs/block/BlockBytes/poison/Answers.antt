use Rattle.std.proofs.Common.{◌∙◌, ap}
use Rattle.byte_memory.specs.Cells.{bytes_seen}
use Rattle.byte_memory.proofs.CellLemmas.{bytes_seen-poison}
use Rattle.byte_memory.proofs.block.BlockBytes.poison.Goals as goal

pub returns : goal.returns
returns c =
    ap (λ cells. bytes_seen c.in_ok-wide.wide.items cells) (c.in_ok-cells.ensures.items_if_clones_equal (λ _ e. e))
    ∙ bytes_seen-poison c.in_ok-wide.wide.items c.args.len
