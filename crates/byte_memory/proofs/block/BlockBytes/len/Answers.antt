use Rattle.std.proofs.Common.{arith, ap, length, List}
use Rattle.rc_terms.specs.declared.byte.MByte.{MByte}
use Rattle.byte_memory.proofs.CellLemmas.{length-bytes_seen}
use Rattle.byte_memory.proofs.block.BlockBytes.len.Goals as goal

pub returns : goal.returns
returns c =
    let h = c.self.inside.cells.ok in
    omega (
      arith,
      length-bytes_seen c.self.inside.wide.items c.self.inside.cells.items,
      ap
          (λ (bs : List MByte). length bs) c.self.view_is,
    )
