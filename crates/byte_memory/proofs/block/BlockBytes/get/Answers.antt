use Rattle.std.proofs.Common.{arith, ap}
use Rattle.byte_memory.specs.declared.cell.Cell.{Cell}
use Rattle.byte_memory.specs.Cells.{byte_seen}
use Rattle.byte_memory.proofs.CellLemmas.{cell_inside, place_inside, byte_is, wide_is}
use Rattle.byte_memory.proofs.block.BlockBytes.get.Goals as goal

pub index-requires : goal.index-requires
index-requires c =
    let h = c.self.inside.cells.ok in
    omega (
      arith,
      cell_inside c.self.inside.wide.items c.self.inside.cells.items c.args.self.now c.args.offset
          c.self.view_is c.requires,
    )

pub index-requires-in-Wide : goal.index-requires-in-Wide
index-requires-in-Wide c =
    let h = c.self.inside.wide.ok in
    let inside = cell_inside c.self.inside.wide.items c.self.inside.cells.items c.args.self.now c.args.offset
    c.self.view_is c.requires in
    omega (
      arith,
      place_inside c.self.inside.wide.items c.self.inside.cells.items c.args.offset c.index.result.now
          c.in-Wide.place c.self.invariant.0 inside c.index.ensures c.in-Wide.is,
    )

pub returns-in-Plain : goal.returns-in-Plain
returns-in-Plain c =
    byte_is c.self.inside.wide.items c.self.inside.cells.items c.args.self.now c.args.offset c.index.result.now _
    c.self.view_is c.requires
    c.index.ensures (ap (λ (cell : Cell). byte_seen c.self.inside.wide.items cell) c.in-Plain.is)

pub returns-in-Poison : goal.returns-in-Poison
returns-in-Poison c =
    byte_is c.self.inside.wide.items c.self.inside.cells.items c.args.self.now c.args.offset c.index.result.now _
    c.self.view_is c.requires
    c.index.ensures (ap (λ (cell : Cell). byte_seen c.self.inside.wide.items cell) c.in-Poison.is)

pub returns-in-Wide : goal.returns-in-Wide
returns-in-Wide c =
    wide_is c.self.inside.wide.items c.self.inside.cells.items c.args.self.now c.args.offset c.index.result.now
    c.in-Wide.place _
    c.self.invariant.0 c.self.view_is c.requires c.index.ensures c.in-Wide.is c.index-in-Wide.ensures
