use Rattle.std.proofs.Common.{arith, refl, length-set}
use Rattle.byte_memory.specs.declared.cell.Cell.TheVariants.{Plain, Poison, Wide}
use Rattle.byte_memory.proofs.CellLemmas.{cell_inside, place_inside, narrow_at, room_left, in_place-narrow}
use Rattle.byte_memory.proofs.CellLemmas.{fresh_in_place}
use Rattle.byte_memory.proofs.CellLemmas.{seen-narrow, fresh_seen, seen-wide}
use Rattle.byte_memory.proofs.block.BlockBytes.set.Goals as goal

pub index-requires : goal.index-requires
index-requires c =
    let h = c.self.inside.cells.ok in
    omega (
      arith,
      cell_inside c.self.inside.wide.items c.self.inside.cells.items c.args.self.now c.args.offset
          c.self.view_is c.requires,
    )

pub index_mut-requires : goal.index_mut-requires
index_mut-requires c =
    let h = c.self.inside.wide.ok in
    let inside = cell_inside c.self.inside.wide.items c.self.inside.cells.items c.args.self.now c.args.offset
    c.self.view_is c.requires in
    omega (
      arith,
      place_inside c.self.inside.wide.items c.self.inside.cells.items c.args.offset c.index.result.now
          c.in-Wide.place c.self.invariant.0 inside c.index.ensures c.in-Wide.is,
    )

pub returns-in-Wide : goal.returns-in-Wide
returns-in-Wide c =
    seen-wide c.self.inside.wide.items c.self.inside.cells.items c.args.self.now c.args.offset c.index.result.now
    c.in-Wide.place c.args.byte
    c.self.invariant.0 c.self.view_is c.requires c.index.ensures c.in-Wide.is

pub index_mut-requires-in-Byte : goal.index_mut-requires-in-Byte
index_mut-requires-in-Byte c =
    let h = c.self.inside.cells.ok in
    omega (
      arith,
      cell_inside c.self.inside.wide.items c.self.inside.cells.items c.args.self.now c.args.offset
          c.self.view_is c.requires,
    )

pub invariant_of-self-in-Byte : goal.invariant_of-self-in-Byte
invariant_of-self-in-Byte c =
    let at = narrow_at c.self.inside.wide.items c.self.inside.cells.items c.args.self.now c.args.offset
    c.index.result.now c.self.view_is c.requires c.index.ensures c.in_default.not-Wide in
    let long = length-set c.self.inside.cells.items c.args.offset (Plain c.in-Byte.plain) in
    (in_place-narrow _ _ _ _ c.self.invariant.0 at.inside at.narrow refl, omega arith, omega arith)

pub returns-in-Byte : goal.returns-in-Byte
returns-in-Byte c =
    seen-narrow c.self.inside.wide.items c.self.inside.cells.items c.args.self.now c.args.offset
    (Plain c.in-Byte.plain) c.args.byte c.self.view_is c.in-Byte.is

pub index_mut-requires-in-Poison : goal.index_mut-requires-in-Poison
index_mut-requires-in-Poison c =
    let h = c.self.inside.cells.ok in
    omega (
      arith,
      cell_inside c.self.inside.wide.items c.self.inside.cells.items c.args.self.now c.args.offset
          c.self.view_is c.requires,
    )

pub invariant_of-self-in-Poison : goal.invariant_of-self-in-Poison
invariant_of-self-in-Poison c =
    let at = narrow_at c.self.inside.wide.items c.self.inside.cells.items c.args.self.now c.args.offset
    c.index.result.now c.self.view_is c.requires c.index.ensures c.in_default.not-Wide in
    let long = length-set c.self.inside.cells.items c.args.offset Poison in
    (in_place-narrow _ _ _ _ c.self.invariant.0 at.inside at.narrow refl, omega arith, omega arith)

pub returns-in-Poison : goal.returns-in-Poison
returns-in-Poison c =
    seen-narrow c.self.inside.wide.items c.self.inside.cells.items c.args.self.now c.args.offset Poison c.args.byte
    c.self.view_is c.in-Poison.is

pub overflow_cast-place-in-Frag : goal.overflow_cast-place-in-Frag
overflow_cast-place-in-Frag c =
    let at = narrow_at c.self.inside.wide.items c.self.inside.cells.items c.args.self.now c.args.offset
    c.index.result.now c.self.view_is c.requires c.index.ensures c.in_default.not-Wide in
    let room = room_left c.self.inside.cells.items c.args.offset at.inside at.narrow in
    let h = c.self.inside.wide.ok in
    record { fits = omega (arith, c.self.invariant.0.counted) }

pub push_reserved-requires : goal.push_reserved-requires
push_reserved-requires c =
    let at = narrow_at c.self.inside.wide.items c.self.inside.cells.items c.args.self.now c.args.offset
    c.index.result.now c.self.view_is c.requires c.index.ensures c.in_default.not-Wide in
    let room = room_left c.self.inside.cells.items c.args.offset at.inside at.narrow in
    let h = c.self.inside.wide.ok in
    omega (arith, c.self.invariant.0.counted)

pub index_mut-requires-in-Frag : goal.index_mut-requires-in-Frag
index_mut-requires-in-Frag c =
    let h = c.self.inside.cells.ok in
    omega (
      arith,
      cell_inside c.self.inside.wide.items c.self.inside.cells.items c.args.self.now c.args.offset
          c.self.view_is c.requires,
    )

pub invariant_of-self-in-Frag : goal.invariant_of-self-in-Frag
invariant_of-self-in-Frag c =
    let at = narrow_at c.self.inside.wide.items c.self.inside.cells.items c.args.self.now c.args.offset
    c.index.result.now c.self.view_is c.requires c.index.ensures c.in_default.not-Wide in
    let long = length-set c.self.inside.cells.items c.args.offset (Wide c.len-place.result) in
    let h = c.self.inside.wide.ok in (
      fresh_in_place c.self.inside.wide.items _ _ _ _ _ c.self.invariant.0 at c.push_reserved.ensures.items
          (omega arith),
      omega arith,
      omega arith,
    )

pub returns-in-Frag : goal.returns-in-Frag
returns-in-Frag c =
    let h = c.self.inside.wide.ok in
    fresh_seen c.self.inside.wide.items c.push_reserved.new.self.items c.self.inside.cells.items c.args.self.now
    c.args.offset c.len-place.result c.args.byte
    c.self.invariant.0 c.self.view_is c.push_reserved.ensures.items (omega arith)
