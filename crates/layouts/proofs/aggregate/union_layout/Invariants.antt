use Rattle.std.proofs.Common.{◌≡◌, ◌<◌, ◌^◌, map, take}
use Rattle.layouts.specs.Members.{greatest_align, greatest_size}
use Rattle.layouts.specs.Table.{extent_of}
use Rattle.layouts.proofs.aggregate.union_layout.Given as goal

abbrev pub invariant-loop-member : goal.invariant-loop-member
invariant-loop-member l =
    let ms = map (extent_of l.table) (take l.member-index l.members) in
    (l.size ≡ greatest_size ms) × (l.align ≡ greatest_align ms) × (0 < l.align) × (l.size < 2 ^ 32)
