use Rattle.std.proofs.Common.{◌≡◌, ◌≤◌, ◌^◌, ◌<◌, map, take, length, vec_len, vec_capacity}
use Rattle.layouts.specs.Table.{extent_of}
use Rattle.layouts.proofs.MemberLemmas.{IsLaidSoFar}
use Rattle.layouts.proofs.aggregate.struct_layout.Given as goal

abbrev pub invariant-loop-member : goal.invariant-loop-member
invariant-loop-member l =
    IsLaidSoFar (map (extent_of l.table) (take l.member-index l.members)) l.offsets.items l.end l.align ×
    (l.end ≤ 2 ^ 31) × (0 < l.align) × (vec_len l.offsets ≡ l.member-index) ×
    (length l.members ≤ vec_capacity l.offsets)
