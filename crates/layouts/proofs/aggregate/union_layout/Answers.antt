use Rattle.std.proofs.Common.{arith, ◌∙◌}
use Rattle.layouts.specs.Table.{extent_of}
use Rattle.layouts.proofs.MemberLemmas.{union_more, zeros, take_whole}
use Rattle.layouts.proofs.aggregate.union_layout.Goals as goal

pub loop-member-preserved : goal.loop-member-preserved
loop-member-preserved c =
    let more = union_more (extent_of c.args.table.now) c.args.members.now c.loop-member.member-index _ _ _
    c.loop-member-test.true
    c.loop-member.invariant.0 c.loop-member.invariant.1 in
    rw (c.max-size.ensures, c.max-align.ensures, c.size_of.ensures, c.align_of.ensures.value)
    (more.0, more.1, omega arith, omega arith)

pub returns-clause-layout : goal.returns-clause-layout
returns-clause-layout c =
    let whole = take_whole (extent_of c.args.table.now) c.args.members.now c.loop-member.member-index
    c.loop-member-test.false in
    let offsets = c.in_ok-offsets.ensures.items_if_clones_equal (λ _ e. e) ∙ zeros (extent_of c.args.table.now)
    c.args.members.now in
    rw (
      ← offsets,
      ← whole,
      ← c.loop-member.invariant.0,
      ← c.loop-member.invariant.1,
      ← c.from.ensures,
      ← c.from_vec.ensures,
      ← c.in_ok-from_slice.ensures,
    )
    c.rounded.ensures.layout
