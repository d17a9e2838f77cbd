use Rattle.std.proofs.Common.{◌∙◌, ap, arith}
use Rattle.std.specs.Int.{next_multiple_of}
use Rattle.layouts.specs.Table.{extent_of}
use Rattle.layouts.proofs.MemberLemmas.{laid_more, whole_below}
use Rattle.layouts.proofs.aggregate.struct_layout.Goals as goal

pub returns-then-end-from-clause-too_large : goal.returns-then-end-from-clause-too_large
returns-then-end-from-clause-too_large c _ =
    whole_below (extent_of c.args.table.now) c.args.members.now c.loop-member.member-index _ _ _ _ _ _ _ _
    c.loop-member-test.true c.loop-member.invariant.0
    (c.from.ensures ∙ c.align_of-member_align.ensures.value) (c.from-in-loop-member.ensures ∙ c.size_of.ensures)
    c.next_multiple_of-offset.ensures.value (omega arith)

pub loop-member-preserved : goal.loop-member-preserved
loop-member-preserved c = (
  rw c.max-align.ensures (laid_more (extent_of c.args.table.now) c.args.members.now c.loop-member.member-index _ _ _ _
      _ _ _ _
      c.loop-member-test.true c.loop-member.invariant.0 c.align_of-member_align.ensures.value
      (c.from-in-loop-member.ensures ∙ c.size_of.ensures)
      (c.next_multiple_of-offset.ensures.value ∙ ap (λ a. next_multiple_of c.loop-member.end a) c.from.ensures)
      c.push_reserved.ensures.items),
  omega arith,
  omega arith,
  omega arith,
  omega arith,
)
