use Rattle.std.proofs.Common.{◌≡◌, ◌<◌, length, subst, sym, ap, ◌∙◌}
use Rattle.layouts.specs.declared.aggregate.StructLayout.{StructLayout}
use Rattle.thread_steps.proofs.Members.{declared_length, layout_found, offset_found}
use Rattle.thread_steps.proofs.pointers.member_offset.Goals as goal

pub field_offset-requires : goal.field_offset-requires
field_offset-requires c =
    let d = c.requires.declaration in
    let same = layout_found c.args.table.now _ d c.layout.result.now c.requires.is c.layout.ensures in
    let long = sym (declared_length c.args.table.now d) ∙ ap (λ (l : StructLayout). length l.offsets) same in
    subst (λ n. c.args.member < n) long c.requires.within

pub returns : goal.returns
returns c =
    let d = c.requires.declaration in
    let same = layout_found c.args.table.now _ d c.layout.result.now c.requires.is c.layout.ensures in
    offset_found c.args.table.now c.args.of c.args.member c.field_offset.result d c.layout.result.now c.requires.is same
    c.field_offset.ensures
