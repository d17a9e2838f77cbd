use Rattle.std.proofs.Common.{◌∙◌, arith}
use Rattle.std.proofs.lemmas.Int.{to_z-of_z}
use Rattle.std.specs.Int.{w128}
use Rattle.byte_memory.proofs.CellLemmas.{seen_length}
use Rattle.byte_memory.proofs.RangeLemmas.{out_of_bounds, misaligned, without_fault, past_all, natural_is}
use Rattle.byte_memory.proofs.block.BlockBytes.start.Goals as goal

pub returns-in_default-clause-undefined : goal.returns-in_default-clause-undefined
returns-in_default-clause-undefined c ub is =
    let h = c.self.inside.cells.ok in
    let long = seen_length c.self.inside.wide.items c.self.inside.cells.items c.args.self.now c.self.view_is in
    past_all c.args.self.now c.args.offset c.args.size c.args.align (omega arith)
    (rw (to_z-of_z w128 c.args.offset c.ranges.offset) at c.in_default.ensures)
    ∙ cc

pub returns-then-saturating_add-len-clause-undefined : goal.returns-then-saturating_add-len-clause-undefined
returns-then-saturating_add-len-clause-undefined c ub is =
    let h = c.self.inside.cells.ok in
    let long = seen_length c.self.inside.wide.items c.self.inside.cells.items c.args.self.now c.self.view_is in
    let at = rw (to_z-of_z w128 c.args.offset c.ranges.offset) at c.in-Ok.ensures in
    rw (natural_is c.args.offset c.in-Ok.start at.0.0 at.1)
    (out_of_bounds c.args.self.now c.in-Ok.start c.args.size c.args.align (omega arith) ∙ cc)

pub returns-then-start-align-ne0-clause-undefined : goal.returns-then-start-align-ne0-clause-undefined
returns-then-start-align-ne0-clause-undefined c ub is =
    let h = c.self.inside.cells.ok in
    let long = seen_length c.self.inside.wide.items c.self.inside.cells.items c.args.self.now c.self.view_is in
    let at = rw (to_z-of_z w128 c.args.offset c.ranges.offset) at c.in-Ok.ensures in
    rw (natural_is c.args.offset c.in-Ok.start at.0.0 at.1)
    (misaligned c.args.self.now c.in-Ok.start c.args.size c.args.align (omega arith) c.if-start-align-ne0.true ∙ cc)

pub returns-clause-inside : goal.returns-clause-inside
returns-clause-inside c =
    let h = c.self.inside.cells.ok in
    let long = seen_length c.self.inside.wide.items c.self.inside.cells.items c.args.self.now c.self.view_is in
    omega arith

pub returns-clause-defined : goal.returns-clause-defined
returns-clause-defined c =
    let h = c.self.inside.cells.ok in
    let long = seen_length c.self.inside.wide.items c.self.inside.cells.items c.args.self.now c.self.view_is in
    let at = rw (to_z-of_z w128 c.args.offset c.ranges.offset) at c.in-Ok.ensures in
    rw (natural_is c.args.offset c.in-Ok.start at.0.0 at.1)
    (without_fault c.args.self.now c.in-Ok.start c.args.size c.args.align (omega arith) c.if-start-align-ne0.false)
