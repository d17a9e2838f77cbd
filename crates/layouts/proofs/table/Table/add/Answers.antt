use Rattle.layouts.proofs.TableLemmas.{laid_out_more}
use Rattle.layouts.proofs.table.Table.add.Goals as goal

pub invariant_of-self-2 : goal.invariant_of-self-2
invariant_of-self-2 c =
    rw c.in_ok-push.ensures.items
    (laid_out_more _ _ _ _ c.args.self.now c.args.declaration.members c.self.invariant c.self.view_is
    (rw c.as_slice.ensures at c.in_ok-layout.ensures.layout) c.in_ok-layout.ensures.fits c.requires)
