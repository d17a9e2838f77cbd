use Rattle.std.proofs.Common.{sym, ◌∙◌}
use Rattle.linear_certs.proofs.SortedFactors.{entries_of_view}
use Rattle.linear_solve.proofs.numbers.Numbers.as_slice.Goals as goal

pub returns : goal.returns
returns c = c.as_slice.ensures.value ∙ sym (entries_of_view _ _ c.self.invariant c.self.view_is)
