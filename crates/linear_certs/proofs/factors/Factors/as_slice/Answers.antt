use Rattle.std.proofs.Common.{sym, ◌∙◌}
use Rattle.linear_certs.proofs.SortedFactors.{entries_of_view}
use Rattle.linear_certs.proofs.factors.Factors.as_slice.Goals as goal

pub returns-clause-value : goal.returns-clause-value
returns-clause-value c = c.as_slice.ensures.value ∙ sym (entries_of_view _ _ c.self.invariant.0 c.self.view_is)
