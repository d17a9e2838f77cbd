use Rattle.std.proofs.Common.{length, ap, refl, ◌∙◌}
use Rattle.std.specs.FinMap.{empty_of_len, len-entries}
use Rattle.linear_certs.proofs.SortedFactors.{entries_of_view}
use Rattle.linear_solve.proofs.numbers.Numbers.new.Goals as goal

pub returns : goal.returns
returns c = rw c.new.ensures.items (empty_of_len _ (len-entries _ ∙ ap length (entries_of_view _ _ refl refl)))
