use Rattle.std.proofs.Common.{◌≡◌, [], drop}
use Rattle.normal_forms.specs.Sums.{gathered}
use Rattle.normal_forms.proofs.polynomial.gathered.Given as goal

-- the summands to come are added to those so far
abbrev pub invariant-loop-summand : goal.invariant-loop-summand
invariant-loop-summand l = gathered l.polynomial.entries (drop l.summand-index l.summands) ≡ gathered [] l.summands
