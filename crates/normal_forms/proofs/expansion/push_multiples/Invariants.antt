use Rattle.std.proofs.Common.{◌≡◌, ◌++◌, map, take}
use Rattle.normal_forms.specs.Polynomials.{multiplied}
use Rattle.normal_forms.proofs.expansion.push_multiples.Given as goal

abbrev pub invariant-loop-other : goal.invariant-loop-other
invariant-loop-other l = l.summands ≡ l.initial.summands ++ map (multiplied l.summand) (take l.other-index l.others)
