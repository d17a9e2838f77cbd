use Rattle.std.proofs.Common.{◌≡◌, [], drop}
use Rattle.normal_forms.specs.Sums.{arranged}
use Rattle.normal_forms.proofs.product.arranged.Given as goal

-- the terms to come are placed among the factors so far
abbrev pub invariant-loop-term : goal.invariant-loop-term
invariant-loop-term l = arranged l.factors.items (drop l.term-index l.terms) ≡ arranged [] l.terms
