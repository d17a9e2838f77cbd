use Rattle.std.proofs.Common.{◌≡◌, drop}
use Rattle.linear_solve.specs.Unknowns.{with_factors}
use Rattle.linear_solve.proofs.unknowns.add_unknowns.Given as goal

abbrev pub invariant-loop-unknown : goal.invariant-loop-unknown
invariant-loop-unknown l =
    with_factors l.known.keys (drop l.unknown-index l.unknown-items) ≡ with_factors l.fn.known.keys l.unknown-items
