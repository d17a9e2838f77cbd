use Rattle.std.proofs.Common.{◌++◌, subst, sym}
use Rattle.thread_steps.specs.Accesses.{listed, one_or_none}
use Rattle.thread_steps.specs.FindRace.{IsLeast, MeetsOne}
use Rattle.thread_steps.proofs.Least.{one_least_joined}
use Rattle.thread_steps.proofs.races.least_with.Goals as goal

pub returns-in-Ranges : goal.returns-in-Ranges
returns-in-Ranges c =
    let memory = c.args.memory.now in
    let first = one_or_none c.in-Ranges.first in
    let second = one_or_none c.in-Ranges.second in
    let joined = one_least_joined memory c.args.one first second c.common_at.result c.common_at-in-Ranges.result
    c.common_at.ensures c.common_at-in-Ranges.ensures in
    subst (λ a. IsLeast (MeetsOne memory c.args.one (listed a)) c.earlier.result) (sym c.in-Ranges.is)
    (subst (λ x. IsLeast (MeetsOne memory c.args.one (first ++ second)) x) (sym c.earlier.ensures) joined)
