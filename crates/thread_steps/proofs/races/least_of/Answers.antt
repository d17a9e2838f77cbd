use Rattle.std.proofs.Common.{◌++◌, subst, sym}
use Rattle.thread_steps.specs.Accesses.{listed, one_or_none}
use Rattle.thread_steps.specs.FindRace.{IsLeast, Meet}
use Rattle.thread_steps.proofs.Least.{all_least_joined}
use Rattle.thread_steps.proofs.races.least_of.Goals as goal

pub returns-in-Ranges : goal.returns-in-Ranges
returns-in-Ranges c =
    let memory = c.args.memory.now in
    let others = listed c.args.others in
    let first = one_or_none c.in-Ranges.first in
    let second = one_or_none c.in-Ranges.second in
    let joined = all_least_joined memory first second others c.least_at.result c.least_at-in-Ranges.result
    c.least_at.ensures c.least_at-in-Ranges.ensures in
    subst (λ a. IsLeast (Meet memory (listed a) others) c.earlier.result) (sym c.in-Ranges.is)
    (subst (λ x. IsLeast (Meet memory (first ++ second) others) x) (sym c.earlier.ensures) joined)
