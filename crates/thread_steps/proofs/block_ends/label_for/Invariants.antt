use Rattle.std.proofs.Common.{◌≡◌, drop}
use Rattle.thread_steps.specs.Step.{label_for}
use Rattle.thread_steps.proofs.block_ends.label_for.Given as goal

-- the first among what is left is the first of all
abbrev pub invariant-loop-case : goal.invariant-loop-case
invariant-loop-case l =
    label_for l.number (drop l.case-index l.cases) l.otherwise ≡ label_for l.number l.cases l.otherwise
