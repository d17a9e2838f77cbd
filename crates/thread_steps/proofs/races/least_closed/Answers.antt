use Rattle.std.proofs.Common.{◌≡◌, ◌+◌, ◌++◌, [], ◌∷◌, map, take, subst, ap, sym, ◌∙◌}
use Rattle.thread_steps.specs.Access.{closes}
use Rattle.thread_steps.specs.Accesses.{listed}
use Rattle.thread_steps.specs.FindRace.{IsLeast, Meet, MeetsOne}
use Rattle.thread_steps.proofs.Least.{all_more, closed_more, closed_all}
use Rattle.thread_steps.proofs.races.least_closed.Goals as goal

pub loop-block-preserved : goal.loop-block-preserved
loop-block-preserved c =
    let memory = c.args.memory.now in
    let others = listed c.args.others in
    let more = closed_more c.args.blocks.now c.loop-block.block-index c.loop-block-test.true in
    let found = subst (λ a. IsLeast (MeetsOne memory a others) c.least_with.result) c.closing.ensures
    c.least_with.ensures in
    all_more memory _ _ _ others c.loop-block.least c.least_with.result c.earlier-least.result more
    c.loop-block.invariant found c.earlier-least.ensures

pub returns : goal.returns
returns c =
    subst (λ xs. IsLeast (Meet c.args.memory.now (map closes xs) (listed c.args.others)) c.loop-block.least)
    (closed_all c.args.blocks.now c.loop-block.block-index c.loop-block-test.false) c.loop-block.invariant
