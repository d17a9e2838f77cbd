use Rattle.std.proofs.Common.{◌≡◌, ◌+◌, ◌++◌, [], ◌∷◌, map, take, subst, ap, sym, ◌∙◌}
use Rattle.thread_steps.specs.Access.{closes}
use Rattle.thread_steps.specs.FindRace.{IsLeast, MeetsOne, common}
use Rattle.thread_steps.proofs.Least.{one_more, only_one, common_found, closed_more, closed_all}
use Rattle.thread_steps.proofs.races.common_closed.Goals as goal

pub loop-block-preserved : goal.loop-block-preserved
loop-block-preserved c =
    let memory = c.args.memory.now in
    let one = c.args.one in
    let more = closed_more c.args.blocks.now c.loop-block.block-index c.loop-block-test.true in
    let is = c.common.ensures ∙ ap (common memory one) c.closing.ensures in
    let found = common_found memory one _ c.common.result is in
    one_more memory one _ _ _ c.loop-block.least c.common.result c.earlier-least.result more c.loop-block.invariant
    (only_one memory one _ c.common.result found) c.earlier-least.ensures

pub returns : goal.returns
returns c =
    subst (λ xs. IsLeast (MeetsOne c.args.memory.now c.args.one (map closes xs)) c.loop-block.least)
    (closed_all c.args.blocks.now c.loop-block.block-index c.loop-block-test.false) c.loop-block.invariant
