use Rattle.std.proofs.Common.{◌≡◌, ◌-◌, length, take, drop, reverse, ap, ◌∙◌}
use Rattle.std.proofs.lemmas.List.{take_rest}
use Rattle.thread_steps.proofs.Stacks.{topmost_is}
use Rattle.thread_steps.proofs.stack.Stack.topmost.Goals as goal

pub returns : goal.returns
returns g c =
    let items = c.self.inside.items.items in
    let count = c.args.count in
    let below : c.saturating_sub-below.result ≡ length items - count = cc in
    take_rest c.deref.result.now c.saturating_sub-below.result
    ∙ ap (λ n. drop n c.deref.result.now) below
    ∙ ap (λ xs. drop (length items - count) xs) c.deref.ensures.value
    ∙ topmost_is items count
    ∙ ap (λ xs. reverse (take count xs)) c.self.view_is
