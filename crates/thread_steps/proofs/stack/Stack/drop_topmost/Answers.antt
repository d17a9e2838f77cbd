use Rattle.std.proofs.Common.{◌≡◌, ◌-◌, length, take, drop, reverse, ap, ◌∙◌}
use Rattle.thread_steps.proofs.Stacks.{rest_is}
use Rattle.thread_steps.proofs.stack.Stack.drop_topmost.Goals as goal

pub returns : goal.returns
returns g c =
    let items = c.self.inside.items.items in
    let count = c.args.count in
    let below : c.saturating_sub-below.result ≡ length items - count = cc in
    ap reverse c.truncate.ensures.items
    ∙ ap (λ n. reverse (take n items)) below
    ∙ rest_is items count
    ∙ ap (drop count) c.self.view_is
