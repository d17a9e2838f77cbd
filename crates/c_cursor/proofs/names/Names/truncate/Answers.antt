use Rattle.std.proofs.Common.{◌≡◌, ◌+◌, ◌-◌, ap, ◌∙◌, drop, length, arith}
use Rattle.std.proofs.lemmas.List.{drop-drop}
use Rattle.c_cursor.proofs.names.Names.truncate.Goals as goal

pub loop-preserved : goal.loop-preserved
loop-preserved c =
    let more : c.loop.counter - c.args.len + 1 ≡ c.loop.counter + 1 - c.args.len = omega arith in
    (c.drop_newest.ensures ∙ ap (drop 1) c.loop.invariant.0 ∙ drop-drop 1 (c.loop.counter - c.args.len) c.args.self.now ∙ ap (λ n. drop n c.args.self.now) more, omega arith, omega arith)

pub returns : goal.returns
returns c =
    let all : c.loop.counter - c.args.len ≡ length c.args.self.now - c.args.len = omega arith in
    c.loop.invariant.0 ∙ ap (λ n. drop n c.args.self.now) all
