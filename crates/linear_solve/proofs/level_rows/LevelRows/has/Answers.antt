use Rattle.std.proofs.Common.{◌∙◌}
use Rattle.linear_solve.proofs.KeyLemmas.{has_is}
use Rattle.linear_solve.proofs.level_rows.LevelRows.has.Goals as goal

pub returns : goal.returns
returns c =
    c.contains.ensures
    ∙ has_is (λ key. key.items) c.self.inside.keys.keys c.args.row.now c.as_slice.result.now c.self.inside.rows.items
    c.args.self.now (c.as_slice.ensures.value ∙ c.in_ok-key.ensures) c.self.invariant c.self.view_is
