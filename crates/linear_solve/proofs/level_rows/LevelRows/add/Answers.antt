use Rattle.std.proofs.Common.{map, sym, subst}
use Rattle.linear_solve.specs.Keys.{AreKeysOf}
use Rattle.linear_solve.proofs.KeyLemmas.{keys_more}
use Rattle.linear_solve.proofs.level_rows.LevelRows.add.Goals as goal

pub invariant_of-self-in-Ok : goal.invariant_of-self-in-Ok
invariant_of-self-in-Ok c =
    subst (AreKeysOf (map (λ key. key.items) c.insert.new.self.keys)) (sym c.in_ok-push.ensures.items)
    (keys_more (λ key. key.items) c.self.inside.keys.keys c.insert.new.self.keys c.args.key c.self.inside.rows.items
    c.args.derived c.self.invariant c.in-Ok.ensures.keys c.requires)
