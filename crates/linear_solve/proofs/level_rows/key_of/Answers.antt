use Rattle.std.proofs.Common.{[], ◌∷◌, refl}
use Rattle.linear_solve.specs.Keys.{kind_number}
use Rattle.linear_solve.proofs.KeyLemmas.{numbers_more}
use Rattle.linear_solve.proofs.level_rows.key_of.Goals as goal

pub loop-factor-preserved : goal.loop-factor-preserved
loop-factor-preserved c =
    numbers_more (kind_number c.args.row.now.kind ∷ c.args.row.now.constant ∷ []) c.loop-factor.key.items _
    c.as_slice-factor-items.result.now c.loop-factor.factor-index _ _ c.loop-factor-test.true c.loop-factor.invariant refl
    c.in_ok-push_factor.ensures
