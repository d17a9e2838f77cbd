use Rattle.std.proofs.Common.{◌≡◌, ◌∷◌, ◌++◌, [], take}
use Rattle.linear_solve.specs.Keys.{kind_number, factor_numbers}
use Rattle.linear_solve.proofs.level_rows.key_of.Given as goal

abbrev pub invariant-loop-factor : goal.invariant-loop-factor
invariant-loop-factor l =
    l.key.items ≡ (kind_number l.row.kind ∷ l.row.constant ∷ [])
    ++ factor_numbers (take l.factor-index l.factor-items)
