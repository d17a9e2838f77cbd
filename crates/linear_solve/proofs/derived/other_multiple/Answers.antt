use Rattle.std.proofs.lemmas.Result.{IfOk-weaker}
use Rattle.linear_solve.proofs.Combination.{negated_multiple}
use Rattle.linear_solve.proofs.derived.other_multiple.Goals as goal

pub returns-else-is_negative : goal.returns-else-is_negative
returns-else-is_negative c =
    IfOk-weaker c.times-else-is_negative.result _ _
    (λ multiple is. negated_multiple c.is_negative.result c.args.factor.now c.args.own c.new.result multiple
    c.is_negative.ensures c.if-is_negative.false c.new.ensures is)
    c.times-else-is_negative.ensures
