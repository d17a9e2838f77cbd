use Rattle.std.proofs.Common.{◌&&◌, ap, ◌∙◌, sym}
use Rattle.normal_forms.specs.Folding.{is_literal}
use Rattle.normal_forms.specs.Polynomials.{parts_unary, parts_binary}
use Rattle.normal_forms.proofs.Foldings.{computable-Unary, computable-Binary, computable_other}
use Rattle.normal_forms.proofs.folding.is_computable.Goals as goal

pub returns-in-Unary : goal.returns-in-Unary
returns-in-Unary c =
    ap (λ b. b && c.is_literal.result) c.parts_unary.ensures
    ∙ ap (λ b. parts_unary c.in-Unary.operator && b) (c.is_literal.ensures ∙ ap is_literal c.get.ensures)
    ∙ sym (computable-Unary c.args.term.now c.in-Unary.operator c.in-Unary.operand c.in-Unary.is)

pub returns-in-Binary : goal.returns-in-Binary
returns-in-Binary c =
    ap (λ b. b && (c.is_literal-in-Binary.result && c.is_literal-in-Binary-2.result)) c.parts_binary.ensures
    ∙ ap (λ b. parts_binary c.in-Binary.operator && (b && c.is_literal-in-Binary-2.result)) (c.is_literal-in-Binary.ensures ∙ ap is_literal c.get-in-Binary.ensures)
    ∙ ap (λ b. parts_binary c.in-Binary.operator && (is_literal c.in-Binary.left && b)) (c.is_literal-in-Binary-2.ensures ∙ ap is_literal c.get-in-Binary-2.ensures)
    ∙ sym (computable-Binary c.args.term.now c.in-Binary.operator c.in-Binary.left c.in-Binary.right c.in-Binary.is)

pub returns-in_default : goal.returns-in_default
returns-in_default c = sym (computable_other c.args.term.now c.in_default.not-Unary c.in_default.not-Binary)
