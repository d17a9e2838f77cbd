use Rattle.std.proofs.Common.{◌≡◌, Bool, true, false, not, IsTrue, refl, ◌∙◌, sym}
use Rattle.normal_forms.proofs.Foldings.{plain-Unary, plain-Binary, plain_other}
use Rattle.normal_forms.proofs.folding.is_plain.Goals as goal

fails : (b : Bool) → IsTrue (not b) → b ≡ false
fails true h = cc
fails false h = refl

pub returns-in-Unary-clause-term : goal.returns-in-Unary-clause-term
returns-in-Unary-clause-term c h =
    (plain-Unary c.args.term.now c.in-Unary.operator c.in-Unary.field-1 c.in-Unary.is (sym c.parts_unary.ensures ∙ fails c.parts_unary.result h)).0

pub returns-in-Unary-clause-narrow : goal.returns-in-Unary-clause-narrow
returns-in-Unary-clause-narrow c h =
    (plain-Unary c.args.term.now c.in-Unary.operator c.in-Unary.field-1 c.in-Unary.is (sym c.parts_unary.ensures ∙ fails c.parts_unary.result h)).1

pub returns-in-Binary-clause-term : goal.returns-in-Binary-clause-term
returns-in-Binary-clause-term c h =
    (plain-Binary c.args.term.now c.in-Binary.operator c.in-Binary.field-1 c.in-Binary.field-2 c.in-Binary.is
    (sym c.parts_binary.ensures ∙ fails c.parts_binary.result h)).0

pub returns-in-Binary-clause-narrow : goal.returns-in-Binary-clause-narrow
returns-in-Binary-clause-narrow c h =
    (plain-Binary c.args.term.now c.in-Binary.operator c.in-Binary.field-1 c.in-Binary.field-2 c.in-Binary.is
    (sym c.parts_binary.ensures ∙ fails c.parts_binary.result h)).1

pub returns-in_default : goal.returns-in_default
returns-in_default c =
    let plain = plain_other c.args.term.now c.in_default.not-Unary c.in_default.not-Binary c.in_default.not-Conditional in
    record { term = λ h. plain.0; narrow = λ h. plain.1 }
