use Rattle.std.proofs.Common.{ap, ◌∙◌, sym}
use Rattle.normal_forms.specs.Folding.{branch, truth_literal}
use Rattle.normal_forms.proofs.Foldings.{chosen-Conditional, chosen_other}
use Rattle.normal_forms.proofs.Stages.{gives}
use Rattle.normal_forms.proofs.folding.chosen.Goals as goal

pub returns-in-Conditional : goal.returns-in-Conditional
returns-in-Conditional c =
    let term = c.args.term.now in
    gives c.branch-alloc.result _ _
    (ap (λ o. branch o c.get-in-Conditional.result.now c.get-in-Conditional-2.result.now term) (c.truth_literal.ensures ∙ ap truth_literal c.get.ensures)
    ∙ ap (λ t. branch (truth_literal c.in-Conditional.test) t c.get-in-Conditional-2.result.now term) c.get-in-Conditional.ensures
    ∙ ap (λ t. branch (truth_literal c.in-Conditional.test) c.in-Conditional.then t term) c.get-in-Conditional-2.ensures
    ∙ sym (chosen-Conditional term c.in-Conditional.test c.in-Conditional.then c.in-Conditional.otherwise c.in-Conditional.is))
    c.branch-alloc.ensures

pub returns-in_default : goal.returns-in_default
returns-in_default c = gives c.copy.result _ _ (sym (chosen_other c.args.term.now c.in_default.not-Conditional)) c.copy.ensures
