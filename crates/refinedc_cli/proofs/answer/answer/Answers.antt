use Rattle.std.proofs.Common.{◌≡◌, Option, refl, sym, subst}
use Rattle.std.specs.Prelude.{MatchOption}
use Rattle.std.proofs.lemmas.Result.{IfOk-weaker}
use Rattle.refinedc_cli.specs.declared.command.Command.{Command}
use Rattle.refinedc_cli.specs.declared.rendering.Rendering.{Rendering}
use Rattle.refinedc_cli.specs.Command.{Means, MeanNothing}
use Rattle.refinedc_cli.specs.Outside.{Files, files_seen}
use Rattle.refinedc_cli.specs.Rendering.{rendering, usage_rendering}
use Rattle.refinedc_cli.specs.Run.{IsAnswer, usage, outcome}
use Rattle.refinedc_cli.proofs.answer.answer.Goals as goal

pub returns-in-None-clause-answer : goal.returns-in-None-clause-answer
returns-in-None-clause-answer g c =
    let words = c.args.words.now in
    let seen : Files = files_seen (g.H.Shelf.holds c.args.shelf.now) (g.H.Shelf.asked c.args.shelf.now) (g.H.Shelf.faults c.args.shelf.now) in
    let nothing : MeanNothing words =
    subst (λ (found : Option Command). MatchOption found (MeanNothing words) (Means words)) c.in-None.is c.in_ok-command_of.ensures in
    IfOk-weaker c.render_usage.result (λ made. made ≡ usage_rendering) (IsAnswer words seen seen)
    (λ made same. subst (λ (r : Rendering). IsAnswer words seen seen r) (sym same) (usage nothing refl)) c.render_usage.ensures

pub returns-in_ok-outcome-in-Some-clause-answer : goal.returns-in_ok-outcome-in-Some-clause-answer
returns-in_ok-outcome-in-Some-clause-answer g c =
    let words = c.args.words.now in
    let command = c.in-Some.command in
    let before : Files = files_seen (g.H.Shelf.holds c.args.shelf.now) (g.H.Shelf.asked c.args.shelf.now) (g.H.Shelf.faults c.args.shelf.now) in
    let after : Files = files_seen (g.H.Shelf.holds c.outcome_of.new.shelf) (g.H.Shelf.asked c.outcome_of.new.shelf) (g.H.Shelf.faults c.outcome_of.new.shelf) in
    let means : Means words command =
    subst (λ (found : Option Command). MatchOption found (MeanNothing words) (Means words)) c.in-Some.is c.in_ok-command_of.ensures in
    IfOk-weaker c.render.result (λ made. made ≡ rendering command c.in_ok-outcome-in-Some.outcome) (IsAnswer words before after)
    (λ made same. subst (λ (r : Rendering). IsAnswer words before after r) (sym same) (outcome command means c.in_ok-outcome-in-Some.ensures.outcome))
    c.render.ensures
