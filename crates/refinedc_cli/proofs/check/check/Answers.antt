use Rattle.std.proofs.Common.{List, subst}
use Rattle.std.proofs.lemmas.Result.{IfOk-weaker}
use Rattle.c_lexer.specs.declared.token.Token.{Token}
use Rattle.refinedc_cli.specs.declared.command.Command.TheVariants.{Check}
use Rattle.refinedc_cli.specs.declared.front_end.Source.{Source}
use Rattle.refinedc_cli.specs.declared.front_end.Source.TheVariants.{File}
use Rattle.refinedc_cli.specs.FrontEnd.{IsSourceOf}
use Rattle.refinedc_cli.specs.Outcome.{IsVerdict}
use Rattle.refinedc_cli.specs.Outside.{Files, files_seen}
use Rattle.refinedc_cli.specs.Run.{ComesTo}
use Rattle.refinedc_cli.proofs.AnswerLemmas.{file_comes_to, no_file_comes_to}
use Rattle.refinedc_cli.proofs.check.check.Goals as goal

pub returns-in-File-clause-outcome : goal.returns-in-File-clause-outcome
returns-in-File-clause-outcome g c =
    let before : Files = files_seen (g.H.Shelf.holds c.args.shelf.now) (g.H.Shelf.asked c.args.shelf.now) (g.H.Shelf.faults c.args.shelf.now) in
    let after : Files = files_seen (g.H.Shelf.holds c.read_source.new.shelf) (g.H.Shelf.asked c.read_source.new.shelf) (g.H.Shelf.faults c.read_source.new.shelf) in
    let read : IsSourceOf c.args.file.now before after (File c.in-File.tokens c.in-File.tree) =
    subst (λ (source : Source). IsSourceOf c.args.file.now before after source) c.in-File.is c.in_ok-tokens.ensures.source in
    IfOk-weaker c.check_tokens.result (IsVerdict c.as_slice.result.now) (ComesTo (Check c.args.file.now) before after)
    (λ outcome verdict.
    file_comes_to c.args.file.now before after c.in-File.tokens c.in-File.tree outcome read
    (subst (λ (tokens : List Token). IsVerdict tokens outcome) c.as_slice.ensures verdict))
    c.check_tokens.ensures

pub returns-clause-outcome : goal.returns-clause-outcome
returns-clause-outcome g c =
    let before : Files = files_seen (g.H.Shelf.holds c.args.shelf.now) (g.H.Shelf.asked c.args.shelf.now) (g.H.Shelf.faults c.args.shelf.now) in
    let after : Files = files_seen (g.H.Shelf.holds c.read_source.new.shelf) (g.H.Shelf.asked c.read_source.new.shelf) (g.H.Shelf.faults c.read_source.new.shelf) in
    no_file_comes_to c.args.file.now before after c.in-NoFile.outcome
    (subst (λ (source : Source). IsSourceOf c.args.file.now before after source) c.in-NoFile.is c.in_ok-tokens.ensures.source)
