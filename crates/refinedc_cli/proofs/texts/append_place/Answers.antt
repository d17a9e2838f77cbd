use Rattle.std.proofs.Common.{◌∙◌, ◌++◌, ap, List, ℕ}
use Rattle.std.specs.Fmt.{decimal}
use Rattle.refinedc_cli.proofs.TextLemmas.{place_pieces}
use Rattle.refinedc_cli.proofs.texts.append_place.Goals as goal

pub returns : goal.returns
returns c =
    c.in_ok-append.ensures.ok
    ∙ ap (λ (piece : List ℕ). c.args.text.now ++ piece)
    (c.as_bytes.ensures.value ∙ c.in_ok-said.ensures.ok ∙ place_pieces c.args.name.now (decimal c.args.place.line) (decimal c.args.place.column))
