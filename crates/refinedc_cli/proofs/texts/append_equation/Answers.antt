use Rattle.std.proofs.Common.{◌∙◌, ◌++◌, ap, List, ℕ}
use Rattle.std.specs.Fmt.{decimal}
use Rattle.refinedc_cli.proofs.TextLemmas.{goal_pieces}
use Rattle.refinedc_cli.proofs.texts.append_equation.Goals as goal

pub returns : goal.returns
returns c =
    c.in_ok-append.ensures.ok
    ∙ ap (λ (piece : List ℕ). c.args.text.now ++ piece)
    (c.as_bytes.ensures.value ∙ c.in_ok-said.ensures.ok ∙ goal_pieces (decimal c.args.left) (decimal c.args.right))
