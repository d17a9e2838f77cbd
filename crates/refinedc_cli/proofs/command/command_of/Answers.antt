use Rattle.std.proofs.Common.{arith, ◌∙◌, ap, sym, List, ℕ, ◌≡◌, ◌∷◌, []}
use Rattle.std.specs.Prelude.{codes}
use Rattle.std.proofs.lemmas.Slice.Eq.{bytes_eq-Decides}
use Rattle.refinedc_cli.specs.Command.{is_option}
use Rattle.refinedc_cli.proofs.ListLemmas.{two_from_reads}
use Rattle.refinedc_cli.proofs.command.command_of.Goals as goal

pub returns-in_ok-file-in-len2 : goal.returns-in_ok-file-in-len2
returns-in_ok-file-in-len2 c =
    let words : c.args.words.now ≡ c.command-item.result ∷ c.file-item.result ∷ [] =
    two_from_reads c.args.words.now c.command-item.result c.file-item.result (omega arith) (omega arith) c.command-item.is c.file-item.is in
    let is_check : c.as_str.result.now ≡ codes "check" = (bytes_eq-Decides c.as_str.result.now (codes "check")).0 (sym c.eq.ensures ∙ c.if-eq.true) in
    let file : c.in_ok-file-in-len2.file ≡ c.file-item.result = c.in_ok-file-in-len2.ensures ∙ c.as_str-in-len2.ensures in (
      words ∙ ap (λ (command : List ℕ). command ∷ c.file-item.result ∷ []) (sym c.as_str.ensures ∙ is_check)
          ∙ ap (λ (f : List ℕ). codes "check" ∷ f ∷ []) (sym file),
      ap is_option (file ∙ sym c.as_str-then-eq.ensures) ∙ sym c.is_option.ensures ∙ c.if-not-is_option.true,
    )
