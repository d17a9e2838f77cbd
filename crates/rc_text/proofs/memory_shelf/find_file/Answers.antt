use Rattle.std.proofs.Common.{◌∙◌, sym, ap, arith, List, ℕ}
use Rattle.std.specs.Str.{bytes_eq}
use Rattle.rc_text.proofs.ShelfLemmas.{content_of-drop}
use Rattle.rc_text.proofs.memory_shelf.find_file.Goals as goal

pub returns-then-eq : goal.returns-then-eq
returns-then-eq c =
    c.loop-index.invariant
    ∙ content_of-drop c.args.files.now c.loop-index.index c.args.name.now c.index-files-index.result (omega arith)
    (ap (λ (file : List ℕ × List ℕ). bytes_eq file.0 c.args.name.now) (sym c.index-files-index.is)
    ∙ ap (λ (text : List ℕ). bytes_eq text c.args.name.now) (sym c.as_str.ensures) ∙ sym c.eq.ensures ∙ c.if-eq.true)
