use Rattle.std.proofs.Common.{arith, append_assoc}
use Rattle.std.proofs.lemmas.Grind.{common_steps}
use Rattle.caesium_text.specs.Text.{declaration_line}
use Rattle.caesium_text.proofs.TextLemmas.{text_from, text_past}
use Rattle.caesium_text.proofs.declarations.append_declarations.Goals as goal

pub loop-number-preserved : goal.loop-number-preserved
loop-number-preserved c =
    grind (arith, common_steps, append_assoc, text_from (declaration_line c.args.table.now) c.args.table.now c.loop-number.number c.in_ok-line.line c.in_ok-line.ensures)

pub returns : goal.returns
returns c =
    grind (arith, common_steps, text_past (declaration_line c.args.table.now) c.args.table.now c.loop-number.number (omega arith))
