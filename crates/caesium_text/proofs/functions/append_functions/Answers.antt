use Rattle.std.proofs.Common.{arith}
use Rattle.std.specs.List.{flat_map}
use Rattle.caesium_text.specs.Text.{lines_text, function_lines}
use Rattle.caesium_text.proofs.TextLemmas.{flat_step, flat_past, stepped, ended}
use Rattle.caesium_text.proofs.functions.append_functions.Goals as goal

pub loop-function-preserved : goal.loop-function-preserved
loop-function-preserved c =
    stepped c.args.text.now _ _ _ _ _ (lines_text (flat_map (function_lines c.args.table.now) c.args.functions.now)) c.in_ok-append_function.ensures (flat_step (function_lines c.args.table.now) c.args.functions.now c.loop-function.function-index c.function-item.result (omega arith) c.function-item.is) c.loop-function.invariant

pub returns : goal.returns
returns c = ended _ _ _ (flat_past (function_lines c.args.table.now) c.args.functions.now c.loop-function.function-index (omega arith)) c.loop-function.invariant
