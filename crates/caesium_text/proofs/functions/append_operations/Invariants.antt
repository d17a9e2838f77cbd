use Rattle.std.proofs.Common.{◌≡◌, ◌++◌, map, drop}
use Rattle.caesium_text.specs.Text.{lines_text, op_line}
use Rattle.caesium_text.proofs.functions.append_operations.Given as goal

-- the text so far and the operations to come are the text with all
abbrev pub invariant-loop-placed : goal.invariant-loop-placed
invariant-loop-placed l = l.text ++ lines_text (map (op_line l.table (l.parameters ++ l.locals)) (drop l.placed-index l.operations))
    ≡ l.fn.text ++ lines_text (map (op_line l.table (l.parameters ++ l.locals)) l.operations)
