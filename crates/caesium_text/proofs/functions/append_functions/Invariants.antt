use Rattle.std.proofs.Common.{◌≡◌, ◌++◌, drop}
use Rattle.caesium_text.specs.Text.{lines_text, function_lines}
use Rattle.std.specs.List.{flat_map}
use Rattle.caesium_text.proofs.functions.append_functions.Given as goal

-- the text so far and the functions to come are the text with all
abbrev pub invariant-loop-function : goal.invariant-loop-function
invariant-loop-function l = l.text ++ lines_text (flat_map (function_lines l.table) (drop l.function-index l.functions))
    ≡ l.fn.text ++ lines_text (flat_map (function_lines l.table) l.functions)
