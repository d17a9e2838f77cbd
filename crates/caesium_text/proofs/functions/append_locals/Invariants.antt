use Rattle.std.proofs.Common.{◌≡◌, ◌++◌, map, drop}
use Rattle.caesium_text.specs.Text.{lines_text, local_line}
use Rattle.caesium_text.proofs.functions.append_locals.Given as goal

-- the text so far and the locals to come are the text with all
abbrev pub invariant-loop-local : goal.invariant-loop-local
invariant-loop-local l = l.text ++ lines_text (map (local_line l.table) (drop l.local-index l.locals))
    ≡ l.fn.text ++ lines_text (map (local_line l.table) l.locals)
