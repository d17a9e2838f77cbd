use Rattle.std.proofs.Common.{◌≡◌, ◌++◌, map, drop}
use Rattle.caesium_text.specs.Text.{lines_text, declaration_line}
use Rattle.caesium_text.proofs.declarations.append_declarations.Given as goal

-- the text so far and the declarations to come are the text with all
abbrev pub invariant-loop-number : goal.invariant-loop-number
invariant-loop-number l = l.text ++ lines_text (map (declaration_line l.table) (drop l.number l.table))
    ≡ l.fn.text ++ lines_text (map (declaration_line l.table) l.table)
