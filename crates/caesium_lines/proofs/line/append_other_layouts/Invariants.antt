use Rattle.std.proofs.Common.{◌≡◌, ◌++◌, map, drop}
use Rattle.caesium_lines.specs.Line.{led}
use Rattle.caesium_lines.specs.Layout.{layout_words}
use Rattle.caesium_lines.proofs.line.append_other_layouts.Given as goal

-- the text so far and the layouts to come are the text with all layouts
abbrev pub invariant-loop-layout : goal.invariant-loop-layout
invariant-loop-layout l = l.text ++ led (map layout_words (drop l.layout-index l.layouts))
    ≡ l.fn.text ++ led (map layout_words l.layouts)
