use Rattle.std.proofs.Common.{◌≡◌, ◌++◌, map, drop}
use Rattle.caesium_text.specs.Naming.{named_layout}
use Rattle.caesium_text.proofs.declarations.name_layouts.Given as goal

-- the layouts so far and those to come are all layouts
abbrev pub invariant-loop-layout : goal.invariant-loop-layout
invariant-loop-layout l = l.named.items ++ map (named_layout l.table) (drop l.layout-index l.layouts) ≡ map (named_layout l.table) l.layouts
