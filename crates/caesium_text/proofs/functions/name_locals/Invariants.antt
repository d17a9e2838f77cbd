use Rattle.std.proofs.Common.{◌≡◌, ◌++◌, map, drop}
use Rattle.caesium_text.specs.Naming.{named_local}
use Rattle.caesium_text.proofs.functions.name_locals.Given as goal

-- the locals so far and those to come are all locals
abbrev pub invariant-loop-local : goal.invariant-loop-local
invariant-loop-local l = l.named.items ++ map (named_local l.table) (drop l.local-index l.locals) ≡ map (named_local l.table) l.locals
