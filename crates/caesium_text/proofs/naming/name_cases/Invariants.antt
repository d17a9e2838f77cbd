use Rattle.std.proofs.Common.{◌≡◌, ◌++◌, map, drop}
use Rattle.caesium_text.specs.Naming.{named_case}
use Rattle.caesium_text.proofs.naming.name_cases.Given as goal

-- the cases so far and those to come are all cases
abbrev pub invariant-loop-case : goal.invariant-loop-case
invariant-loop-case l = l.named.items ++ map named_case (drop l.case-index l.cases) ≡ map named_case l.cases
