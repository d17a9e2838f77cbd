use Rattle.std.proofs.Common.{◌≡◌, ◌++◌, drop}
use Rattle.caesium_text.specs.Text.{named_members}
use Rattle.caesium_text.proofs.declarations.name_members.Given as goal

-- the members so far and those to come are all members
abbrev pub invariant-loop-number : goal.invariant-loop-number
invariant-loop-number l = l.named.items ++ named_members l.table (drop l.number l.offsets) (drop l.number l.members)
    ≡ named_members l.table l.offsets l.members
