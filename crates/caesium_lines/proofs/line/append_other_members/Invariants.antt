use Rattle.std.proofs.Common.{◌≡◌, ◌++◌, map, drop}
use Rattle.caesium_lines.specs.Line.{led}
use Rattle.caesium_lines.specs.Layout.{member_words}
use Rattle.caesium_lines.proofs.line.append_other_members.Given as goal

-- the text so far and the members to come are the text with all members
abbrev pub invariant-loop-member : goal.invariant-loop-member
invariant-loop-member l = l.text ++ led (map member_words (drop l.member-index l.members))
    ≡ l.fn.text ++ led (map member_words l.members)
