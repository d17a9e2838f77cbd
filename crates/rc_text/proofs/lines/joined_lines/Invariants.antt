use Rattle.std.proofs.Common.{◌≡◌, drop, ◌++◌}
use Rattle.rc_text.specs.Lines.{text_of}
use Rattle.rc_text.proofs.lines.joined_lines.Given as goal

-- the text so far and that of the lines to come are that of all lines
abbrev pub invariant-loop-line : goal.invariant-loop-line
invariant-loop-line l = l.text ++ text_of (drop l.line-index l.lines) ≡ text_of l.lines
