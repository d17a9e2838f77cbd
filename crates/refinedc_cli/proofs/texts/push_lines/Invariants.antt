use Rattle.std.proofs.Common.{◌≡◌, ◌++◌, map, take}
use Rattle.refinedc_cli.specs.Texts.{line_text}
use Rattle.refinedc_cli.proofs.texts.push_lines.Given as goal

-- the lines so far stand behind what was there
abbrev pub invariant-loop-line : goal.invariant-loop-line
invariant-loop-line l = l.texts.items ≡ l.fn.texts.items ++ map line_text (take l.line-index l.lines)
