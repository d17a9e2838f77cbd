use Rattle.std.proofs.Common.{◌≡◌, ◌++◌, map, drop}
use Rattle.caesium_lines.specs.Words.{spaced}
use Rattle.caesium_lines.specs.End.{case_word}
use Rattle.caesium_lines.proofs.end.append_cases.Given as goal

-- the text so far and the cases to come are the text with all cases
abbrev pub invariant-loop-case : goal.invariant-loop-case
invariant-loop-case l = l.text ++ spaced (map case_word (drop l.case-index l.cases))
    ≡ l.fn.text ++ spaced (map case_word l.cases)
