use Rattle.std.proofs.Common.{◌≡◌, ◌++◌, map, drop}
use Rattle.caesium_lines.specs.Line.{led}
use Rattle.caesium_lines.specs.Layout.{local_words}
use Rattle.caesium_lines.proofs.line.append_other_parameters.Given as goal

-- the text so far and the parameters to come are the text with all parameters
abbrev pub invariant-loop-parameter : goal.invariant-loop-parameter
invariant-loop-parameter l = l.text ++ led (map local_words (drop l.parameter-index l.parameters))
    ≡ l.fn.text ++ led (map local_words l.parameters)
