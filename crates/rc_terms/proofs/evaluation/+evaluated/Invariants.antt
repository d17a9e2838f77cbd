use Rattle.std.proofs.Common.{◌≡◌, ◌++◌, map, drop}
use Rattle.std.specs.List.{list_any}
use Rattle.rc_terms.specs.Operators.{number_of}
use Rattle.rc_terms.specs.Evaluation.{value_of, passes_width}
use Rattle.rc_terms.proofs.evaluation.+evaluated.Given as goal

-- the numbers so far and those to come are those of all elements, and a wide number is to come where there is one
abbrev pub invariant-numbers-loop-element : goal.invariant-numbers-loop-element
invariant-numbers-loop-element l =
    record {
      numbers : l.numbers ++ map number_of (map (value_of l.env) (drop l.element-index l.elements)) ≡ map number_of (map (value_of l.env) l.elements);
      wide : list_any (passes_width l.env) (drop l.element-index l.elements) ≡ list_any (passes_width l.env) l.elements;
    }
