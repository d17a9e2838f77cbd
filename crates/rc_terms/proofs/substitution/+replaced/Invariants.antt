use Rattle.std.proofs.Common.{◌≡◌, ◌+◌, ◌*◌, false, take, map}
use Rattle.rc_terms.specs.Substitution.{substituted}
use Rattle.rc_terms.proofs.substitution.+replaced.Given as goal

abbrev pub decreases-replaced : goal.decreases-replaced
decreases-replaced l = 2 * goal.size-replaced l

abbrev pub decreases-all_replaced : goal.decreases-all_replaced
decreases-all_replaced l = 2 * goal.size-all_replaced l + 1

-- the terms so far are replaced, and the same as before where none changed
abbrev pub invariant-all_replaced-loop-term : goal.invariant-all_replaced-loop-term
invariant-all_replaced-loop-term l =
    record {
      value : l.after ≡ map (substituted l.name l.by) (take l.term-index l.terms);
      same : l.changed ≡ false → l.after ≡ take l.term-index l.terms;
    }
