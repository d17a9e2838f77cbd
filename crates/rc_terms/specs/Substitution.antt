-- A term with a term in a name's place (this project's own).
use Rattle.std.specs.Prelude.{ℕ, List, cond}
use Rattle.rc_terms.specs.declared.term.Term.{Term, roll-Term}
use Rattle.rc_terms.specs.declared.term.Term.TheOpen.{Term-F}
use Rattle.rc_terms.specs.declared.term.Term.TheFolds.{fold-Term}
use Rattle.rc_terms.specs.Names.{same_name}

-- the name becomes the term, and any other node keeps its form round its new parts
abbrev pub substitution_step : List ℕ → Term → Term-F Term → Term
substitution_step name by (Term-F.Variable other) = cond (same_name name other) by (roll-Term (Term-F.Variable other))
substitution_step name by node = roll-Term node

-- the term with another at each place where the name stands; what is put in stays as it is, its names included
abbrev pub substituted : List ℕ → Term → Term → Term
substituted name by = fold-Term Term (substitution_step name by)
