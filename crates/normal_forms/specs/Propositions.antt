-- Propositions in normal form: negations pushed inwards, and then the terms' normal form, which decides comparisons of
-- literals (this project's own).
use Rattle.std.specs.Prelude.{false}
use Rattle.rc_terms.specs.declared.term.Term.{Term}
use Rattle.normal_forms.specs.Negation.{pushed}
use Rattle.normal_forms.specs.Normal.{Names, normal_term}

-- a proposition in normal form
abbrev pub normal_prop : Names → Term → Term
normal_prop names term = normal_term names (pushed term false)
