-- A proposition in normal form holds where the proposition does.
use Rattle.std.proofs.Common.{◌≡◌, Bool, true, false, ap, ◌∙◌}
use Rattle.rc_terms.specs.declared.term.Term.{Term}
use Rattle.rc_terms.specs.Operators.{truth_of}
use Rattle.rc_terms.specs.Evaluation.{Environment, value_of}
use Rattle.rc_terms.specs.Sorting.{sorts_of}
use Rattle.normal_forms.specs.Negation.{pushed}
use Rattle.normal_forms.specs.Propositions.{normal_prop}
use Rattle.normal_forms.proofs.Negations.{pushed_keeps}
use Rattle.normal_forms.proofs.StageLaws.{staged_value}

module _ (env : Environment) where
  abbrev holds : Term → Bool
  holds t = truth_of (value_of env t)

  pub prop_holds : (t : Term) → holds (normal_prop (sorts_of env) t) ≡ holds t
  prop_holds t = ap truth_of (staged_value env (pushed t false) true) ∙ pushed_keeps env t false
