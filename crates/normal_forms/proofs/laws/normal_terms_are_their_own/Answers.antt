use Rattle.normal_forms.proofs.Idempotence.{term_again}
use Rattle.normal_forms.proofs.laws.normal_terms_are_their_own.Goals as goal

pub returns : goal.returns
returns c names term = term_again names term
