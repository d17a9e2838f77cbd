use Rattle.linear_certs.proofs.Refutation.{refutes}
use Rattle.linear_certs.proofs.laws.valid_certificates_refute.Goals as goal

pub returns : goal.returns
returns c = refutes
