-- What a count of faults does, for the layers that speak of it alone.
use Rattle.std.proofs.Common.{ℕ, ◌≤◌, arith}
use Rattle.rc_text.specs.declared.answer.LastCall.{LastCall}
use Rattle.rc_text.specs.declared.answer.LastCall.TheVariants.{Answered, FailedOpening, FailedReading, FailedWriting}
use Rattle.rc_text.specs.Faults.{last_fault, one_more, faults_after, HasCause}

-- a failure has its cause in the count
pub one_more-has_cause : (count : ℕ) → HasCause count (one_more count)
one_more-has_cause count below = omega arith

-- a count never falls
pub faults_after-rises : (last : LastCall) (count : ℕ) → count ≤ faults_after last count
faults_after-rises Answered count = omega arith
faults_after-rises FailedOpening count = omega arith
faults_after-rises FailedReading count = omega arith
faults_after-rises FailedWriting count = omega arith

-- a count stays within its last number
pub faults_after-bounded : (last : LastCall) (count : ℕ) → count ≤ last_fault → faults_after last count ≤ last_fault
faults_after-bounded Answered count within = within
faults_after-bounded FailedOpening count within = omega arith
faults_after-bounded FailedReading count within = omega arith
faults_after-bounded FailedWriting count within = omega arith
