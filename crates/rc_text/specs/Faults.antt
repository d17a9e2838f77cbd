-- A count of faults: how often the outside has failed an object. It never falls, and stands still at its last number.
-- This project's own.
use Rattle.std.specs.Prelude.{ℕ, ◌+◌, ◌-◌, ◌^◌, ◌<◌, max, min}
use Rattle.rc_text.specs.declared.answer.LastCall.{LastCall}
use Rattle.rc_text.specs.declared.answer.LastCall.TheVariants.{Answered, FailedOpening, FailedReading, FailedWriting}

-- the last number that a count reaches
abbrev pub last_fault : ℕ
last_fault = 2 ^ 64 - 1

-- the count after one more, up to the last number, and never less than the count
abbrev pub one_more : ℕ → ℕ
one_more count = max count (min (count + 1) last_fault)

-- the count of faults after a call that came to this: a failure counts once, and an answer doesn't
abbrev pub faults_after : LastCall → ℕ → ℕ
faults_after Answered count = count
faults_after FailedOpening count = one_more count
faults_after FailedReading count = one_more count
faults_after FailedWriting count = one_more count

-- the count rose
abbrev pub Rose : ℕ → ℕ → Type 0
Rose old new = old < new

-- a failure has its cause outside: the count rose, or stood at its last number before
abbrev pub HasCause : ℕ → ℕ → Type 0
HasCause old new = old < last_fault → Rose old new
