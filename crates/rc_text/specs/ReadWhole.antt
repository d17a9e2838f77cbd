-- What reading a file whole answers. This project's own.
use Rattle.std.specs.Prelude.{ℕ, List, Result, Ok, Err}
use Rattle.rc_text.specs.declared.answer.LastCall.{LastCall}
use Rattle.rc_text.specs.declared.answer.LastCall.TheVariants.{Answered, FailedOpening, FailedReading}
use Rattle.rc_text.specs.declared.reading.ReadRefusal.{ReadRefusal}
use Rattle.rc_text.specs.declared.reading.ReadRefusal.TheVariants.{CannotOpen, ReadFault, TooLong, NoMemory}

-- what the shelf's last call came to: each of its two failures is an answer of its own, and no other answer is one
abbrev pub last_call_of : Result (List ℕ) ReadRefusal → LastCall
last_call_of (Ok bytes) = Answered
last_call_of (Err CannotOpen) = FailedOpening
last_call_of (Err ReadFault) = FailedReading
last_call_of (Err TooLong) = Answered
last_call_of (Err NoMemory) = Answered
