-- What a shelf's or a sink's last call came to, by its answer. This project's own.
use Rattle.rc_text.specs.declared.answer.Got.{Got}
use Rattle.rc_text.specs.declared.answer.Got.TheVariants.{Count, Failed}
use Rattle.rc_text.specs.declared.answer.LastCall.{LastCall}
use Rattle.rc_text.specs.declared.answer.LastCall.TheVariants.{Answered, FailedOpening, FailedReading, FailedWriting}
use Rattle.rc_text.specs.declared.answer.Opened.{Opened as Answer}
use Rattle.rc_text.specs.declared.answer.Opened.TheVariants as answers

-- of opening a name
abbrev pub after_opening : Answer → LastCall
after_opening answers.Opened = Answered
after_opening answers.Failed = FailedOpening

-- of a read
abbrev pub after_reading : Got → LastCall
after_reading (Count count) = Answered
after_reading Failed = FailedReading

-- of a write
abbrev pub after_writing : Got → LastCall
after_writing (Count count) = Answered
after_writing Failed = FailedWriting
