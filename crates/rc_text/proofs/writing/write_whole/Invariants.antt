use Rattle.std.proofs.Common.{length, ◌-◌, ◌≡◌, ◌≤◌, ◌<◌}
use Rattle.rc_text.specs.Sink.{front_appended}
use Rattle.rc_text.specs.declared.answer.LastCall.TheVariants.{Answered}
use Rattle.rc_text.proofs.writing.write_whole.Given as goal

-- what is done is written, and nothing has failed
abbrev pub invariant-loop-done : goal.invariant-loop-done
invariant-loop-done g l = record {
  within : l.done ≤ length l.text;
  written : g.O.Sink.written l.sink ≡ front_appended (g.O.Sink.written l.fn.sink) l.done l.text;
  answered : 0 < l.done → g.O.Sink.last l.sink ≡ Answered;
  quiet : g.O.Sink.faults l.sink ≡ g.O.Sink.faults l.fn.sink;
}

abbrev pub decreases-loop-done : goal.decreases-loop-done
decreases-loop-done g l = length l.text - l.done
