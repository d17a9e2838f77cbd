use Rattle.std.proofs.Common.{arith, ◌∙◌}
use Rattle.std.proofs.lemmas.Grind.{common_steps}
use Rattle.rc_text.proofs.SinkLemmas.{front_appended_more}
use Rattle.rc_text.proofs.writing.write_whole.Goals as goal

pub loop-done-preserved : goal.loop-done-preserved
loop-done-preserved g c = record {
  within = grind (arith, common_steps);
  written =
      rw (c.in-Count.ensures.front, c.split_at.ensures.back, c.loop-done.invariant.written)
      (front_appended_more _ _ _ _);
  answered = λ _. c.in-Count.ensures.last;
  quiet = c.in-Count.ensures.faults ∙ c.loop-done.invariant.quiet;
}
