use Rattle.refinedc_cli.specs.Outside.{stream_seen}
use Rattle.refinedc_cli.specs.Run.{delivered, no_memory}
use Rattle.refinedc_cli.proofs.RunLemmas.{run_told, run_usage, run_write_fault, run_write_cause, run_read_fault, run_read_cause, nothing_written, run_headline}
use Rattle.refinedc_cli.proofs.run.run.Goals as goal

pub returns-in-Ok-clause-runs : goal.returns-in-Ok-clause-runs
returns-in-Ok-clause-runs g c = delivered c.in-Ok.rendering c.in-Ok.ensures.answer (c.deliver.ensures _ _)

pub returns-in-Err-clause-runs : goal.returns-in-Err-clause-runs
returns-in-Err-clause-runs g c = no_memory (λ answer is. nothing_written (stream_seen (g.O.Sink.written c.args.out.now) (g.O.Sink.faults c.args.out.now)) answer.out) (rw c.as_bytes.ensures.value at c.put.ensures)

pub returns-in-Ok-clause-told : goal.returns-in-Ok-clause-told
returns-in-Ok-clause-told g c =
    let law = c.readings_are_determined.ensures in
    run_told _ _ _ (record { tokens = law.tokens; fault = law.fault; apart = law.apart }) _ (delivered c.in-Ok.rendering c.in-Ok.ensures.answer (c.deliver.ensures _ _))

pub returns-in-Ok-clause-usage : goal.returns-in-Ok-clause-usage
returns-in-Ok-clause-usage g c = run_usage _ _ _ _ (delivered c.in-Ok.rendering c.in-Ok.ensures.answer (c.deliver.ensures _ _))

pub returns-in-Ok-clause-write_fault : goal.returns-in-Ok-clause-write_fault
returns-in-Ok-clause-write_fault g c = run_write_fault _ _ _ _ (delivered c.in-Ok.rendering c.in-Ok.ensures.answer (c.deliver.ensures _ _))

pub returns-in-Ok-clause-write_cause : goal.returns-in-Ok-clause-write_cause
returns-in-Ok-clause-write_cause g c = run_write_cause _ _ _ _ (delivered c.in-Ok.rendering c.in-Ok.ensures.answer (c.deliver.ensures _ _))

pub returns-in-Ok-clause-read_fault : goal.returns-in-Ok-clause-read_fault
returns-in-Ok-clause-read_fault g c = λ rose same. run_read_fault _ _ _ _ (delivered c.in-Ok.rendering c.in-Ok.ensures.answer (c.deliver.ensures _ _)) rose

pub returns-in-Ok-clause-read_cause : goal.returns-in-Ok-clause-read_cause
returns-in-Ok-clause-read_cause g c = run_read_cause _ _ _ _ (delivered c.in-Ok.rendering c.in-Ok.ensures.answer (c.deliver.ensures _ _))

pub returns-in-Ok-clause-headline : goal.returns-in-Ok-clause-headline
returns-in-Ok-clause-headline g c =
    run_headline c.literal_runs_are_sound.ensures _ _ _ _ (delivered c.in-Ok.rendering c.in-Ok.ensures.answer (c.deliver.ensures _ _))
