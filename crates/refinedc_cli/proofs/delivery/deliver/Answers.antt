use Rattle.std.proofs.Common.{◌∙◌, refl, ap, List, ℕ, subst}
use Rattle.rc_text.specs.Sink.{appended, WrotePrefix}
use Rattle.refinedc_cli.specs.Delivery.{whole, failed}
use Rattle.refinedc_cli.proofs.delivery.deliver.Goals as goal

pub returns-in-Whole : goal.returns-in-Whole
returns-in-Whole g c = λ before after.
    whole
    (c.in-Whole.ensures.whole refl ∙ ap (λ (text : List ℕ). appended (g.O.Sink.written c.args.out.now) text) c.as_slice.ensures, c.in-Whole.ensures.quiet refl)
    (rw c.as_slice-in-Whole.ensures at c.put.ensures)

pub returns-in-Fault : goal.returns-in-Fault
returns-in-Fault g c = λ before after.
    failed (
      subst (λ (text : List ℕ). WrotePrefix (g.O.Sink.written c.args.out.now) (g.O.Sink.written c.write_whole.new.sink) text) c.as_slice.ensures (c.in-Fault.ensures.prefix refl),
      c.in-Fault.ensures.counted refl,
    )
    (rw c.as_bytes.ensures.value at c.put-in-Fault.ensures)
