use Rattle.std.proofs.Common.{◌≡◌, Err, sym, ap, ◌∙◌}
use Rattle.std.proofs.lemmas.Result.{err_from_is_err_and}
use Rattle.linear_certs.specs.declared.refusal.CertRefusal.TheVariants as refusals
use Rattle.linear_certs.proofs.PartialSums.{more_sum, past_width}
use Rattle.linear_certs.proofs.sum.Sum.of.Goals as goal

pub loop-entry-preserved : goal.loop-entry-preserved
loop-entry-preserved c =
    more_sum _ _ _ _ _ _ c.loop-entry-test.true c.loop-entry.invariant c.in_ok-add_entry.ensures.narrow
    c.in_ok-add_entry.ensures.sum

-- the entry that can't be added is the first too many
pub returns-in_err-add_entry-clause-wide : goal.returns-in_err-add_entry-clause-wide
returns-in_err-add_entry-clause-wide c =
    let p = err_from_is_err_and c.from_residual.result c.from_residual.ensures.1 in
    λ is_width.
    let gave = sym p.1 ∙ is_width in
    let same : p.0 ≡ refusals.Width = cc in
    let wide = c.in_err-add_entry.ensures.wide (ap Err (sym p.2 ∙ same)) in
    let is = rw c.as_slice-entry-items.ensures at c.loop-entry.invariant in
    let within = rw c.as_slice-entry-items.ensures at c.loop-entry-test.true in
    past_width _ _ c.args.cert.now _ _ within is (rw c.as_slice-entry-items.ensures at wide)
