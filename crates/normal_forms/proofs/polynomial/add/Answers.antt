use Rattle.std.proofs.Common.{ap, ◌∙◌}
use Rattle.std.specs.BTreeMap.{insert_entry}
use Rattle.normal_forms.specs.Sums.{product_order}
use Rattle.normal_forms.proofs.Gathering.{inserted}
use Rattle.normal_forms.proofs.polynomial.add.Goals as goal

pub returns : goal.returns
returns c =
    let entries = c.args.polynomial.now.entries in
    c.in_ok-insert.ensures.entries
    ∙ ap (insert_entry product_order entries c.args.product) c.in_ok-after.ensures
    ∙ inserted c.args.product c.args.factor.now entries c.in_ok-insert.ensures.was_ordered
