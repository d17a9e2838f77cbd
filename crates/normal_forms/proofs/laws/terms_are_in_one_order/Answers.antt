use Rattle.std.specs.Cmp.{on_total}
use Rattle.std.specs.Cmp.Lexicographic.{nat_list_cmp_total}
use Rattle.normal_forms.specs.Order.{key_of}
use Rattle.normal_forms.proofs.Keys.{terms_apart}
use Rattle.normal_forms.proofs.laws.terms_are_in_one_order.Goals as goal

pub returns-clause-total : goal.returns-clause-total
returns-clause-total c = on_total key_of nat_list_cmp_total

pub returns-clause-apart : goal.returns-clause-apart
returns-clause-apart c = terms_apart
