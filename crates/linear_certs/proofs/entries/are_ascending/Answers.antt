use Rattle.std.proofs.Common.{rules, nat_lt}
use Rattle.std.proofs.lemmas.List.Sorted.{answers_always}
use Rattle.linear_certs.proofs.AscendingEntries.{ascending_when_sorted}
use Rattle.linear_certs.proofs.entries.are_ascending.Goals as goal

pub returns : goal.returns
returns c =
    ascending_when_sorted _ _
    (c.is_sorted_by.ensures.cases (λ x y. nat_lt x.row y.row)
    (answers_always _ _ _ (λ f a r g called. search rules)))
