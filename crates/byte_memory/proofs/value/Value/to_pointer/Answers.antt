use Rattle.std.proofs.Common.{refl, sym, ◌∙◌, rules}
use Rattle.std.proofs.lemmas.Slice.Eq.{slice_eq-Decides}
use Rattle.byte_memory.proofs.value.Value.to_pointer.Goals as goal

pub returns-then-eq-clause-pointer : goal.returns-then-eq-clause-pointer
returns-then-eq-clause-pointer c =
    sym c.self.view_is ∙ sym c.as_slice-2.ensures.value
    ∙ (slice_eq-Decides (λ a b. search rules) _ _ _ c.if-eq.ensures).0 refl
    ∙ c.as_slice-3.ensures ∙ c.fragments.ensures
