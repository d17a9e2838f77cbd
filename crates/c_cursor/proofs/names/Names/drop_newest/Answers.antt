use Rattle.std.proofs.Common.{◌≡◌, [], ◌∷◌, ap, ◌∙◌, subst, reverse}
use Rattle.std.proofs.lemmas.List.{reverse-append}
use Rattle.c_cursor.specs.Scope.{Sets, entries, KeepsHidden, IsTableOf}
use Rattle.c_cursor.proofs.Scopes.{found, restored}
use Rattle.c_cursor.proofs.names.Names.drop_newest.Goals as goal

pub restore-requires : goal.restore-requires
restore-requires c =
    let older = reverse c.pop.new.self.items in
    let first : reverse c.self.inside.declared.items ≡ c.in-Some.field-0 ∷ older =
    ap reverse c.in-Some.ensures.items ∙ reverse-append c.pop.new.self.items (c.in-Some.field-0 ∷ []) in
    let table = subst (λ all. IsTableOf (entries all) c.self.inside.meanings) first c.self.invariant.1 in
    rw c.as_slice.ensures (found c.in-Some.field-0 older c.self.inside.meanings table)

pub invariant_of-self : goal.invariant_of-self
invariant_of-self c =
    let older = reverse c.pop.new.self.items in
    let old = c.self.inside.meanings in
    let first : reverse c.self.inside.declared.items ≡ c.in-Some.field-0 ∷ older =
    ap reverse c.in-Some.ensures.items ∙ reverse-append c.pop.new.self.items (c.in-Some.field-0 ∷ []) in
    let table = subst (λ all. IsTableOf (entries all) old) first c.self.invariant.1 in
    let kept = subst KeepsHidden first c.self.invariant.0 in
    let sets : Sets old c.in-Some.field-0.entry.name c.in-Some.field-0.hidden c.restore.new.self =
    subst (λ name. Sets old name c.in-Some.field-0.hidden c.restore.new.self) c.as_slice.ensures c.restore.ensures in
    (kept.1, restored c.in-Some.field-0 older old table c.restore.new.self kept sets)
