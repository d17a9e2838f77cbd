use Rattle.std.proofs.Common.{◌<◌, subst, sym, ◌∙◌, ap}
use Rattle.rc_terms.specs.Bindings.{binding_of}
use Rattle.rc_terms.proofs.Indexes.{place_within, meaning_at}
use Rattle.rc_terms.proofs.bindings.Bindings.get.Goals as goal

pub index-requires : goal.index-requires
index-requires g c =
    subst (λ n. c.in-Some.place.now < n) (sym c.self.inside.entries.ok.0)
    (place_within c.self.invariant c.as_str.result.now c.in-Some.place.now (sym c.in-Some.ensures.value))

pub returns-in-Some : goal.returns-in-Some
returns-in-Some g c =
    meaning_at c.self.invariant c.as_str.result.now c.in-Some.place.now c.index.result.now (sym c.in-Some.ensures.value) c.index.ensures
    ∙ ap (λ name. binding_of name c.self.inside.entries.items) c.as_str.ensures
    ∙ ap (binding_of c.args.name.now) c.self.view_is
