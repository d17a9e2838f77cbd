use Rattle.std.proofs.Common.{◌≡◌, ◌∷◌, [], ◌++◌, sym, ◌∙◌, subst, string_bytes, rules}
use Rattle.std.proofs.lemmas.Map.Text.{btree_map_updates_text}
use Rattle.rc_terms.specs.Bindings.{IsIndexOf}
use Rattle.rc_terms.proofs.Indexes.{indexed_snoc}
use Rattle.rc_terms.proofs.bindings.Bindings.bind.Goals as goal

pub invariant_of-self-in-Ok : goal.invariant_of-self-in-Ok
invariant_of-self-in-Ok g c =
    let key_is : string_bytes c.in_ok-key.key ≡ c.args.name = search rules in
    let entries_are : c.push.new.self.items ≡ c.self.inside.entries.items ++ (c.args.name, c.args.meaning) ∷ [] = search rules in
    let updates = btree_map_updates_text (string_bytes c.in_ok-key.key) c.self.inside.newest c.insert.new.self _ c.in-Ok.ensures.updates in
    subst (IsIndexOf c.insert.new.self) (sym entries_are)
    (indexed_snoc c.self.invariant c.args.name c.args.meaning c.insert.new.self (rw (key_is, c.len-place.ensures ∙ c.self.inside.entries.ok.0) at updates))
