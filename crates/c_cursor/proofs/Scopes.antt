-- The table of the names in scope where the newest declaration is taken back.
use Rattle.std.proofs.Common.{true, List, ◌∷◌, ap, ◌∙◌, subst, sym, ⊎_elim}
use Rattle.std.specs.Option.{IsSome}
use Rattle.std.specs.Str.{bytes_eq}
use Rattle.std.proofs.lemmas.Bool.{cases_Bool, cond-true, cond-false}
use Rattle.std.proofs.lemmas.Slice.Eq.{bytes_eq-Decides}
use Rattle.c_grammar.specs.Names.{meaning_of}
use Rattle.c_cursor.specs.declared.meanings.Meanings.{Meanings}
use Rattle.c_cursor.specs.declared.names.Declared.{Declared}
use Rattle.c_cursor.specs.Scope.{kind_of, Sets, entries, KeepsHidden, IsTableOf}

module _ (newest : Declared) (older : List Declared) (old : Meanings) (table : IsTableOf (entries (newest ∷ older)) old) where
  pub found : IsSome (kind_of old newest.entry.name)
  found =
      let same = (bytes_eq-Decides newest.entry.name newest.entry.name).1 (λ i. newest.entry.name) in
      subst IsSome (sym (table newest.entry.name ∙ cond-true _ _ _ same)) (λ i. true)

  pub restored : (new : Meanings) → KeepsHidden (newest ∷ older) → Sets old newest.entry.name newest.hidden new → IsTableOf (entries older) new
  restored new kept sets name =
      sets name ∙ ⊎_elim
      (λ y. cond-true _ _ _ y ∙ kept.0 ∙ ap (meaning_of (entries older)) ((bytes_eq-Decides newest.entry.name name).0 y))
      (λ n. cond-false _ _ _ n ∙ table name ∙ cond-false _ _ _ n)
      (cases_Bool (bytes_eq newest.entry.name name))
