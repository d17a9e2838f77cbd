-- What an index of the names' last entries gives, and what it is after a further entry.
use Rattle.std.proofs.Common.{◌≡◌, ℕ, ◌<◌, Bool, true, false, cond, List, [], ◌∷◌, ◌++◌, length, get_or, refl, ap, ◌∙◌, sym, subst, Option, Some, None, String, BTreeMap, arith, option_map}
use Rattle.std.specs.Prelude.{slice_get, option_and_then, IfSome}
use Rattle.std.specs.BTreeMap.{get_by_text}
use Rattle.std.specs.Map.{update}
use Rattle.std.specs.Str.{bytes_eq}
use Rattle.std.proofs.lemmas.List.{length_push, get_or_append_left}
use Rattle.std.proofs.lemmas.Option.{slice_get-get_or}
use Rattle.std.proofs.Math.Seq.{get_or-append_seam}
use Rattle.rc_terms.specs.Bindings.{binding_of, IsIndexOf}
use Rattle.rc_terms.proofs.Substitutions.{binding_of-snoc}

module _ {T A : Type 0} {newest : BTreeMap (String A) ℕ} {entries : List (List ℕ × T)} (index : IsIndexOf newest entries) where
  pub place_within : (name : List ℕ) (place : ℕ) → get_by_text newest name ≡ Some place → place < length entries
  place_within name place is = subst (λ o. IfSome o (λ n. n < length entries)) is (index.places name)

  pub meaning_at : (name : List ℕ) (place : ℕ) (entry : List ℕ × T) → get_by_text newest name ≡ Some place
      → entry ≡ get_or entries place entry → Some entry.1 ≡ binding_of name entries
  meaning_at name place entry is read =
      let at : slice_get entries place ≡ Some entry =
      slice_get-get_or entries place entry (place_within name place is) ∙ ap (λ e. Some e) (sym read) in
      sym (ap (option_map (λ e. e.1)) at)
      ∙ sym (ap (option_and_then (λ n. option_map (λ e. e.1) (slice_get entries n))) is)
      ∙ index.meanings name

  pub no_meaning : (name : List ℕ) → get_by_text newest name ≡ None → None ≡ binding_of name entries
  no_meaning name is =
      sym (ap (option_and_then (λ n. option_map (λ e. e.1) (slice_get entries n))) is) ∙ index.meanings name

  module _ (key : List ℕ) (meaning : T) where
    abbrev after : List (List ℕ × T)
    after = entries ++ (key, meaning) ∷ []

    abbrev at : ℕ → Option T
    at place = option_map (λ e. e.1) (slice_get after place)

    kept : (o : Option ℕ) → IfSome o (λ n. n < length entries)
        → option_and_then at o ≡ option_and_then (λ n. option_map (λ e. e.1) (slice_get entries n)) o
    kept None within = refl
    kept (Some n) within =
        let old = get_or entries n (key, meaning) in
        let longer : n < length after = omega (arith, length_push entries (key, meaning), within) in
        ap (option_map (λ e. e.1))
        (slice_get-get_or after n (key, meaning) longer
        ∙ ap (λ e. Some e) (get_or_append_left entries ((key, meaning) ∷ []) (key, meaning) n within)
        ∙ sym (slice_get-get_or entries n (key, meaning) within))

    newest_meaning : (name : List ℕ) (b : Bool)
        → option_and_then at (cond b (Some (length entries)) (get_by_text newest name))
        ≡ cond b (Some meaning) (binding_of name entries)
    newest_meaning name true =
        ap (option_map (λ e. e.1))
        (slice_get-get_or after (length entries) (key, meaning) (omega (arith, length_push entries (key, meaning)))
        ∙ ap (λ e. Some e) (get_or-append_seam entries (key, meaning) [] (key, meaning)))
    newest_meaning name false = kept (get_by_text newest name) (index.places name) ∙ index.meanings name

    within_longer : (o : Option ℕ) → IfSome o (λ n. n < length entries) → IfSome o (λ n. n < length after)
    within_longer None within = within
    within_longer (Some n) within = omega (arith, length_push entries (key, meaning), within)

    newest_place : (name : List ℕ) (b : Bool)
        → IfSome (cond b (Some (length entries)) (get_by_text newest name)) (λ n. n < length after)
    newest_place name true = omega (arith, length_push entries (key, meaning))
    newest_place name false = within_longer (get_by_text newest name) (index.places name)

    -- the index with the place of a further entry is that of the entries with it
    pub indexed_snoc : {B : Type 0} (newer : BTreeMap (String B) ℕ)
        → ((name : List ℕ) → get_by_text newer name ≡ update bytes_eq (get_by_text newest) key (Some (length entries)) name)
        → IsIndexOf newer after
    indexed_snoc newer updates = record {
      meanings = λ name.
          ap (option_and_then at) (updates name) ∙ newest_meaning name (bytes_eq key name)
          ∙ sym (binding_of-snoc entries key name meaning);
      places = λ name. subst (λ o. IfSome o (λ n. n < length after)) (sym (updates name)) (newest_place name (bytes_eq key name));
    }
