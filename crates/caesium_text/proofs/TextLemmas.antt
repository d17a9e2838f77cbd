-- Lemmas on the text of lines.
use Rattle.std.proofs.Common.{◌≡◌, ℕ, ◌+◌, ◌≤◌, ◌<◌, length, get_or, List, [], ◌∷◌, ◌++◌, Some, map, drop, zero, suc, refl, ap, ◌∙◌, sym, append_assoc, add-one, drop-cons}
use Rattle.std.specs.Prelude.{slice_get}
use Rattle.std.specs.Option.{option_map}
use Rattle.std.specs.List.{flat_map}
use Rattle.std.proofs.lemmas.List.{append-nil}
use Rattle.std.proofs.lemmas.Option.{none-some, same_Some}
use Rattle.std.proofs.Math.ListN.{drop_of_length-le}
use Rattle.layouts.specs.declared.layout.Layout.{Layout}
use Rattle.layouts.specs.declared.table.Declaration.{Declaration}
use Rattle.caesium_lines.specs.declared.line.Line.{Line}
use Rattle.caesium_text.specs.Text.{whole_line, lines_text, named_members}

-- no lines
pub text_of_none : lines_text [] ≡ []
unfolding lines_text
text_of_none = refl

-- a line before lines
pub text_of_first : (x : Line) (xs : List Line) → lines_text (x ∷ xs) ≡ whole_line x ++ lines_text xs
unfolding lines_text
text_of_first x xs = refl

-- lines behind lines
pub text_of_both : (xs ys : List Line) → lines_text (xs ++ ys) ≡ lines_text xs ++ lines_text ys
unfolding lines_text
text_of_both [] ys = refl
text_of_both (x ∷ xs) ys =
    ap (λ rest. whole_line x ++ rest) (text_of_both xs ys) ∙ sym (append_assoc (whole_line x) (lines_text xs) (lines_text ys))

-- what a list's elements from a number on become, where that of the number becomes y
found_first : {A B : Type 0} (f : A → B) (xs : List A) (n : ℕ) (y : B) → option_map f (slice_get xs n) ≡ Some y
    → map f (drop n xs) ≡ y ∷ map f (drop (suc n) xs)
found_first f [] n y e = absurd (none-some y e)
found_first f (x ∷ xs) zero y e = ap (λ first. first ∷ map f xs) (same_Some (f x) y e)
found_first f (x ∷ xs) (suc n) y e = found_first f xs n y e

pub text_from : {A : Type 0} (f : A → Line) (xs : List A) (n : ℕ) (y : Line) → option_map f (slice_get xs n) ≡ Some y
    → lines_text (map f (drop n xs)) ≡ whole_line y ++ lines_text (map f (drop (n + 1) xs))
text_from f xs n y e =
    ap lines_text (found_first f xs n y e) ∙ text_of_first y (map f (drop (suc n) xs))
    ∙ ap (λ k. whole_line y ++ lines_text (map f (drop k xs))) (sym (add-one n))

-- past the end nothing is left
pub text_past : {A : Type 0} (f : A → Line) (xs : List A) (n : ℕ) → length xs ≤ n → lines_text (map f (drop n xs)) ≡ []
text_past f xs n h = ap (λ rest. lines_text (map f rest)) (drop_of_length-le xs h) ∙ text_of_none

-- past the last member nothing is left
pub members_past : (table : List Declaration) (offsets : List ℕ) (members : List Layout) (n : ℕ) → length members ≤ n
    → named_members table offsets (drop n members) ≡ []
members_past table offsets members n h = ap (named_members table offsets) (drop_of_length-le members h)

pub flat_past : {A : Type 0} (f : A → List Line) (xs : List A) (n : ℕ) → length xs ≤ n
    → lines_text (flat_map f (drop n xs)) ≡ []
flat_past f xs n h = ap (λ rest. lines_text (flat_map f rest)) (drop_of_length-le xs h) ∙ text_of_none

-- the text of a list's lines from an element on, where each element has one line
pub text_step : {A : Type 0} (f : A → Line) (xs : List A) (n : ℕ) (x : A) → n < length xs → x ≡ get_or xs n x
    → lines_text (map f (drop n xs)) ≡ whole_line (f x) ++ lines_text (map f (drop (n + 1) xs))
text_step f xs n x h e =
    ap (λ rest. lines_text (map f rest)) (drop-cons xs n x h) ∙ text_of_first (f (get_or xs n x)) (map f (drop (suc n) xs))
    ∙ ap (λ y. whole_line (f y) ++ lines_text (map f (drop (suc n) xs))) (sym e)
    ∙ ap (λ k. whole_line (f x) ++ lines_text (map f (drop k xs))) (sym (add-one n))

-- the same where each element has lines
pub flat_step : {A : Type 0} (f : A → List Line) (xs : List A) (n : ℕ) (x : A) → n < length xs → x ≡ get_or xs n x
    → lines_text (flat_map f (drop n xs)) ≡ lines_text (f x) ++ lines_text (flat_map f (drop (n + 1) xs))
flat_step f xs n x h e =
    ap (λ rest. lines_text (flat_map f rest)) (drop-cons xs n x h) ∙ text_of_both (f (get_or xs n x)) (flat_map f (drop (suc n) xs))
    ∙ ap (λ y. lines_text (f y) ++ lines_text (flat_map f (drop (suc n) xs))) (sym e)
    ∙ ap (λ k. lines_text (f x) ++ lines_text (flat_map f (drop k xs))) (sym (add-one n))

-- a loop's step: what is put at the end was the first of what was to come
pub stepped : (old text new piece before after all : List ℕ) → new ≡ text ++ piece → before ≡ piece ++ after
    → text ++ before ≡ old ++ all → new ++ after ≡ old ++ all
stepped old text new piece before after all put parts so_far =
    ap (λ t. t ++ after) put ∙ append_assoc text piece after ∙ ap (λ t. text ++ t) (sym parts) ∙ so_far

-- a loop's end: nothing is to come
pub ended : (text rest all : List ℕ) → rest ≡ [] → text ++ rest ≡ all → text ≡ all
ended text rest all none so_far = sym (append-nil text) ∙ ap (λ t. text ++ t) (sym none) ∙ so_far

-- past the last offset nothing is left
no_offsets : (table : List Declaration) (members : List Layout) → named_members table [] members ≡ []
no_offsets table [] = refl
no_offsets table (member ∷ members) = refl

pub offsets_past : (table : List Declaration) (offsets : List ℕ) (members : List Layout) (n : ℕ) → length offsets ≤ n
    → named_members table (drop n offsets) members ≡ []
offsets_past table offsets members n h =
    ap (λ rest. named_members table rest members) (drop_of_length-le offsets h) ∙ no_offsets table members
