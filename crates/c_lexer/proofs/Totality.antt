-- A file whose elements were all passed, or that has none at some place, has a reading.
use Rattle.std.proofs.Common.{◌≡◌, ℕ, ◌+◌, ◌-◌, ◌<◌, ◌≤◌, Bool, true, List, [], ◌∷◌, ◌++◌, length, take, drop, Option, Some, None, sym, refl, ap, ◌∙◌, subst, inl, inr, ⊎_elim, arith}
use Rattle.std.proofs.lemmas.Bool.{cases_lt}
use Rattle.std.proofs.lemmas.List.{drop-drop, drop_all, length-drop, length-append}
use Rattle.rc_text.specs.Places.{place_after}
use Rattle.c_lexer.specs.declared.fault.LexFaultKind.{LexFaultKind}
use Rattle.std.specs.List.{slice_range}
use Rattle.c_lexer.specs.declared.fault.LexFaultKind.TheVariants as faults
use Rattle.c_lexer.specs.declared.fault.LexFault.{LexFault}
use Rattle.c_lexer.specs.declared.token.Token.{Token}
use Rattle.c_lexer.specs.declared.token.TokenKind.{TokenKind}
use Rattle.c_lexer.specs.declared.scanner.Unread.TheVariants as unreads
use Rattle.c_lexer.specs.Directives.{HasName}
use Rattle.c_lexer.specs.TokenLists.{TokenLists}
use Rattle.c_lexer.specs.Elements.{ElementKind, Blank, Comment, DirectiveLine, SingleToken, Element, ElementBegins, NoElementBegins, AreElements, bytes_of, meaning_of, token_of, tokens_of, includes_of}
use Rattle.c_lexer.specs.Scanning.Tokens.{OpensAs}
use Rattle.c_lexer.specs.Scanning.Directives.{IsNameBehind}
use Rattle.c_lexer.specs.Scanning.Reading.{is_fresh, is_fresh_after, token_count, HasPassed}
use Rattle.c_lexer.specs.Files.{AreTokensOf, Opens, IsFaultOf, HasReading, token_limit}
use Rattle.c_lexer.proofs.FirstOfLine.{begins_first, none_begins_first}
use Rattle.c_lexer.proofs.Files.{same_fault}

pub none_passed : (bytes : List ℕ) → HasPassed bytes 0 true 0
none_passed bytes = record { elements = []; are = refl; inside = omega arith; fresh_is = refl; tokens_are = refl; few = omega arith }

token_counted : (kind : ElementKind) (text : List ℕ) (meaning : Option TokenKind) (before : List ℕ) → length (token_of kind text meaning before) ≡ token_count kind
token_counted Blank text meaning before = refl
token_counted Comment text meaning before = refl
token_counted (DirectiveLine directive) text meaning before = refl
token_counted (SingleToken kind) text meaning before = refl

one_at_most : (kind : ElementKind) → token_count kind ≤ 1
one_at_most Blank = omega arith
one_at_most Comment = omega arith
one_at_most (DirectiveLine directive) = omega arith
one_at_most (SingleToken kind) = omega arith

-- one element more
pub passes : (bytes rest : List ℕ) (at n : ℕ) (fresh after : Bool) (tokens : ℕ) (kind : ElementKind) → HasPassed bytes at fresh tokens → rest ≡ drop at bytes → 0 < n → n ≤ length rest
    → ElementBegins (fresh ≡ true) rest kind (take n rest) (drop n rest) → after ≡ is_fresh_after kind (take n rest) fresh → HasPassed bytes (at + n) after (tokens + token_count kind)
passes bytes rest at n fresh after tokens kind passed rest_is some inside begins after_is =
    let size : length rest ≡ length bytes - at = ap length rest_is ∙ length-drop at bytes in
    let back : drop n rest ≡ drop (at + n) bytes = ap (drop n) rest_is ∙ drop-drop n at bytes in
    let earlier = passed.elements in
    let made : List Token = token_of kind (take n rest) (meaning_of earlier (take n rest)) (bytes_of earlier) in
    let counted : length made ≡ token_count kind = token_counted kind (take n rest) (meaning_of earlier (take n rest)) (bytes_of earlier) in
    let sum : length (tokens_of earlier ++ made) ≡ length (tokens_of earlier) + length made = length-append (tokens_of earlier) made in
    record {
      elements = record { kind = kind; text = take n rest } ∷ earlier;
      are = (
        drop at bytes,
        passed.are,
        begins_first earlier fresh passed.fresh_is (drop at bytes) kind (take n rest) (drop (at + n) bytes)
            (subst (λ l. ElementBegins (fresh ≡ true) l kind (take n rest) (drop (at + n) bytes)) rest_is (subst (λ l. ElementBegins (fresh ≡ true) rest kind (take n rest) l) back begins)),
      );
      inside = omega (arith, passed.inside, size, inside);
      fresh_is = after_is ∙ ap (is_fresh_after kind (take n rest)) passed.fresh_is;
      tokens_are = ap (λ k. tokens + k) (sym counted) ∙ ap (λ k. k + length made) passed.tokens_are ∙ sym sum;
      few = omega (arith, passed.few, some, one_at_most kind);
    }

-- all bytes were passed
pub all_passed : (bytes : List ℕ) (at : ℕ) (fresh : Bool) (tokens : ℕ) → HasPassed bytes at fresh tokens → length bytes ≤ at → (lists : TokenLists) × AreTokensOf bytes lists × (length lists.tokens ≡ tokens)
all_passed bytes at fresh tokens passed all =
    let elements = passed.elements in
    let are = subst (λ l. AreElements bytes elements l) (drop_all at bytes all) passed.are in
    let lists : TokenLists = record { tokens = tokens_of elements; includes = includes_of elements (place_after bytes); end = place_after bytes } in
    (lists, (elements, are, refl), sym passed.tokens_are)

pub many_passed : (bytes : List ℕ) (at : ℕ) (fresh : Bool) (tokens : ℕ) → HasPassed bytes at fresh tokens → length bytes ≤ at → token_limit < tokens → (lists : TokenLists) × AreTokensOf bytes lists × (token_limit < length lists.tokens)
many_passed bytes at fresh tokens passed all many =
    let reading = all_passed bytes at fresh tokens passed all in
    (reading.0, reading.1, omega (arith, reading.2, many))

-- no element begins the bytes at a place
stopped : (bytes : List ℕ) (at : ℕ) (fresh : Bool) (tokens : ℕ) → HasPassed bytes at fresh tokens → NoElementBegins (fresh ≡ true) (drop at bytes) × ((kind : LexFaultKind) × Opens kind (drop at bytes)) → HasReading bytes
stopped bytes at fresh tokens passed stops =
    let elements = passed.elements in
    let fault : LexFault = record { place = place_after (bytes_of elements); kind = stops.1.0 } in
    let is : IsFaultOf bytes fault = (
      elements,
      drop at bytes,
      record {
        are = passed.are;
        stops = none_begins_first elements fresh passed.fresh_is (drop at bytes) stops.0;
        opens = stops.1.1;
        place = refl;
      },
    ) in
    inr (inr (fault, is, λ other other_is. same_fault bytes other fault other_is is))

-- the file has a reading, whether or not all bytes were passed
pub passed_reading : (bytes : List ℕ) (at : ℕ) (fresh : Bool) (tokens : ℕ) → HasPassed bytes at fresh tokens
    → (at < length bytes → NoElementBegins (fresh ≡ true) (drop at bytes) × ((kind : LexFaultKind) × Opens kind (drop at bytes))) → HasReading bytes
passed_reading bytes at fresh tokens passed stops =
    ⊎_elim (λ less. stopped bytes at fresh tokens passed (stops less)) (λ all. whole (all_passed bytes at fresh tokens passed all)) (cases_lt at (length bytes))
  where
    whole : ((lists : TokenLists) × AreTokensOf bytes lists × (length lists.tokens ≡ tokens)) → HasReading bytes
    whole reading =
        ⊎_elim
        (λ many. inr (inl (reading.0, reading.1, many)))
        (λ few. inl (reading.0, reading.1, few))
        (cases_lt token_limit (length reading.0.tokens))

-- a `#` opens a fault, whatever stands behind it
pub directive_opens : (bytes rest : List ℕ) (found : Option (ℕ × ℕ)) → OpensAs unreads.Directive bytes → rest ≡ drop 1 bytes → IsNameBehind rest found → (kind : LexFaultKind) × Opens kind bytes
directive_opens bytes rest (Some name) opens is behind =
    (faults.Directive (Some (slice_range rest name.0 name.1)), (opens.0, opens.1, subst (λ l. HasName l (Some (slice_range rest name.0 name.1))) (is ∙ ap (drop 1) opens.1) behind.2))
directive_opens bytes rest None opens is behind =
    (faults.Directive None, (opens.0, opens.1, subst (λ l. HasName l None) (is ∙ ap (drop 1) opens.1) behind))
