-- A byte that is a punctuator, and begins no other one.
use Rattle.std.proofs.Common.{◌≡◌, ℕ, ◌<◌, ◌≤◌, Bool, true, false, not, ◌&&◌, ◌||◌, eqb, ltb, List, [], ◌∷◌, ◌++◌, length, get_or, take, drop, sym, refl, ap, ◌∙◌, arith}
use Rattle.std.specs.List.{list_all}
use Rattle.std.proofs.lemmas.Bool.{false≢true, eqb-true, and_parts, not-true}
use Rattle.c_lexer.specs.declared.punctuator.Punctuator.{Punctuator}
use Rattle.c_lexer.specs.declared.token.TokenKind.TheVariants as kinds
use Rattle.c_lexer.specs.Bytes.{is_blank, is_digit, is_letter, is_word_byte}
use Rattle.c_lexer.specs.Punctuator.{punctuator_text}
use Rattle.c_lexer.specs.LongestMatch.{Begins}
use Rattle.c_lexer.specs.Elements.{SingleToken, ElementBegins}
use Rattle.c_lexer.specs.Scanning.Punctuators.{punctuators_from}
use Rattle.c_lexer.specs.Scanning.Tokens.{BeginsOtherwise}
use Rattle.c_lexer.proofs.Elements.{lexed_found}
use Rattle.c_lexer.proofs.Punctuators.{looks_so, punctuator_looks}
use Rattle.c_lexer.proofs.PunctuatorScans.{no_longer, punctuator_scanned}

fails_by : (b : Bool) → (b ≡ true → ⊥) → b ≡ false
fails_by true f = absurd (f refl)
fails_by false f = refl

and_fails : (a b : Bool) → b ≡ false → (a && b) ≡ false
and_fails true b fails = fails
and_fails false b fails = refl

module _ (b : ℕ) (punctuator : Punctuator) (spelled : punctuator_text punctuator ≡ b ∷ []) (only : punctuators_from b ≡ punctuator ∷ []) where
  -- it isn't a byte that begins more than one
  pub is_not : (n : ℕ) → (length (punctuators_from n) ≡ 1 → ⊥) → eqb b n ≡ false
  is_not n more = fails_by (eqb b n) (λ same. more (ap (λ k. length (punctuators_from k)) (sym (eqb-true b n same)) ∙ ap length only))

  pub otherwise : (bs : List ℕ) → BeginsOtherwise (b ∷ bs)
  otherwise bs =
      let looks : looks_so (b ∷ []) ≡ true = ap looks_so (sym spelled) ∙ punctuator_looks punctuator in
      let a = and_parts (true && not (is_word_byte b) && not (eqb b 34) && not (eqb b 39) && not (is_blank b)) _ looks in
      let c = and_parts (true && not (is_word_byte b) && not (eqb b 34) && not (eqb b 39)) _ a.0 in
      let d = and_parts (true && not (is_word_byte b) && not (eqb b 34)) _ c.0 in
      let e = and_parts (true && not (is_word_byte b)) _ d.0 in
      let no_word : is_word_byte b ≡ false = not-true (is_word_byte b) e.0 in
      let no_letter : is_letter b ≡ false = fails_by (is_letter b) (λ letter. false≢true (sym no_word ∙ ap (λ t. t || is_digit b) letter)) in
      let no_digit : is_digit b ≡ false = ap (λ t. t || is_digit b) (sym no_letter) ∙ no_word in
      record {
        some = omega arith;
        no_letter = no_letter;
        no_number = ap (λ t. t || (eqb b 46 && is_digit (get_or bs 0 0))) no_digit ∙ ap (λ t. t && is_digit (get_or bs 0 0)) (is_not 46 (λ one. omega (arith, one)));
        no_string = λ is. false≢true (sym (not-true (eqb b 34) e.1) ∙ ap (λ k. eqb k 34) is);
        no_character = λ is. false≢true (sym (not-true (eqb b 39) d.1) ∙ ap (λ k. eqb k 39) is);
        no_comment = ap (λ t. t && (eqb (get_or bs 0 0) 42 || eqb (get_or bs 0 0) 47)) (is_not 47 (λ one. omega (arith, one)));
        no_blank = not-true (is_blank b) c.1;
      }

  pub scanned_alone : (bs : List ℕ) → (1 ≤ length (b ∷ bs)) × Begins (b ∷ bs) (kinds.Punctuator punctuator) (take 1 (b ∷ bs)) (drop 1 (b ∷ bs))
  scanned_alone bs =
      punctuator_scanned (b ∷ bs) (otherwise bs) punctuator 1 (sym (ap length spelled))
      ((bs, ap (λ l. l ++ bs) (sym spelled)), λ other rest split. no_longer (b ∷ bs) (punctuator ∷ []) (sym only) rest 0 punctuator other split (omega arith))

  pub found_alone : (fresh : Bool) (bs : List ℕ) → ElementBegins (fresh ≡ true) (b ∷ bs) (SingleToken (kinds.Punctuator punctuator)) (b ∷ []) bs
  found_alone fresh bs =
      let scanned = scanned_alone bs in
      lexed_found fresh (b ∷ bs) (kinds.Punctuator punctuator) 1 scanned.0 scanned.1 (and_fails fresh (eqb b 35) (is_not 35 (λ one. omega (arith, one))))

pub alone_begins : (fresh : Bool) (bytes : List ℕ) (b : ℕ) (punctuator : Punctuator) → 0 < length bytes → b ≡ get_or bytes 0 0 → punctuator_text punctuator ≡ b ∷ [] → punctuators_from b ≡ punctuator ∷ []
    → (take 1 bytes ≡ b ∷ []) × ElementBegins (fresh ≡ true) bytes (SingleToken (kinds.Punctuator punctuator)) (take 1 bytes) (drop 1 bytes)
alone_begins fresh [] b punctuator some is spelled only = absurd (omega arith)
alone_begins fresh (a ∷ later) b punctuator some is spelled only =
    let first : b ≡ a = is in
    (ap (λ k. k ∷ []) (sym first), found_alone a punctuator (spelled ∙ ap (λ k. k ∷ []) first) (ap punctuators_from (sym first) ∙ only) fresh later)
