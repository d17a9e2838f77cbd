-- What each lexeme begins with, and which bytes it has.
use Rattle.std.proofs.Common.{◌≡◌, ◌≢◌, ℕ, ◌+◌, ◌<◌, Bool, true, false, cond, ◌&&◌, ◌||◌, eqb, List, [], ◌∷◌, ◌++◌, length, get_or, Some, None, sym, refl, ap, ◌∙◌, subst, inl, inr, ⊎_elim, arith, ◌⊎◌}
use Rattle.std.specs.List.{list_all}
use Rattle.std.proofs.lemmas.Bool.{and_parts, and_from, false≢true}
use Rattle.std.proofs.lemmas.Bool.Decides.{nat_tests}
use Rattle.std.proofs.lemmas.List.{get_or_append_left, length-append}
use Rattle.std.proofs.lemmas.List.Folds.{list_all-append}
use Rattle.c_lexer.specs.declared.token.CharacterConstant.{CharacterConstant}
use Rattle.c_lexer.specs.declared.token.IntegerBase.{IntegerBase}
use Rattle.c_lexer.specs.declared.token.IntegerBase.TheVariants as bases
use Rattle.c_lexer.specs.declared.token.IntegerConstant.{IntegerConstant}
use Rattle.c_lexer.specs.declared.token.IntegerSuffix.{IntegerSuffix}
use Rattle.c_lexer.specs.declared.token.TokenKind.{TokenKind}
use Rattle.c_lexer.specs.declared.token.TokenKind.TheVariants as kinds
use Rattle.c_lexer.specs.Bytes.{is_digit, is_letter, is_word_byte, is_hexadecimal_digit}
use Rattle.c_lexer.specs.Integers.{is_digit_of, is_u, is_l, suffix_of, HasPrefix, IsInteger}
use Rattle.c_lexer.specs.Floating.{is_exponent_mark, IsScaled, IsFloating}
use Rattle.c_lexer.specs.Characters.{IsCharacter}
use Rattle.c_lexer.specs.Spelling.{is_word, is_number_word, IsNumberLike, Spells}
use Rattle.c_lexer.specs.Scanning.Tokens.{begins_number}
use Rattle.c_lexer.proofs.Keywords.{is_word-keyword_text}
use Rattle.c_lexer.proofs.Classes.{class_of_text}
use Rattle.c_lexer.proofs.Punctuators.{punctuator_class}
use Rattle.c_lexer.proofs.Lists.{list_all-weaker}

pub letter_is_word_byte : (b : ℕ) → is_letter b ≡ true → is_word_byte b ≡ true
letter_is_word_byte b letter = ap (λ t. t || is_digit b) letter

pub digit_is_word_byte : (b : ℕ) → is_digit b ≡ true → is_word_byte b ≡ true
digit_is_word_byte b digit = grind (arith, nat_tests)

pub is_word_bytes : (word : List ℕ) → is_word word ≡ true → list_all is_word_byte word ≡ true
is_word_bytes [] word = absurd (false≢true word)
is_word_bytes (b ∷ bs) word = let parts = and_parts (is_letter b) (list_all is_word_byte bs) word in rw (letter_is_word_byte b parts.0) parts.1

pub is_word_first : (word : List ℕ) → is_word word ≡ true → is_letter (get_or word 0 0) ≡ true
is_word_first [] word = absurd (false≢true word)
is_word_first (b ∷ bs) word = (and_parts (is_letter b) (list_all is_word_byte bs) word).0

pub is_number_word_bytes : (word : List ℕ) → is_number_word word ≡ true → list_all is_word_byte word ≡ true
is_number_word_bytes [] word = absurd (false≢true word)
is_number_word_bytes (b ∷ bs) word = let parts = and_parts (is_digit b) (list_all is_word_byte bs) word in rw (digit_is_word_byte b parts.0) parts.1

pub is_number_word_first : (word : List ℕ) → is_number_word word ≡ true → is_digit (get_or word 0 0) ≡ true
is_number_word_first [] word = absurd (false≢true word)
is_number_word_first (b ∷ bs) word = (and_parts (is_digit b) (list_all is_word_byte bs) word).0

pub number_word_from : (word : List ℕ) → 0 < length word → is_digit (get_or word 0 0) ≡ true → list_all is_word_byte word ≡ true → is_number_word word ≡ true
number_word_from [] some digit all = absurd (omega arith)
number_word_from (b ∷ bs) some digit all = and_from (is_digit b) (list_all is_word_byte bs) digit (and_parts (is_word_byte b) (list_all is_word_byte bs) all).1

-- which way a test went
pub chosen : {A : Type 0} (b : Bool) (x y z : A) → cond b x y ≡ z → ((b ≡ true) × (x ≡ z)) ⊎ ((b ≡ false) × (y ≡ z))
chosen true x y z e = inl (refl, e)
chosen false x y z e = inr (refl, e)

pub or_parts : (a b : Bool) → (a || b) ≡ true → (a ≡ true) ⊎ (b ≡ true)
or_parts true b e = inl refl
or_parts false b e = inr e

-- the bytes of a suffix
abbrev pub is_suffix_byte : ℕ → Bool
is_suffix_byte b = is_u b || is_l b

u_is_suffix_byte : (b : ℕ) → is_u b ≡ true → is_suffix_byte b ≡ true
u_is_suffix_byte b u = ap (λ t. t || is_l b) u

l_is_suffix_byte : (b : ℕ) → is_l b ≡ true → is_suffix_byte b ≡ true
l_is_suffix_byte b l = grind (arith, nat_tests)

same_is_l : (a b : ℕ) → is_l a ≡ true → eqb a b ≡ true → is_l b ≡ true
same_is_l a b l same = grind (arith, nat_tests)

same_is_l_back : (a b : ℕ) → is_l a ≡ true → eqb b a ≡ true → is_l b ≡ true
same_is_l_back a b l same = grind (arith, nat_tests)

suffix_bytes_2 : (a b : ℕ) → is_suffix_byte a ≡ true → is_suffix_byte b ≡ true → list_all is_suffix_byte (a ∷ b ∷ []) ≡ true
suffix_bytes_2 a b x y = and_from (is_suffix_byte a) (is_suffix_byte b && true) x (and_from (is_suffix_byte b) true y refl)

suffix_bytes_3 : (a b c : ℕ) → is_suffix_byte a ≡ true → is_suffix_byte b ≡ true → is_suffix_byte c ≡ true → list_all is_suffix_byte (a ∷ b ∷ c ∷ []) ≡ true
suffix_bytes_3 a b c x y z = and_from (is_suffix_byte a) (list_all is_suffix_byte (b ∷ c ∷ [])) x (suffix_bytes_2 b c y z)

pub none_is_no_suffix : {r : IntegerSuffix} → None ≡ Some r → ⊥
none_is_no_suffix {r} e = cc

pub suffix_bytes : (suffix : List ℕ) (r : IntegerSuffix) → suffix_of suffix ≡ Some r → list_all is_suffix_byte suffix ≡ true
suffix_bytes [] r is = refl
suffix_bytes (a ∷ []) r is =
    ⊎_elim
    (λ first. and_from (is_suffix_byte a) true (u_is_suffix_byte a first.0) refl)
    (λ second.
    ⊎_elim
    (λ long. and_from (is_suffix_byte a) true (l_is_suffix_byte a long.0) refl)
    (λ none. absurd (none_is_no_suffix none.1))
    (chosen (is_l a) _ _ _ second.1))
    (chosen (is_u a) _ _ _ is)
suffix_bytes (a ∷ b ∷ []) r is =
    ⊎_elim
    (λ first.
    ⊎_elim
    (λ ul. let p = and_parts (is_u a) (is_l b) ul in suffix_bytes_2 a b (u_is_suffix_byte a p.0) (l_is_suffix_byte b p.1))
    (λ lu. let p = and_parts (is_l a) (is_u b) lu in suffix_bytes_2 a b (l_is_suffix_byte a p.0) (u_is_suffix_byte b p.1))
    (or_parts (is_u a && is_l b) (is_l a && is_u b) first.0))
    (λ second.
    ⊎_elim
    (λ ll. let p = and_parts (is_l a) (eqb a b) ll.0 in suffix_bytes_2 a b (l_is_suffix_byte a p.0) (l_is_suffix_byte b (same_is_l a b p.0 p.1)))
    (λ none. absurd (none_is_no_suffix none.1))
    (chosen (is_l a && eqb a b) _ _ _ second.1))
    (chosen ((is_u a && is_l b) || (is_l a && is_u b)) _ _ _ is)
suffix_bytes (a ∷ b ∷ c ∷ []) r is =
    ⊎_elim
    (λ first.
    ⊎_elim
    (λ ull.
    let p = and_parts (is_u a && is_l b) (eqb b c) ull in
    let q = and_parts (is_u a) (is_l b) p.0 in
    suffix_bytes_3 a b c (u_is_suffix_byte a q.0) (l_is_suffix_byte b q.1) (l_is_suffix_byte c (same_is_l b c q.1 p.1)))
    (λ llu.
    let p = and_parts (is_l a && eqb a b) (is_u c) llu in
    let q = and_parts (is_l a) (eqb a b) p.0 in
    suffix_bytes_3 a b c (l_is_suffix_byte a q.0) (l_is_suffix_byte b (same_is_l a b q.0 q.1)) (u_is_suffix_byte c p.1))
    (or_parts (is_u a && is_l b && eqb b c) (is_l a && eqb a b && is_u c) first.0))
    (λ none. absurd (none_is_no_suffix none.1))
    (chosen ((is_u a && is_l b && eqb b c) || (is_l a && eqb a b && is_u c)) _ _ _ is)
suffix_bytes (a ∷ b ∷ c ∷ d ∷ rest) r is = absurd (none_is_no_suffix is)

-- the bytes of a decimal or octal constant, and of a hexadecimal one
abbrev pub is_plain_byte : ℕ → Bool
is_plain_byte b = is_digit b || is_suffix_byte b

abbrev pub is_prefixed_byte : ℕ → Bool
is_prefixed_byte b = is_hexadecimal_digit b || is_suffix_byte b || eqb b 120 || eqb b 88

pub suffix_is_plain : (b : ℕ) → is_suffix_byte b ≡ true → is_plain_byte b ≡ true
suffix_is_plain b suffix = grind (arith, nat_tests)

suffix_is_prefixed : (b : ℕ) → is_suffix_byte b ≡ true → is_prefixed_byte b ≡ true
suffix_is_prefixed b suffix = grind (arith, nat_tests)

pub decimal_is_plain : (b : ℕ) → is_digit b ≡ true → is_plain_byte b ≡ true
decimal_is_plain b digit = ap (λ t. t || is_suffix_byte b) digit

pub octal_is_plain : (b : ℕ) → is_digit_of bases.Octal b ≡ true → is_plain_byte b ≡ true
octal_is_plain b digit = grind (arith, nat_tests)

hexadecimal_is_prefixed : (b : ℕ) → is_hexadecimal_digit b ≡ true → is_prefixed_byte b ≡ true
hexadecimal_is_prefixed b digit = grind (arith, nat_tests)

pub plain_is_word_byte : (b : ℕ) → is_plain_byte b ≡ true → is_word_byte b ≡ true
plain_is_word_byte b plain = grind (arith, nat_tests)

pub prefixed_is_word_byte : (b : ℕ) → is_prefixed_byte b ≡ true → is_word_byte b ≡ true
prefixed_is_word_byte b prefixed = grind (arith, nat_tests)

pub octal_is_digit : (b : ℕ) → is_digit_of bases.Octal b ≡ true → is_digit b ≡ true
octal_is_digit b digit = grind (arith, nat_tests)

pub list_all_join : (p : ℕ → Bool) (xs ys : List ℕ) → list_all p xs ≡ true → list_all p ys ≡ true → list_all p (xs ++ ys) ≡ true
list_all_join p xs ys left right = list_all-append p xs ys ∙ and_from (list_all p xs) (list_all p ys) left right

-- how an integer constant looks
pub record LooksInteger (word : List ℕ) : Type 0 where
  pub some : 0 < length word
  pub first : is_digit (get_or word 0 0) ≡ true
  pub bytes : (list_all is_plain_byte word ≡ true) ⊎ ((list_all is_prefixed_byte word ≡ true) × ((get_or word 1 0 ≡ 120) ⊎ (get_or word 1 0 ≡ 88)))

first_digit : (p : ℕ → Bool) (digits suffix : List ℕ) → 0 < length digits → list_all p digits ≡ true → p (get_or (digits ++ suffix) 0 0) ≡ true
first_digit p [] suffix some all = absurd (omega arith)
first_digit p (b ∷ bs) suffix some all = (and_parts (p b) (list_all p bs) all).0

pub some_digits : (digits suffix : List ℕ) → 0 < length digits → 0 < length (digits ++ suffix)
some_digits [] suffix some = absurd (omega arith)
some_digits (b ∷ bs) suffix some = omega arith

looks_integer_of : (base : IntegerBase) (prefix digits suffix : List ℕ) (r : IntegerSuffix) → HasPrefix base prefix digits → 0 < length digits → list_all (is_digit_of base) digits ≡ true → suffix_of suffix ≡ Some r → LooksInteger (prefix ++ digits ++ suffix)
looks_integer_of bases.Decimal prefix digits suffix r prefixed some all suffixed =
    subst (λ l. LooksInteger (l ++ digits ++ suffix)) (sym prefixed.0) (record {
      some = some_digits digits suffix some;
      first = first_digit is_digit digits suffix some all;
      bytes = inl (list_all_join is_plain_byte digits suffix (list_all-weaker is_digit is_plain_byte digits decimal_is_plain all) (list_all-weaker is_suffix_byte is_plain_byte suffix suffix_is_plain (suffix_bytes suffix r suffixed)));
    })
looks_integer_of bases.Octal prefix digits suffix r prefixed some all suffixed =
    subst (λ l. LooksInteger (l ++ digits ++ suffix)) (sym prefixed.0) (record {
      some = some_digits digits suffix some;
      first = octal_is_digit (get_or (digits ++ suffix) 0 0) (first_digit (is_digit_of bases.Octal) digits suffix some all);
      bytes = inl (list_all_join is_plain_byte digits suffix (list_all-weaker (is_digit_of bases.Octal) is_plain_byte digits octal_is_plain all) (list_all-weaker is_suffix_byte is_plain_byte suffix suffix_is_plain (suffix_bytes suffix r suffixed)));
    })
looks_integer_of bases.Hexadecimal prefix digits suffix r prefixed some all suffixed =
    let rest = list_all_join is_prefixed_byte digits suffix (list_all-weaker is_hexadecimal_digit is_prefixed_byte digits hexadecimal_is_prefixed all) (list_all-weaker is_suffix_byte is_prefixed_byte suffix suffix_is_prefixed (suffix_bytes suffix r suffixed)) in
    ⊎_elim
    (λ small. subst (λ l. LooksInteger (l ++ digits ++ suffix)) (sym small) (record { some = omega arith; first = refl; bytes = inr (rest, inl refl) }))
    (λ large. subst (λ l. LooksInteger (l ++ digits ++ suffix)) (sym large) (record { some = omega arith; first = refl; bytes = inr (rest, inr refl) }))
    prefixed

pub looks_integer : (constant : IntegerConstant) (word : List ℕ) → IsInteger constant word → LooksInteger word
looks_integer constant word is =
    subst LooksInteger (sym is.parts) (looks_integer_of constant.base is.prefix is.digits is.suffix constant.suffix is.prefixed is.some is.all is.suffixed)

pub integer_bytes : (word : List ℕ) → LooksInteger word → list_all is_word_byte word ≡ true
integer_bytes word look =
    ⊎_elim
    (λ plain. list_all-weaker is_plain_byte is_word_byte word plain_is_word_byte plain)
    (λ prefixed. list_all-weaker is_prefixed_byte is_word_byte word prefixed_is_word_byte prefixed.0)
    look.bytes

-- ---- floating constants

-- a byte inside a list all of which passes
pub passes_inside : (p : ℕ → Bool) (before more : List ℕ) (b : ℕ) → list_all p (before ++ (b ∷ more)) ≡ true → p b ≡ true
passes_inside p [] more b all = (and_parts (p b) (list_all p more) all).0
passes_inside p (x ∷ before) more b all = passes_inside p before more b (and_parts (p x) (list_all p (before ++ (b ∷ more))) all).1

pub list_all_front : (p : ℕ → Bool) (front rest : List ℕ) → list_all p (front ++ rest) ≡ true → list_all p front ≡ true
list_all_front p [] rest all = refl
list_all_front p (x ∷ front) rest all =
    let parts = and_parts (p x) (list_all p (front ++ rest)) all in
    and_from (p x) (list_all p front) parts.0 (list_all_front p front rest parts.1)

-- a decimal floating constant begins with a digit, or with a point and a digit
cons_no_nil : (b : ℕ) (bs : List ℕ) → b ∷ bs ≡ [] → ⊥
cons_no_nil b bs e = cc

scaled_begins : (bytes whole point fraction rest : List ℕ) → bytes ≡ whole ++ (point ++ (fraction ++ rest)) → list_all is_digit whole ≡ true → list_all is_digit fraction ≡ true
    → 0 < length whole + length fraction → (point ≡ 46 ∷ []) ⊎ ((point ≡ []) × (fraction ≡ [])) → begins_number bytes ≡ true
scaled_begins bytes (b ∷ whole) point fraction rest parts whole_digits fraction_digits some pointed =
    ap begins_number parts ∙ ap (λ t. t || (eqb b 46 && is_digit (get_or (b ∷ whole ++ (point ++ (fraction ++ rest))) 1 0))) (and_parts (is_digit b) (list_all is_digit whole) whole_digits).0
scaled_begins bytes [] point [] rest parts whole_digits fraction_digits some pointed = absurd (omega arith)
scaled_begins bytes [] point (d ∷ fraction) rest parts whole_digits fraction_digits some pointed =
    ⊎_elim
    (λ point_is. ap begins_number (parts ∙ ap (λ l. l ++ ((d ∷ fraction) ++ rest)) point_is) ∙ (and_parts (is_digit d) (list_all is_digit fraction) fraction_digits).0)
    (λ none. absurd (cons_no_nil d fraction none.1))
    pointed

pub floating_begins : (bytes : List ℕ) → IsFloating bytes → begins_number bytes ≡ true
floating_begins bytes (inl decimal) =
    let scaled = decimal.0 in
    scaled_begins bytes scaled.whole scaled.point scaled.fraction (scaled.exponent ++ scaled.suffix) scaled.parts scaled.whole_digits scaled.fraction_digits scaled.some scaled.pointed
floating_begins bytes (inr hexadecimal) =
    ⊎_elim (λ small. ap begins_number small) (λ large. ap begins_number large) hexadecimal.1

-- no front of an integer constant is a floating one: it has no point and no exponent
mark_no_plain : (b : ℕ) → is_exponent_mark bases.Decimal b ≡ true → is_plain_byte b ≡ true → ⊥
mark_no_plain b mark plain = grind (arith, nat_tests)

mark_no_prefixed : (b : ℕ) → is_exponent_mark bases.Hexadecimal b ≡ true → is_prefixed_byte b ≡ true → ⊥
mark_no_prefixed b mark plain = grind (arith, nat_tests)

mark_no_x : (b : ℕ) → is_exponent_mark bases.Decimal b ≡ true → (b ≡ 120) ⊎ (b ≡ 88) → ⊥
mark_no_x b mark (inl x) = grind (arith, nat_tests)
mark_no_x b mark (inr x) = grind (arith, nat_tests)

digit_no_x : (b : ℕ) → is_digit b ≡ true → (b ≡ 120) ⊎ (b ≡ 88) → ⊥
digit_no_x b digit (inl x) = grind (arith, nat_tests)
digit_no_x b digit (inr x) = grind (arith, nat_tests)

-- digits and an exponent with no point
no_point : (p : ℕ → Bool) (base : IntegerBase) (front : List ℕ) (scaled : IsScaled base front) → list_all p front ≡ true → p 46 ≡ false → scaled.point ≡ []
no_point p base front scaled all fails =
    ⊎_elim
    (λ point.
    absurd (false≢true (sym fails ∙ passes_inside p scaled.whole (scaled.fraction ++ (scaled.exponent ++ scaled.suffix)) 46
    (ap (λ l. list_all p (scaled.whole ++ (l ++ (scaled.fraction ++ (scaled.exponent ++ scaled.suffix))))) (sym point) ∙ ap (list_all p) (sym scaled.parts) ∙ all))))
    (λ none. none.0)
    scaled.pointed

no_fraction : (base : IntegerBase) (front : List ℕ) (scaled : IsScaled base front) → scaled.point ≡ [] → scaled.fraction ≡ []
no_fraction base front scaled none = ⊎_elim (λ point. absurd (cons_no_nil 46 [] (sym point ∙ none))) (λ nothing. nothing.1) scaled.pointed

-- where no point is, the exponent's mark stands behind the digits
record Unpointed (base : IntegerBase) (front : List ℕ) : Type 0 where
  pub whole : List ℕ
  pub mark : ℕ
  pub more : List ℕ
  pub parts : front ≡ whole ++ (mark ∷ more)
  pub digits : list_all (is_digit_of base) whole ≡ true
  pub some : 0 < length whole
  pub marked : is_exponent_mark base mark ≡ true

unpointed : (base : IntegerBase) (front : List ℕ) (scaled : IsScaled base front) → scaled.point ≡ [] → scaled.exponent ≢ [] → Unpointed base front
unpointed base front scaled none some_exponent =
    let empty = no_fraction base front scaled none in
    ⊎_elim
    (λ missing. absurd (some_exponent missing))
    (λ exponent. record {
      whole = scaled.whole;
      mark = exponent.mark;
      more = exponent.sign ++ exponent.digits ++ scaled.suffix;
      parts = scaled.parts ∙ ap (λ l. scaled.whole ++ (l ++ (scaled.fraction ++ (scaled.exponent ++ scaled.suffix)))) none
          ∙ ap (λ l. scaled.whole ++ (l ++ (scaled.exponent ++ scaled.suffix))) empty ∙ ap (λ l. scaled.whole ++ (l ++ scaled.suffix)) exponent.parts;
      digits = scaled.whole_digits;
      some = omega (arith, scaled.some, ap length empty);
      marked = exponent.marked;
    })
    scaled.exponents

second_of_unpointed : (p : ℕ → Bool) (whole more : List ℕ) (mark : ℕ) → 0 < length whole → list_all p whole ≡ true → (p (get_or (whole ++ (mark ∷ more)) 1 0) ≡ true) ⊎ (get_or (whole ++ (mark ∷ more)) 1 0 ≡ mark)
second_of_unpointed p [] more mark some all = absurd (omega arith)
second_of_unpointed p (a ∷ []) more mark some all = inr refl
second_of_unpointed p (a ∷ b ∷ whole) more mark some all = inl (and_parts (p b) (list_all p whole) (and_parts (p a) (list_all p (b ∷ whole)) all).1).0

second_of_front : (front rest : List ℕ) → 1 < length front → get_or (front ++ rest) 1 0 ≡ get_or front 1 0
second_of_front front rest long = get_or_append_left front rest 0 1 long

unpointed_long : (base : IntegerBase) (front : List ℕ) → Unpointed base front → 1 < length front
unpointed_long base front un = omega (arith, ap length un.parts, length-append un.whole (un.mark ∷ un.more), un.some)

decimal_no_integer : (word front rest : List ℕ) → LooksInteger word → word ≡ front ++ rest → Unpointed bases.Decimal front → ⊥
decimal_no_integer word front rest look split un =
    ⊎_elim
    (λ plain. mark_no_plain un.mark un.marked (passes_inside is_plain_byte un.whole un.more un.mark (ap (list_all is_plain_byte) (sym un.parts) ∙ list_all_front is_plain_byte front rest (ap (list_all is_plain_byte) (sym split) ∙ plain))))
    (λ prefixed.
    let second : get_or word 1 0 ≡ get_or (un.whole ++ (un.mark ∷ un.more)) 1 0 = ap (λ l. get_or l 1 0) split ∙ second_of_front front rest (unpointed_long bases.Decimal front un) ∙ ap (λ l. get_or l 1 0) un.parts in
    let x : (get_or (un.whole ++ (un.mark ∷ un.more)) 1 0 ≡ 120) ⊎ (get_or (un.whole ++ (un.mark ∷ un.more)) 1 0 ≡ 88) = ⊎_elim (λ small. inl (sym second ∙ small)) (λ large. inr (sym second ∙ large)) prefixed.1 in
    ⊎_elim
    (λ digit. digit_no_x _ digit x)
    (λ mark. mark_no_x un.mark un.marked (⊎_elim (λ small. inl (sym mark ∙ small)) (λ large. inr (sym mark ∙ large)) x))
    (second_of_unpointed is_digit un.whole un.more un.mark un.some un.digits))
    look.bytes

x_no_plain : (b : ℕ) → (b ≡ 120) ⊎ (b ≡ 88) → is_plain_byte b ≡ true → ⊥
x_no_plain b (inl x) plain = grind (arith, nat_tests)
x_no_plain b (inr x) plain = grind (arith, nat_tests)

-- a hexadecimal one: its rest is unpointed, behind a prefix of two bytes
hexadecimal_no_integer : (word front rest tail : List ℕ) (x : ℕ) → LooksInteger word → word ≡ front ++ rest → front ≡ 48 ∷ x ∷ tail → (x ≡ 120) ⊎ (x ≡ 88) → Unpointed bases.Hexadecimal tail → ⊥
hexadecimal_no_integer word front rest tail x look split front_is x_is un =
    let whole : word ≡ 48 ∷ x ∷ (tail ++ rest) = split ∙ ap (λ l. l ++ rest) front_is in
    ⊎_elim
    (λ plain. x_no_plain x x_is (passes_inside is_plain_byte (48 ∷ []) (tail ++ rest) x (ap (list_all is_plain_byte) (sym whole) ∙ plain)))
    (λ prefixed.
    let all = list_all_front is_prefixed_byte front rest (ap (list_all is_prefixed_byte) (sym split) ∙ prefixed.0) in
    let in_tail : front ≡ (48 ∷ x ∷ un.whole) ++ (un.mark ∷ un.more) = front_is ∙ ap (λ l. 48 ∷ x ∷ l) un.parts in
    mark_no_prefixed un.mark un.marked (passes_inside is_prefixed_byte (48 ∷ x ∷ un.whole) un.more un.mark (ap (list_all is_prefixed_byte) (sym in_tail) ∙ all)))
    look.bytes

pub integer_no_floating : (word : List ℕ) → LooksInteger word → (front rest : List ℕ) → word ≡ front ++ rest → IsFloating front → ⊥
integer_no_floating word look front rest split (inl decimal) =
    let all = list_all_front is_word_byte front rest (ap (list_all is_word_byte) (sym split) ∙ integer_bytes word look) in
    let none = no_point is_word_byte bases.Decimal front decimal.0 all refl in
    let some_exponent : decimal.0.exponent ≢ [] = λ empty. ⊎_elim (λ point. point none) (λ exponent. exponent empty) decimal.1 in
    decimal_no_integer word front rest look split (unpointed bases.Decimal front decimal.0 none some_exponent)
integer_no_floating word look front rest split (inr hexadecimal) =
    let tail = hexadecimal.0 in
    let all = list_all_front is_word_byte front rest (ap (list_all is_word_byte) (sym split) ∙ integer_bytes word look) in
    ⊎_elim
    (λ small.
    let none = no_point is_word_byte bases.Hexadecimal tail hexadecimal.2.0 (and_parts true (list_all is_word_byte tail) (ap (list_all is_word_byte) (sym small) ∙ all)).1 refl in
    hexadecimal_no_integer word front rest tail 120 look split small (inl refl) (unpointed bases.Hexadecimal tail hexadecimal.2.0 none hexadecimal.2.1))
    (λ large.
    let none = no_point is_word_byte bases.Hexadecimal tail hexadecimal.2.0 (and_parts true (list_all is_word_byte tail) (ap (list_all is_word_byte) (sym large) ∙ all)).1 refl in
    hexadecimal_no_integer word front rest tail 88 look split large (inr refl) (unpointed bases.Hexadecimal tail hexadecimal.2.0 none hexadecimal.2.1))
    hexadecimal.1

pub integer_number_like : (word : List ℕ) → LooksInteger word → IsNumberLike word
integer_number_like word look = (number_word_from word look.some look.first (integer_bytes word look), integer_no_floating word look)

-- ---- classes

abbrev pub class_of_kind : TokenKind → ℕ
class_of_kind kinds.Identifier = 0
class_of_kind (kinds.Keyword keyword) = 0
class_of_kind (kinds.Integer constant) = 1
class_of_kind kinds.Floating = 1
class_of_kind kinds.StringLiteral = 2
class_of_kind (kinds.Character constant) = 3
class_of_kind (kinds.Punctuator punctuator) = 4
class_of_kind kinds.NullPointer = 5
class_of_kind (kinds.HeaderType type) = 5
class_of_kind (kinds.AtomicOperation operation) = 5

number_no_letter : (a b : ℕ) → (is_digit a || (eqb a 46 && is_digit b)) ≡ true → is_letter a ≡ false
number_no_letter a b number = grind (arith, nat_tests)

pub class_of_letter : (text : List ℕ) → is_letter (get_or text 0 0) ≡ true → class_of_text text ≡ 0
class_of_letter text letter = ap (λ t. cond t 0 (cond (begins_number text) 1 (cond (eqb (get_or text 0 0) 34) 2 (cond (eqb (get_or text 0 0) 39) 3 4)))) letter

pub class_of_number : (text : List ℕ) → begins_number text ≡ true → class_of_text text ≡ 1
class_of_number text number =
    ap (λ t. cond t 0 (cond (begins_number text) 1 (cond (eqb (get_or text 0 0) 34) 2 (cond (eqb (get_or text 0 0) 39) 3 4)))) (number_no_letter (get_or text 0 0) (get_or text 1 0) number)
    ∙ ap (λ t. cond t 1 (cond (eqb (get_or text 0 0) 34) 2 (cond (eqb (get_or text 0 0) 39) 3 4))) number

pub digit_begins : (text : List ℕ) → is_digit (get_or text 0 0) ≡ true → begins_number text ≡ true
digit_begins text digit = ap (λ t. t || (eqb (get_or text 0 0) 46 && is_digit (get_or text 1 0))) digit

pub character_class : (constant : CharacterConstant) (text : List ℕ) → IsCharacter constant text → class_of_text text ≡ 3
character_class constant text (inl plain) = ap class_of_text plain.1
character_class constant text (inr escaped) = ap class_of_text escaped.2

pub class_is : (kind : TokenKind) (text : List ℕ) → Spells kind text → class_of_text text ≡ class_of_kind kind
class_is kinds.Identifier text spelled = class_of_letter text (is_word_first text spelled.0)
class_is (kinds.Keyword keyword) text spelled = class_of_letter text (is_word_first text (ap is_word spelled ∙ is_word-keyword_text keyword))
class_is (kinds.Integer constant) text spelled = class_of_number text (digit_begins text (looks_integer constant text spelled).first)
class_is kinds.Floating text spelled = class_of_number text (floating_begins text spelled)
class_is (kinds.Character constant) text spelled = character_class constant text spelled
class_is kinds.StringLiteral text spelled = ap class_of_text spelled.2
class_is (kinds.Punctuator punctuator) text spelled = ap class_of_text spelled ∙ punctuator_class punctuator
class_is kinds.NullPointer text spelled = absurd spelled
class_is (kinds.HeaderType type) text spelled = absurd spelled
class_is (kinds.AtomicOperation operation) text spelled = absurd spelled
