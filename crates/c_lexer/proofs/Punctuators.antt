-- The spellings of punctuators: what each begins with, and where each stands in the list of all.
use Rattle.std.proofs.Common.{◌≡◌, ℕ, zero, suc, ◌+◌, ◌*◌, ◌<◌, Bool, true, false, cond, not, ◌&&◌, ◌||◌, eqb, ltb, leb, List, [], ◌∷◌, length, get_or, refl, sym, ap, ◌∙◌, inl, inr, ⊎_elim, arith, ◌⊎◌}
use Rattle.std.proofs.lemmas.Bool.{false≢true, and_parts, cases_eq}
use Rattle.std.specs.List.{fold, list_all}
use Rattle.c_lexer.specs.declared.punctuator.Punctuator.{Punctuator}
use Rattle.c_lexer.specs.declared.punctuator.Punctuator.TheVariants as punctuators
use Rattle.c_lexer.specs.Scanning.Tokens.{begins_comment}
use Rattle.c_lexer.specs.Scanning.Punctuators.{punctuators_from}
use Rattle.c_lexer.specs.Punctuator.{punctuator_text}
use Rattle.c_lexer.specs.Bytes.{is_digit, is_word_byte, is_blank}
use Rattle.c_lexer.proofs.Classes.{class_of_text}

unfoldable pub all_below : ℕ → (ℕ → Bool) → Bool
all_below zero p = true
all_below (suc n) p = p n && all_below n p

pub all_below-at : (n : ℕ) (p : ℕ → Bool) → all_below n p ≡ true → (k : ℕ) → k < n → p k ≡ true
unfolding all_below
all_below-at zero p all k below = absurd (omega arith)
all_below-at (suc n) p all k below =
    let parts = and_parts (p n) (all_below n p) all in
    ⊎_elim (λ last. ap p last ∙ parts.0) (λ other. all_below-at n p parts.1 k (omega arith)) (cases_eq k n)

-- a first byte that is no letter, digit, quote or blank, and a byte at least
abbrev pub looks_so : List ℕ → Bool
looks_so text =
    ltb 0 (length text) && not (is_word_byte (get_or text 0 0)) && not (eqb (get_or text 0 0) 34) && not (eqb (get_or text 0 0) 39)
    && not (is_blank (get_or text 0 0)) && list_all (λ b. not (is_blank b)) text

pub punctuator_looks : (punctuator : Punctuator) → looks_so (punctuator_text punctuator) ≡ true
punctuator_looks punctuators.Ellipsis = refl
punctuator_looks other = refl

pub punctuator_class : (punctuator : Punctuator) → class_of_text (punctuator_text punctuator) ≡ 4
punctuator_class punctuators.Ellipsis = refl
punctuator_class other = refl

-- one that begins with a point has no digit behind it
pub punctuator_no_number : (punctuator : Punctuator) → (ltb (length (punctuator_text punctuator)) 2 || not (eqb (get_or (punctuator_text punctuator) 0 0) 46 && is_digit (get_or (punctuator_text punctuator) 1 0))) ≡ true
punctuator_no_number punctuators.Ellipsis = refl
punctuator_no_number other = refl

pub punctuator_no_comment : (punctuator : Punctuator) → begins_comment (punctuator_text punctuator) ≡ false
punctuator_no_comment punctuators.Ellipsis = refl
punctuator_no_comment other = refl

pub hash_or_two : (punctuator : Punctuator) → eqb (get_or (punctuator_text punctuator) 0 0) 35 ≡ true → (punctuator ≡ punctuators.Hash) ⊎ (punctuator ≡ punctuators.HashHash)
hash_or_two punctuators.Ellipsis e = absurd (false≢true e)
hash_or_two punctuators.LeftShiftAssign e = absurd (false≢true e)
hash_or_two punctuators.RightShiftAssign e = absurd (false≢true e)
hash_or_two punctuators.Arrow e = absurd (false≢true e)
hash_or_two punctuators.Increment e = absurd (false≢true e)
hash_or_two punctuators.Decrement e = absurd (false≢true e)
hash_or_two punctuators.LeftShift e = absurd (false≢true e)
hash_or_two punctuators.RightShift e = absurd (false≢true e)
hash_or_two punctuators.LessOrEqual e = absurd (false≢true e)
hash_or_two punctuators.GreaterOrEqual e = absurd (false≢true e)
hash_or_two punctuators.Equal e = absurd (false≢true e)
hash_or_two punctuators.NotEqual e = absurd (false≢true e)
hash_or_two punctuators.LogicalAnd e = absurd (false≢true e)
hash_or_two punctuators.LogicalOr e = absurd (false≢true e)
hash_or_two punctuators.MultiplyAssign e = absurd (false≢true e)
hash_or_two punctuators.DivideAssign e = absurd (false≢true e)
hash_or_two punctuators.RemainderAssign e = absurd (false≢true e)
hash_or_two punctuators.AddAssign e = absurd (false≢true e)
hash_or_two punctuators.SubtractAssign e = absurd (false≢true e)
hash_or_two punctuators.AndAssign e = absurd (false≢true e)
hash_or_two punctuators.XorAssign e = absurd (false≢true e)
hash_or_two punctuators.OrAssign e = absurd (false≢true e)
hash_or_two punctuators.HashHash e = inr refl
hash_or_two punctuators.DoubleColon e = absurd (false≢true e)
hash_or_two punctuators.OpenBracket e = absurd (false≢true e)
hash_or_two punctuators.CloseBracket e = absurd (false≢true e)
hash_or_two punctuators.OpenParenthesis e = absurd (false≢true e)
hash_or_two punctuators.CloseParenthesis e = absurd (false≢true e)
hash_or_two punctuators.OpenBrace e = absurd (false≢true e)
hash_or_two punctuators.CloseBrace e = absurd (false≢true e)
hash_or_two punctuators.Point e = absurd (false≢true e)
hash_or_two punctuators.Ampersand e = absurd (false≢true e)
hash_or_two punctuators.Star e = absurd (false≢true e)
hash_or_two punctuators.Plus e = absurd (false≢true e)
hash_or_two punctuators.Minus e = absurd (false≢true e)
hash_or_two punctuators.Tilde e = absurd (false≢true e)
hash_or_two punctuators.Exclamation e = absurd (false≢true e)
hash_or_two punctuators.Slash e = absurd (false≢true e)
hash_or_two punctuators.Percent e = absurd (false≢true e)
hash_or_two punctuators.Less e = absurd (false≢true e)
hash_or_two punctuators.Greater e = absurd (false≢true e)
hash_or_two punctuators.Caret e = absurd (false≢true e)
hash_or_two punctuators.Bar e = absurd (false≢true e)
hash_or_two punctuators.Question e = absurd (false≢true e)
hash_or_two punctuators.Colon e = absurd (false≢true e)
hash_or_two punctuators.Semicolon e = absurd (false≢true e)
hash_or_two punctuators.Assign e = absurd (false≢true e)
hash_or_two punctuators.Comma e = absurd (false≢true e)
hash_or_two punctuators.Hash e = inl refl

-- a spelling as one number
abbrev number_of : List ℕ → ℕ
number_of text = fold (λ sum byte. sum * 256 + byte) 0 text

abbrev punctuator_at : ℕ → Punctuator
punctuator_at n =
    cond (eqb n 3026478) punctuators.Ellipsis (
    cond (eqb n 3947581) punctuators.LeftShiftAssign (
    cond (eqb n 4079165) punctuators.RightShiftAssign (
    cond (eqb n 11582) punctuators.Arrow (
    cond (eqb n 11051) punctuators.Increment (
    cond (eqb n 11565) punctuators.Decrement (
    cond (eqb n 15420) punctuators.LeftShift (
    cond (eqb n 15934) punctuators.RightShift (
    cond (eqb n 15421) punctuators.LessOrEqual (
    cond (eqb n 15933) punctuators.GreaterOrEqual (
    cond (eqb n 15677) punctuators.Equal (
    cond (eqb n 8509) punctuators.NotEqual (
    cond (eqb n 9766) punctuators.LogicalAnd (
    cond (eqb n 31868) punctuators.LogicalOr (
    cond (eqb n 10813) punctuators.MultiplyAssign (
    cond (eqb n 12093) punctuators.DivideAssign (
    cond (eqb n 9533) punctuators.RemainderAssign (
    cond (eqb n 11069) punctuators.AddAssign (
    cond (eqb n 11581) punctuators.SubtractAssign (
    cond (eqb n 9789) punctuators.AndAssign (
    cond (eqb n 24125) punctuators.XorAssign (
    cond (eqb n 31805) punctuators.OrAssign (
    cond (eqb n 8995) punctuators.HashHash (
    cond (eqb n 14906) punctuators.DoubleColon (
    cond (eqb n 91) punctuators.OpenBracket (
    cond (eqb n 93) punctuators.CloseBracket (
    cond (eqb n 40) punctuators.OpenParenthesis (
    cond (eqb n 41) punctuators.CloseParenthesis (
    cond (eqb n 123) punctuators.OpenBrace (
    cond (eqb n 125) punctuators.CloseBrace (
    cond (eqb n 46) punctuators.Point (
    cond (eqb n 38) punctuators.Ampersand (
    cond (eqb n 42) punctuators.Star (
    cond (eqb n 43) punctuators.Plus (
    cond (eqb n 45) punctuators.Minus (
    cond (eqb n 126) punctuators.Tilde (
    cond (eqb n 33) punctuators.Exclamation (
    cond (eqb n 47) punctuators.Slash (
    cond (eqb n 37) punctuators.Percent (
    cond (eqb n 60) punctuators.Less (
    cond (eqb n 62) punctuators.Greater (
    cond (eqb n 94) punctuators.Caret (
    cond (eqb n 124) punctuators.Bar (
    cond (eqb n 63) punctuators.Question (
    cond (eqb n 58) punctuators.Colon (
    cond (eqb n 59) punctuators.Semicolon (
    cond (eqb n 61) punctuators.Assign (
    cond (eqb n 44) punctuators.Comma (
    punctuators.Hash))))))))))))))))))))))))))))))))))))))))))))))))

punctuator_at-text : (punctuator : Punctuator) → punctuator_at (number_of (punctuator_text punctuator)) ≡ punctuator
punctuator_at-text punctuators.Ellipsis = refl
punctuator_at-text other = refl

pub punctuator_text_injective : (p q : Punctuator) → punctuator_text p ≡ punctuator_text q → p ≡ q
punctuator_text_injective p q same = sym (punctuator_at-text p) ∙ ap (λ text. punctuator_at (number_of text)) same ∙ punctuator_at-text q

-- where it stands among those that begin with its first byte
abbrev pub place_of : Punctuator → ℕ
place_of punctuators.Point = 1
place_of punctuators.LeftShift = 1
place_of punctuators.LessOrEqual = 2
place_of punctuators.Less = 3
place_of punctuators.RightShift = 1
place_of punctuators.GreaterOrEqual = 2
place_of punctuators.Greater = 3
place_of punctuators.Decrement = 1
place_of punctuators.SubtractAssign = 2
place_of punctuators.Minus = 3
place_of punctuators.AddAssign = 1
place_of punctuators.Plus = 2
place_of punctuators.Assign = 1
place_of punctuators.Exclamation = 1
place_of punctuators.AndAssign = 1
place_of punctuators.Ampersand = 2
place_of punctuators.OrAssign = 1
place_of punctuators.Bar = 2
place_of punctuators.Star = 1
place_of punctuators.Slash = 1
place_of punctuators.Percent = 1
place_of punctuators.Caret = 1
place_of punctuators.Hash = 1
place_of punctuators.Colon = 1
place_of other = 0

-- those that begin with its first byte
abbrev pub group_of : Punctuator → List Punctuator
group_of punctuator = punctuators_from (get_or (punctuator_text punctuator) 0 0)

pub at_place : (punctuator d : Punctuator) → get_or (group_of punctuator) (place_of punctuator) d ≡ punctuator
at_place punctuators.Ellipsis d = refl
at_place other d = refl

pub in_group : (punctuator : Punctuator) → ltb (place_of punctuator) (length (group_of punctuator)) ≡ true
in_group punctuators.Ellipsis = refl
in_group other = refl

pub some_text : (punctuator : Punctuator) → ltb 0 (length (punctuator_text punctuator)) ≡ true
some_text punctuators.Ellipsis = refl
some_text other = refl

-- each that stands before it there is as long, or longer
pub as_long_before : (punctuator : Punctuator) → all_below (suc (place_of punctuator)) (λ i. leb (length (punctuator_text punctuator)) (length (punctuator_text (get_or (group_of punctuator) i punctuator)))) ≡ true
unfolding all_below
as_long_before punctuators.Ellipsis = refl
as_long_before other = refl
