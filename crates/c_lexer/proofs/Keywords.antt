-- The spellings of keywords: each is a word, and no two are the same.
use Rattle.std.proofs.Common.{◌≡◌, ℕ, ◌+◌, ◌*◌, ◌<◌, ◌≤◌, true, cond, eqb, ltb, List, [], ◌∷◌, length, get_or, refl, sym, ap, ◌∙◌, ⊎_elim, arith}
use Rattle.std.proofs.lemmas.Bool.{ltb-true, cases_eq}
use Rattle.std.specs.List.{fold}
use Rattle.c_lexer.specs.declared.keyword.Keyword.{Keyword}
use Rattle.c_lexer.specs.declared.keyword.Keyword.TheVariants as keywords
use Rattle.c_lexer.specs.Scanning.Keywords.{keywords_from}
use Rattle.c_lexer.specs.Keyword.{keyword_text}
use Rattle.c_lexer.specs.Spelling.{is_word}

pub is_word-keyword_text : (keyword : Keyword) → is_word (keyword_text keyword) ≡ true
is_word-keyword_text keywords.Auto = refl
is_word-keyword_text other = refl

-- a word as one number
abbrev number_of : List ℕ → ℕ
number_of word = fold (λ sum byte. sum * 256 + byte) 0 word

-- the keyword that a number stands for
abbrev keyword_at : ℕ → Keyword
keyword_at n =
    cond (eqb n 1635087471) keywords.Auto (
    cond (eqb n 422826041707) keywords.Break (
    cond (eqb n 1667330917) keywords.Case (
    cond (eqb n 1667785074) keywords.Char (
    cond (eqb n 427071271796) keywords.Const (
    cond (eqb n 7165066978433856869) keywords.Continue (
    cond (eqb n 28258988067220596) keywords.Default (
    cond (eqb n 25711) keywords.Do (
    cond (eqb n 110429873532005) keywords.Double (
    cond (eqb n 1701606245) keywords.Else (
    cond (eqb n 1701737837) keywords.Enum (
    cond (eqb n 111568023286382) keywords.Extern (
    cond (eqb n 439905902964) keywords.Float (
    cond (eqb n 6713202) keywords.For (
    cond (eqb n 1735357551) keywords.Goto (
    cond (eqb n 26982) keywords.If (
    cond (eqb n 115922986167909) keywords.Inline (
    cond (eqb n 6909556) keywords.Int (
    cond (eqb n 1819242087) keywords.Long (
    cond (eqb n 8243108395577795954) keywords.Register (
    cond (eqb n 8243121636944470900) keywords.Restrict (
    cond (eqb n 125780071117422) keywords.Return (
    cond (eqb n 495673373300) keywords.Short (
    cond (eqb n 126896544048484) keywords.Signed (
    cond (eqb n 126896862228326) keywords.Sizeof (
    cond (eqb n 126943688419683) keywords.Static (
    cond (eqb n 126943973696372) keywords.Struct (
    cond (eqb n 126956707537768) keywords.Switch (
    cond (eqb n 32784620942812518) keywords.Typedef (
    cond (eqb n 504363577198) keywords.Union (
    cond (eqb n 8461827646419789156) keywords.Unsigned (
    cond (eqb n 1987012964) keywords.Void (
    cond (eqb n 8534158984711072869) keywords.Volatile (
    cond (eqb n 512852847717) keywords.While (
    cond (eqb n 6863886507051999603) keywords.Alignas (
    cond (eqb n 6863886507052003174) keywords.Alignof (
    cond (eqb n 26812091128965475) keywords.Atomic (
    cond (eqb n 409136492396) keywords.Bool (
    cond (eqb n 6864452772871038328) keywords.Complex (
    cond (eqb n 6865567681772415331) keywords.Generic (
    cond (eqb n 449979309884522488754809) keywords.Imaginary (
    cond (eqb n 1758092548839851782766) keywords.Noreturn (
    cond (eqb n 1933440867912274989631954416398964) keywords.StaticAssert (
    cond (eqb n 7552798448185263016216625373548) keywords.ThreadLocal (
    keywords.Asm))))))))))))))))))))))))))))))))))))))))))))

keyword_at-text : (keyword : Keyword) → keyword_at (number_of (keyword_text keyword)) ≡ keyword
keyword_at-text keywords.Auto = refl
keyword_at-text other = refl

pub keyword_text_injective : (a b : Keyword) → keyword_text a ≡ keyword_text b → a ≡ b
keyword_text_injective a b same = sym (keyword_at-text a) ∙ ap (λ word. keyword_at (number_of word)) same ∙ keyword_at-text b

-- where it stands among those that begin with its first byte
abbrev pub place_of : Keyword → ℕ
place_of keywords.Asm = 1
place_of keywords.Char = 1
place_of keywords.Const = 2
place_of keywords.Continue = 3
place_of keywords.Do = 1
place_of keywords.Double = 2
place_of keywords.Enum = 1
place_of keywords.Extern = 2
place_of keywords.For = 1
place_of keywords.Inline = 1
place_of keywords.Int = 2
place_of keywords.Restrict = 1
place_of keywords.Return = 2
place_of keywords.Signed = 1
place_of keywords.Sizeof = 2
place_of keywords.Static = 3
place_of keywords.Struct = 4
place_of keywords.Switch = 5
place_of keywords.Unsigned = 1
place_of keywords.Volatile = 1
place_of keywords.Alignof = 1
place_of keywords.Atomic = 2
place_of keywords.Bool = 3
place_of keywords.Complex = 4
place_of keywords.Generic = 5
place_of keywords.Imaginary = 6
place_of keywords.Noreturn = 7
place_of keywords.StaticAssert = 8
place_of keywords.ThreadLocal = 9
place_of other = 0

-- those that begin with its first byte
abbrev pub group_of : Keyword → List Keyword
group_of keyword = keywords_from (get_or (keyword_text keyword) 0 0)

at_place : (keyword d : Keyword) → get_or (group_of keyword) (place_of keyword) d ≡ keyword
at_place keywords.Auto d = refl
at_place other d = refl

within : (keyword : Keyword) → ltb (place_of keyword) (length (group_of keyword)) ≡ true
within keywords.Auto = refl
within other = refl

-- none stands behind all
pub none_left : (word : List ℕ) (items : List Keyword) (i : ℕ) (keyword : Keyword) → items ≡ keywords_from (get_or word 0 0) → word ≡ keyword_text keyword → length items ≤ i → i ≤ place_of keyword → ⊥
none_left word items i keyword items_is same all passed =
    omega (arith, all, ap length items_is, ap (λ w. length (keywords_from (get_or w 0 0))) same, ltb-true (place_of keyword) (length (group_of keyword)) (within keyword), passed)

-- a keyword that is spelled like no earlier one, and not like the one at place i, has a later place
pub keyword_passed : (word text : List ℕ) (items : List Keyword) (i : ℕ) (d keyword : Keyword) → items ≡ keywords_from (get_or word 0 0) → text ≡ keyword_text (get_or items i d) → (text ≡ word → ⊥) → word ≡ keyword_text keyword → i ≤ place_of keyword
    → i + 1 ≤ place_of keyword
keyword_passed word text items i d keyword items_is text_is differs same passed =
    ⊎_elim
    (λ here.
    let group : items ≡ group_of keyword = items_is ∙ ap (λ w. keywords_from (get_or w 0 0)) same in
    absurd (differs (text_is ∙ ap (λ n. keyword_text (get_or items n d)) here ∙ ap (λ l. keyword_text (get_or l (place_of keyword) d)) group ∙ ap keyword_text (at_place keyword d) ∙ sym same)))
    (λ elsewhere. omega arith)
    (cases_eq i (place_of keyword))
