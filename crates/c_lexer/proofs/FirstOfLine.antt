-- What comes next is the first of its line exactly where the flag of the reader says so.
use Rattle.std.proofs.Common.{◌≡◌, ℕ, Bool, true, false, ◌||◌, eqb, List, [], ◌∷◌, ◌++◌, sym, refl, ap, ◌∙◌, subst, inl, inr, ⊎_elim, ◌⊎◌}
use Rattle.std.specs.List.{list_any}
use Rattle.std.proofs.lemmas.Bool.{false≢true, cases_Bool}
use Rattle.c_lexer.specs.Elements.{ElementKind, Blank, Comment, DirectiveLine, SingleToken, Element, has_line_feed, bytes_of, is_token_or_directive, AreBeforeLine, ElementBegins, NoElementBegins}
use Rattle.c_lexer.specs.Scanning.Reading.{is_fresh, is_fresh_after}
use Rattle.c_lexer.proofs.Lexemes.{or_parts}

or_left : (p q : Bool) → p ≡ true → (p || q) ≡ true
or_left p q holds = ap (λ b. b || q) holds

or_right : (p q : Bool) → q ≡ true → (p || q) ≡ true
or_right true q holds = refl
or_right false q holds = holds

or_assoc : (p q r : Bool) → (p || (q || r)) ≡ ((p || q) || r)
or_assoc true q r = refl
or_assoc false q r = refl

line_feed_append : (xs ys : List ℕ) → has_line_feed (xs ++ ys) ≡ (has_line_feed xs || has_line_feed ys)
line_feed_append [] ys = refl
line_feed_append (x ∷ xs) ys = ap (λ b. eqb x 10 || b) (line_feed_append xs ys) ∙ or_assoc (eqb x 10) (has_line_feed xs) (has_line_feed ys)

-- what the flag behind an element says
not_fresh : (kind : ElementKind) (text : List ℕ) (fresh : Bool) → is_token_or_directive kind ≡ true → is_fresh_after kind text fresh ≡ false
not_fresh Blank text fresh is = absurd (false≢true is)
not_fresh Comment text fresh is = absurd (false≢true is)
not_fresh (DirectiveLine directive) text fresh is = refl
not_fresh (SingleToken kind) text fresh is = refl

fresh_parts : (kind : ElementKind) (text : List ℕ) (fresh : Bool) → is_fresh_after kind text fresh ≡ true → (has_line_feed text ≡ true) ⊎ (fresh ≡ true)
fresh_parts Blank text fresh is = or_parts (has_line_feed text) fresh is
fresh_parts Comment text fresh is = or_parts (has_line_feed text) fresh is
fresh_parts (DirectiveLine directive) text fresh is = absurd (false≢true is)
fresh_parts (SingleToken kind) text fresh is = absurd (false≢true is)

gap_fresh : (kind : ElementKind) (text : List ℕ) (fresh : Bool) → is_token_or_directive kind ≡ false → is_fresh_after kind text fresh ≡ (has_line_feed text || fresh)
gap_fresh Blank text fresh is = refl
gap_fresh Comment text fresh is = refl
gap_fresh (DirectiveLine directive) text fresh is = absurd (false≢true (sym is))
gap_fresh (SingleToken kind) text fresh is = absurd (false≢true (sym is))

line_behind : (later : List Element) (element : Element) (earlier : List Element) → is_fresh (later ++ element ∷ earlier) ≡ true → is_token_or_directive element.kind ≡ true → has_line_feed (bytes_of later) ≡ true
line_behind [] element earlier fresh is = absurd (false≢true (sym (not_fresh element.kind element.text (is_fresh earlier) is) ∙ fresh))
line_behind (x ∷ later) element earlier fresh is =
    line_feed_append (bytes_of later) x.text
    ∙ ⊎_elim
    (λ here. or_right (has_line_feed (bytes_of later)) (has_line_feed x.text) here)
    (λ before. or_left (has_line_feed (bytes_of later)) (has_line_feed x.text) (line_behind later element earlier before is))
    (fresh_parts x.kind x.text (is_fresh (later ++ element ∷ earlier)) fresh)

pub before_line : (elements : List Element) → is_fresh elements ≡ true → AreBeforeLine elements
before_line elements fresh = λ later element earlier split is. line_behind later element earlier (ap is_fresh (sym split) ∙ fresh) is

pub fresh_before_line : (elements : List Element) → AreBeforeLine elements → is_fresh elements ≡ true
fresh_before_line [] before = refl
fresh_before_line (element ∷ earlier) before =
    ⊎_elim
    (λ is. absurd (false≢true (before [] element earlier refl is)))
    (λ gap.
    gap_fresh element.kind element.text (is_fresh earlier) gap
    ∙ ⊎_elim
    (λ here. or_left (has_line_feed element.text) (is_fresh earlier) here)
    (λ none.
    or_right (has_line_feed element.text) (is_fresh earlier)
    (fresh_before_line earlier (λ later x first split is.
    ⊎_elim
    (λ holds. holds)
    (λ text. absurd (false≢true (sym none ∙ text)))
    (or_parts (has_line_feed (bytes_of later)) (has_line_feed element.text)
    (sym (line_feed_append (bytes_of later) element.text) ∙ before (element ∷ later) x first (ap (λ l. element ∷ l) split) is)))))
    (cases_Bool (has_line_feed element.text)))
    (cases_Bool (is_token_or_directive element.kind))

-- an element begins the bytes whichever of two equivalent facts says that it is the first of its line
pub begins_alike : (First Other : Type 0) → (First → Other) → (Other → First) → (bytes : List ℕ) (kind : ElementKind) (text rest : List ℕ) → ElementBegins First bytes kind text rest → ElementBegins Other bytes kind text rest
begins_alike First Other to from bytes Blank text rest begins = begins
begins_alike First Other to from bytes Comment text rest begins = begins
begins_alike First Other to from bytes (DirectiveLine directive) text rest begins = (to begins.0, begins.1, begins.2)
begins_alike First Other to from bytes (SingleToken kind) text rest begins = (begins.0, λ first. begins.1 (from first))

pub begins_first : (elements : List Element) (fresh : Bool) → fresh ≡ is_fresh elements → (bytes : List ℕ) (kind : ElementKind) (text rest : List ℕ) → ElementBegins (fresh ≡ true) bytes kind text rest → ElementBegins (AreBeforeLine elements) bytes kind text rest
begins_first elements fresh is bytes kind text rest begins =
    begins_alike (fresh ≡ true) (AreBeforeLine elements) (λ holds. before_line elements (sym is ∙ holds)) (λ before. is ∙ fresh_before_line elements before) bytes kind text rest begins

pub none_begins_first : (elements : List Element) (fresh : Bool) → fresh ≡ is_fresh elements → (bytes : List ℕ) → NoElementBegins (fresh ≡ true) bytes → NoElementBegins (AreBeforeLine elements) bytes
none_begins_first elements fresh is bytes none = λ kind text rest begins.
    none kind text rest (begins_alike (AreBeforeLine elements) (fresh ≡ true) (λ before. is ∙ fresh_before_line elements before) (λ holds. before_line elements (sym is ∙ holds)) bytes kind text rest begins)
