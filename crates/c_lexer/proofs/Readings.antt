-- What a reader has read, one element further; and what a refusal leaves.
use Rattle.std.proofs.Common.{◌≡◌, ℕ, ◌+◌, ◌-◌, ◌<◌, ◌≤◌, Bool, true, false, cond, ◌||◌, List, [], ◌∷◌, ◌++◌, length, take, drop, Option, Some, None, Result, Ok, Err, IfOk, sym, refl, ap, ◌∙◌, subst, inl, inr, arith, ◌⊎◌}
use Rattle.std.proofs.lemmas.List.{drop-drop, length-take-le, length-drop, length-append, append-nil, take-append-drop, take-take, drop-take, drop_all, take_all}
use Rattle.rc_text.specs.declared.place.Place.{Place}
use Rattle.rc_text.specs.Places.{place_after}
use Rattle.c_lexer.specs.declared.token.TokenKind.{TokenKind}
use Rattle.c_lexer.specs.declared.token.TokenKind.TheVariants as kinds
use Rattle.c_lexer.specs.declared.fault.LexFaultKind.{LexFaultKind}
use Rattle.c_lexer.specs.declared.fault.LexFault.{LexFault}
use Rattle.c_lexer.specs.declared.fault.LexRefusal.{LexRefusal}
use Rattle.c_lexer.specs.declared.fault.LexRefusal.TheVariants as refusals
use Rattle.c_lexer.specs.declared.reader.Reader.{Reader}
use Rattle.c_lexer.specs.TokenLists.{TokenLists}
use Rattle.c_lexer.specs.Spelling.{is_word, Spells}
use Rattle.c_lexer.specs.declared.element.FoundKind.{FoundKind}
use Rattle.c_lexer.specs.declared.element.FoundKind.TheVariants as founds
use Rattle.c_lexer.specs.declared.directive.DirectiveKind.{DirectiveKind}
use Rattle.c_lexer.specs.declared.token.Token.{Token}
use Rattle.c_lexer.specs.Directives.{directive_macro, directive_declaration}
use Rattle.c_lexer.specs.Scanning.Tokens.{is_word_kind}
use Rattle.c_lexer.specs.Scanning.Directives.{directive_in}
use Rattle.c_lexer.specs.Scanning.Elements.{kind_in}
use Rattle.c_lexer.specs.Scanning.Names.{kind_of, meaning_in}
use Rattle.c_lexer.specs.Scanning.Reading.{includes_at, Keeps, HasRead, Stands, Refuses, Concludes, Answers}
use Rattle.c_lexer.specs.Elements.{ElementKind, Blank, Comment, SingleToken, Element, ElementBegins, NoElementBegins, AreElements, has_line_feed, bytes_of, first_of, meaning_of, replaced, kept_text, tokens_of, include_by, includes_of}
use Rattle.c_lexer.specs.Files.{AreTokensOf, Opens, IsFaultOf, token_limit}
use Rattle.c_lexer.proofs.Lexemes.{class_of_kind, class_is, class_of_letter, is_word_first}
use Rattle.c_lexer.proofs.FirstOfLine.{begins_first, none_begins_first}
use Rattle.c_lexer.proofs.Files.{same_tokens, same_fault, tokens_or_fault}

take_add : (m n : ℕ) (xs : List ℕ) → take m xs ++ take n (drop m xs) ≡ take (m + n) xs
take_add m n xs =
    ap (λ l. l ++ take n (drop m xs)) (sym (take-take m (m + n) xs (omega arith))) ∙ ap (λ l. take m (take (m + n) xs) ++ l) (sym (drop-take m n xs))
    ∙ take-append-drop m (take (m + n) xs)

pub record Further (bytes : List ℕ) (reader new : Reader) : Type 0 where
  pub stands : Stands bytes new
  pub moved : reader.place.byte < new.place.byte

pub further : (bytes rest : List ℕ) (reader new : Reader) (kind : ElementKind) (n : ℕ) (stands : Stands bytes reader) → rest ≡ drop reader.place.byte bytes → 0 < n → n ≤ length rest
    → ElementBegins (reader.fresh ≡ true) rest kind (take n rest) (drop n rest) → HasRead (record { kind = kind; text = take n rest } ∷ stands.elements) new → Further bytes reader new
further bytes rest reader new kind n stands rest_is some inside begins read =
    let at = reader.place.byte in
    let size : length rest ≡ length bytes - at = ap length rest_is ∙ length-drop at bytes in
    let before : bytes_of stands.elements ++ take n rest ≡ take (at + n) bytes =
    ap (λ l. l ++ take n rest) stands.before ∙ ap (λ l. take at bytes ++ take n l) rest_is ∙ take_add at n bytes in
    let byte : new.place.byte ≡ at + n =
    ap (λ p. p.byte) read.place ∙ ap length before ∙ length-take-le (at + n) bytes (omega (arith, stands.inside)) in
    let back : drop n rest ≡ drop new.place.byte bytes = ap (drop n) rest_is ∙ drop-drop n at bytes ∙ ap (λ k. drop k bytes) (sym byte) in
    record {
      stands = record {
        elements = record { kind = kind; text = take n rest } ∷ stands.elements;
        are = (
          drop at bytes,
          stands.are,
          begins_first stands.elements reader.fresh stands.read.fresh (drop at bytes) kind (take n rest) (drop new.place.byte bytes)
              (subst (λ l. ElementBegins (reader.fresh ≡ true) l kind (take n rest) (drop new.place.byte bytes)) rest_is (subst (λ l. ElementBegins (reader.fresh ≡ true) rest kind (take n rest) l) back begins)),
        );
        inside = omega (arith, stands.inside, byte, size);
        before = before ∙ ap (λ k. take k bytes) (sym byte);
        read = read;
      };
      moved = omega (arith, byte);
    }

-- where no further element begins, the reader's place is that of the fault
pub fault_read : (bytes rest : List ℕ) (reader : Reader) (kind : LexFaultKind) → Stands bytes reader → rest ≡ drop reader.place.byte bytes → NoElementBegins (reader.fresh ≡ true) rest → Opens kind rest
    → IsFaultOf bytes (record { place = reader.place; kind = kind })
fault_read bytes rest reader kind stands rest_is none opens = (
  stands.elements,
  rest,
  record {
    are = subst (λ l. AreElements bytes stands.elements l) (sym rest_is) stands.are;
    stops = none_begins_first stands.elements reader.fresh stands.read.fresh rest none;
    opens = opens;
    place = stands.read.place;
  },
)

-- ---- names

word_kind_by_class : (kind : TokenKind) → class_of_kind kind ≡ 0 → is_word_kind kind ≡ true
word_kind_by_class kinds.Identifier class = refl
word_kind_by_class (kinds.Keyword keyword) class = refl
word_kind_by_class (kinds.Integer constant) class = absurd (omega arith)
word_kind_by_class kinds.Floating class = absurd (omega arith)
word_kind_by_class (kinds.Character constant) class = absurd (omega arith)
word_kind_by_class kinds.StringLiteral class = absurd (omega arith)
word_kind_by_class (kinds.Punctuator punctuator) class = absurd (omega arith)
word_kind_by_class kinds.NullPointer class = absurd (omega arith)
word_kind_by_class (kinds.HeaderType type) class = absurd (omega arith)
word_kind_by_class (kinds.AtomicOperation operation) class = absurd (omega arith)

pub word_has_kind : (kind : TokenKind) (text : List ℕ) → Spells kind text → is_word text ≡ true → is_word_kind kind ≡ true
word_has_kind kind text spelled word = word_kind_by_class kind (sym (class_is kind text spelled) ∙ class_of_letter text (is_word_first text word))

-- ---- macros

pub first_of_cond : (b : Bool) (kind : TokenKind) (other : Option TokenKind) → cond b (Some kind) other ≡ first_of (cond b (Some kind) None) other
first_of_cond true kind other = refl
first_of_cond false kind other = refl

-- a name more in front of a table
pub first_of_more : (b : Bool) (kind : TokenKind) (f table old : Option TokenKind) → f ≡ first_of table old → cond b (Some kind) f ≡ first_of (cond b (Some kind) table) old
first_of_more true kind f table old is = refl
first_of_more false kind f table old is = is

pub map_ok : {A E : Type 0} (result : Result A E) (P Q : A → Type 0) → ((a : A) → P a → Q a) → IfOk result P → IfOk result Q
map_ok (Ok a) P Q f p = f a p
map_ok (Err e) P Q f p = tt

-- ---- an element joins what was read

pub keeps_more : (kept tokens : List Token) (token : Token) → length kept ≤ token_limit → Keeps kept tokens → Keeps (kept ++ token ∷ []) (tokens ++ token ∷ [])
keeps_more kept tokens token room (inl same) = inl (ap (λ l. l ++ token ∷ []) same)
keeps_more kept tokens token room (inr over) = absurd (omega (arith, over.0, room))

pub keeps_full : (kept tokens : List Token) (token : Token) → token_limit < length kept → Keeps kept tokens → Keeps kept (tokens ++ token ∷ [])
keeps_full kept tokens token full (inl same) = inr (full, omega (arith, full, ap length same, length-append tokens (token ∷ [])))
keeps_full kept tokens token full (inr over) = inr (over.0, omega (arith, over.1, length-append tokens (token ∷ [])))

pub blank_read : (elements : List Element) (reader new : Reader) (text : List ℕ) → HasRead elements reader → new.place ≡ place_after (bytes_of elements ++ text) → new.fresh ≡ has_line_feed text || reader.fresh
    → new.names ≡ reader.names → new.tokens ≡ reader.tokens → new.includes ≡ reader.includes → HasRead (record { kind = Blank; text = text } ∷ elements) new
blank_read elements reader new text read place fresh names tokens includes = record {
  place = place;
  fresh = fresh ∙ ap (λ f. has_line_feed text || f) read.fresh;
  macros = λ name. ap (λ n. kind_of n.macros name) names ∙ read.macros name;
  declarations = λ name. ap (λ n. kind_of n.declarations name) names ∙ read.declarations name;
  tokens = subst (λ l. Keeps new.tokens.items l) (sym (append-nil (tokens_of elements))) (subst (λ v. Keeps v.items (tokens_of elements)) (sym tokens) read.tokens);
  includes = λ next. ap (λ l. includes_at l next) includes ∙ read.includes next ∙ sym (append-nil (includes_of elements next));
}

pub comment_read : (elements : List Element) (reader new : Reader) (text : List ℕ) → HasRead elements reader → new.place ≡ place_after (bytes_of elements ++ text) → new.fresh ≡ has_line_feed text || reader.fresh
    → new.names ≡ reader.names → new.tokens ≡ reader.tokens → new.includes ≡ reader.includes → HasRead (record { kind = Comment; text = text } ∷ elements) new
comment_read elements reader new text read place fresh names tokens includes =
    let blank = blank_read elements reader new text read place fresh names tokens includes in
    record { place = blank.place; fresh = blank.fresh; macros = blank.macros; declarations = blank.declarations; tokens = blank.tokens; includes = blank.includes }

pub token_read : (elements : List Element) (reader new : Reader) (rest text : List ℕ) (found : FoundKind) (kind : TokenKind) → found ≡ founds.SingleToken kind → HasRead elements reader → new.place ≡ place_after (bytes_of elements ++ text) → new.fresh ≡ false → new.names ≡ reader.names
    → ((tokens : List Token) → Keeps reader.tokens.items tokens → Keeps new.tokens.items (tokens ++ record {
      kind = replaced (meaning_in reader.names text) kind;
      place = reader.place;
      text = kept_text (replaced (meaning_in reader.names text) kind) text;
    } ∷ []))
    → ((next : Place) → includes_at new.includes next ≡ includes_at reader.includes reader.place) → HasRead (record { kind = kind_in rest found; text = text } ∷ elements) new
token_read elements reader new rest text found kind found_is read place fresh names added includes =
    let meaning : meaning_in reader.names text ≡ meaning_of elements text = λ i. first_of (read.macros text i) (read.declarations text i) in
    subst (λ k. HasRead (record { kind = kind_in rest k; text = text } ∷ elements) new) (sym found_is)
    (record {
      place = place;
      fresh = fresh;
      macros = λ name. ap (λ n. kind_of n.macros name) names ∙ read.macros name;
      declarations = λ name. ap (λ n. kind_of n.declarations name) names ∙ read.declarations name;
      tokens = subst (λ t. Keeps new.tokens.items (tokens_of elements ++ t ∷ [])) (λ i. record {
        kind = replaced (meaning i) kind;
        place = read.place i;
        text = kept_text (replaced (meaning i) kind) text;
      }) (added (tokens_of elements) read.tokens);
      includes = λ next. includes next ∙ read.includes reader.place ∙ ap (includes_of elements) read.place ∙ sym (append-nil (includes_of elements (place_after (bytes_of elements))));
    })

pub line_read : (elements : List Element) (reader new : Reader) (rest behind : List ℕ) (found : FoundKind) (d : DirectiveKind) (n : ℕ) → found ≡ founds.DirectiveLine d → behind ≡ drop 1 rest → HasRead elements reader
    → new.place ≡ place_after (bytes_of elements ++ take n rest) → new.fresh ≡ false
    → ((name : List ℕ) → kind_of new.names.macros name ≡ first_of (directive_macro (directive_in behind d) name) (kind_of reader.names.macros name))
    → ((name : List ℕ) → kind_of new.names.declarations name ≡ first_of (directive_declaration (directive_in behind d) name) (kind_of reader.names.declarations name))
    → new.tokens ≡ reader.tokens → ((next : Place) → includes_at new.includes next ≡ includes_at reader.includes next ++ include_by (directive_in behind d) next)
    → HasRead (record { kind = kind_in rest found; text = take n rest } ∷ elements) new
line_read elements reader new rest behind found d n found_is behind_is read place fresh macros declarations tokens includes =
    subst (λ k. HasRead (record { kind = kind_in rest k; text = take n rest } ∷ elements) new) (sym found_is)
    (record {
      place = place;
      fresh = fresh;
      macros = λ name. macros name ∙ ap (λ l. first_of (directive_macro (directive_in l d) name) (kind_of reader.names.macros name)) behind_is
          ∙ ap (first_of (directive_macro (directive_in (drop 1 rest) d) name)) (read.macros name);
      declarations = λ name. declarations name ∙ ap (λ l. first_of (directive_declaration (directive_in l d) name) (kind_of reader.names.declarations name)) behind_is
          ∙ ap (first_of (directive_declaration (directive_in (drop 1 rest) d) name)) (read.declarations name);
      tokens = subst (λ l. Keeps new.tokens.items l) (sym (append-nil (tokens_of elements))) (subst (λ v. Keeps v.items (tokens_of elements)) (sym tokens) read.tokens);
      includes = λ next. includes next ∙ (λ i. read.includes next i ++ include_by (directive_in (behind_is i) d) next);
    })

-- ---- answers

-- what the elements of all bytes come to is an answer about them
pub concluded : (bytes : List ℕ) (reader : Reader) (stands : Stands bytes reader) (result : Result TokenLists LexRefusal) → length bytes ≤ reader.place.byte → Concludes stands.elements result → Answers bytes result
concluded bytes reader stands result all concludes = whole result concludes
  where
    elements : List Element
    elements = stands.elements

    are : AreElements bytes elements []
    are = subst (λ l. AreElements bytes elements l) (drop_all reader.place.byte bytes all) stands.are

    same : bytes_of elements ≡ bytes
    same = stands.before ∙ take_all reader.place.byte bytes all

    whole : (answer : Result TokenLists LexRefusal) → Concludes elements answer → Answers bytes answer
    whole (Ok lists) is = (
      (elements, are, is.1 ∙ (λ i. record { tokens = tokens_of elements; includes = includes_of elements (place_after (same i)); end = place_after (same i) })),
      is.0,
    )
    whole (Err (refusals.Fault fault)) is = absurd is
    whole (Err refusals.TokenLimit) is = (record { tokens = tokens_of elements; includes = includes_of elements (place_after bytes); end = place_after bytes }, (elements, are, refl), is)
    whole (Err refusals.NoMemory) is = tt

pub refused : (bytes : List ℕ) (refusal : LexRefusal) → Refuses bytes refusal → Answers bytes (Err refusal)
refused bytes (refusals.Fault fault) refuses = refuses
refused bytes refusals.TokenLimit refuses = absurd refuses
refused bytes refusals.NoMemory refuses = tt

pub answers_found : (bytes : List ℕ) (result : Result TokenLists LexRefusal) → Answers bytes result → IfOk result (λ tokens. AreTokensOf bytes tokens × (length tokens.tokens ≤ token_limit))
answers_found bytes (Ok tokens) answers = answers
answers_found bytes (Err refusal) answers = tt

pub answers_fault : (bytes : List ℕ) (result : Result TokenLists LexRefusal) → Answers bytes result → (fault : LexFault) → result ≡ Err (refusals.Fault fault) → IsFaultOf bytes fault
answers_fault bytes result answers fault is = subst (λ r. Answers bytes r) is answers

pub answers_many : (bytes : List ℕ) (result : Result TokenLists LexRefusal) → Answers bytes result → result ≡ Err refusals.TokenLimit → (tokens : TokenLists) × AreTokensOf bytes tokens × (token_limit < length tokens.tokens)
answers_many bytes result answers is = subst (λ r. Answers bytes r) is answers

pub only_tokens : (bytes : List ℕ) (result : Result TokenLists LexRefusal) → Answers bytes result → (tokens : TokenLists) → AreTokensOf bytes tokens → length tokens.tokens ≤ token_limit → (result ≡ Ok tokens) ⊎ (result ≡ Err refusals.NoMemory)
only_tokens bytes (Ok found) answers tokens are few = inl (ap (λ t. Ok t) (same_tokens bytes found tokens answers.0 are))
only_tokens bytes (Err (refusals.Fault fault)) answers tokens are few = absurd (tokens_or_fault bytes tokens fault are answers)
only_tokens bytes (Err refusals.TokenLimit) answers tokens are few = absurd (omega (arith, ap (λ t. length t.tokens) (same_tokens bytes answers.0 tokens answers.1 are), answers.2, few))
only_tokens bytes (Err refusals.NoMemory) answers tokens are few = inr refl

pub only_fault : (bytes : List ℕ) (result : Result TokenLists LexRefusal) → Answers bytes result → (fault : LexFault) → IsFaultOf bytes fault → (result ≡ Err (refusals.Fault fault)) ⊎ (result ≡ Err refusals.NoMemory)
only_fault bytes (Ok found) answers fault is = absurd (tokens_or_fault bytes found fault answers.0 is)
only_fault bytes (Err (refusals.Fault other)) answers fault is = inl (ap (λ f. Err (refusals.Fault f)) (same_fault bytes other fault answers is))
only_fault bytes (Err refusals.TokenLimit) answers fault is = absurd (tokens_or_fault bytes answers.0 fault answers.1 is)
only_fault bytes (Err refusals.NoMemory) answers fault is = inr refl

pub only_many : (bytes : List ℕ) (result : Result TokenLists LexRefusal) → Answers bytes result → (tokens : TokenLists) → AreTokensOf bytes tokens → token_limit < length tokens.tokens → (result ≡ Err refusals.TokenLimit) ⊎ (result ≡ Err refusals.NoMemory)
only_many bytes (Ok found) answers tokens are many = absurd (omega (arith, ap (λ t. length t.tokens) (same_tokens bytes found tokens answers.0 are), answers.1, many))
only_many bytes (Err (refusals.Fault fault)) answers tokens are many = absurd (tokens_or_fault bytes tokens fault are answers)
only_many bytes (Err refusals.TokenLimit) answers tokens are many = inl refl
only_many bytes (Err refusals.NoMemory) answers tokens are many = inr refl
