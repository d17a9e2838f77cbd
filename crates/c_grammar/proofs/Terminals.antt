-- What the next token is, by what was taken, and that something is left behind.
use denote.Enum.Bare.{sameb, same_true}
use Rattle.std.proofs.Common.{◌≡◌, ℕ, suc, Bool, true, false, List, [], ◌∷◌, length, Some, None, sym, refl, ap, ◌∙◌}
use Rattle.std.proofs.lemmas.Bool.{false≢true}
use Rattle.std.proofs.lemmas.Option.{none-some, same_Some}
use Rattle.c_lexer.specs.declared.token.Token.{Token}
use Rattle.c_lexer.specs.declared.token.TokenKind.{TokenKind}
use Rattle.c_lexer.specs.declared.token.TokenKind.TheVariants as kinds
use Rattle.c_lexer.specs.declared.punctuator.Punctuator.{Punctuator}
use Rattle.c_lexer.specs.declared.punctuator.Punctuator.TheVariants as marks
use Rattle.c_lexer.specs.declared.keyword.Keyword.{Keyword}
use Rattle.c_lexer.specs.contracts.punctuator.Punctuator as punctuator
use Rattle.c_grammar.specs.declared.names.NameEntry.{NameEntry}
use Rattle.c_lexer.specs.declared.keyword.Keyword.TheVariants as words
use Rattle.c_grammar.specs.Names.{Word, TypedefName, HeaderName, OperationName, OrdinaryName, NoName, word_by as word_by_kind, word_of}
use Rattle.c_grammar.specs.Marks.{is_mark}
use Rattle.c_syntax.specs.declared.name.Name.{Name}
use Rattle.c_grammar.specs.Input.{Input, Taken, Named, first_of_tokens, next, taken_if, mark, is_identifier, identifier, name_of}
use Rattle.c_grammar.specs.Attributes.{ReadText, text_by, string}
use Rattle.c_grammar.specs.Operators as operators
use Rattle.c_grammar.specs.Operators.{TakenInfix, Started, infix_by, infix_mark, behind, Start, start_by, start_word, start}
use Rattle.c_grammar.specs.Specifiers.{TakenWord, TypeStarted, word_by, word, type_by, type_start}
use Rattle.c_grammar.specs.Reading.{turns, is_type}
use Rattle.c_grammar.proofs.Steps.{into, into_if}

-- ---- the next token

first-turns : (tokens : List Token) (names : List NameEntry) (taken : Taken) → first_of_tokens tokens names ≡ Some taken
    → suc (length taken.rest.tokens) ≡ length tokens
first-turns [] names taken e = absurd (none-some taken e)
first-turns (token ∷ tokens) names taken e =
    ap (λ (t : Taken). suc (length t.rest.tokens)) (sym (same_Some _ taken e))

pub next-turns : (from : Input) (taken : Taken) → next from ≡ Some taken → suc (turns taken.rest) ≡ turns from
next-turns from taken e = first-turns from.tokens from.names taken e

is_mark-kind : (mark : Punctuator) (kind : TokenKind) → is_mark mark kind ≡ true → kind ≡ kinds.Punctuator mark
is_mark-kind mark (kinds.Punctuator other) e = ap kinds.Punctuator (sym (same_true punctuator.the_type tt mark other e))
is_mark-kind mark _ e = absurd (false≢true e)

-- what is known where a punctuator was taken
pub record Marked (punctuator : Punctuator) (from to : Input) : Type 0 where
  pub taken : Taken
  pub next : next from ≡ Some taken
  pub kind : taken.token.kind ≡ kinds.Punctuator punctuator
  pub rest : taken.rest ≡ to

taken_if-some : (b : Bool) (rest to : Input) → taken_if b rest ≡ Some to → (b ≡ true) × (rest ≡ to)
taken_if-some true rest to e = (refl, same_Some rest to e)
taken_if-some false rest to e = absurd (none-some to e)

pub marked : (p : Punctuator) (from to : Input) → mark p from ≡ Some to → Marked p from to
unfolding mark
marked p from to e = into _ (next from) to e λ taken is found.
    let parts = taken_if-some (is_mark p taken.token.kind) taken.rest to found in
    record { taken = taken; next = is; kind = is_mark-kind p taken.token.kind parts.0; rest = parts.1 }

pub mark-turns : (p : Punctuator) (from to : Input) → mark p from ≡ Some to → suc (turns to) ≡ turns from
mark-turns p from to e =
    let m = marked p from to e in ap (λ (i : Input). suc (turns i)) (sym m.rest) ∙ next-turns from m.taken m.next

pub identifier-turns : (from : Input) (named : Named) → identifier from ≡ Some named → suc (turns named.rest) ≡ turns from
unfolding identifier
identifier-turns from named e = into _ (next from) named e λ taken is found.
    into_if (is_identifier taken.token.kind) _ _ named found
    (λ _ some. ap (λ (n : Named). suc (turns n.rest)) (sym (same_Some _ named some)) ∙ next-turns from taken is)
    (λ _ none. absurd (none-some named none))

pub text_by-rest : (kind : TokenKind) (token : Token) (rest : Input) (read : ReadText) → text_by kind token rest ≡ Some read
    → rest ≡ read.rest
text_by-rest kinds.StringLiteral token rest read e = ap (λ (r : ReadText). r.rest) (same_Some _ read e)
text_by-rest _ token rest read e = absurd (none-some read e)

pub string-turns : (from : Input) (read : ReadText) → string from ≡ Some read → suc (turns read.rest) ≡ turns from
unfolding string
string-turns from read e = into _ (next from) read e λ taken is found.
    ap (λ (i : Input). suc (turns i)) (sym (text_by-rest taken.token.kind taken.token taken.rest read found))
    ∙ next-turns from taken is

pub word_by-rest : (test : Keyword → Bool) (kind : TokenKind) (rest : Input) (taken : TakenWord) → word_by test kind rest ≡ Some taken
    → rest ≡ taken.rest
word_by-rest test (kinds.Keyword w) rest taken e = into_if (test w) _ _ taken e
    (λ _ some. ap (λ (r : TakenWord). r.rest) (same_Some _ taken some)) (λ _ none. absurd (none-some taken none))
word_by-rest test _ rest taken e = absurd (none-some taken e)

pub word-turns : (test : Keyword → Bool) (from : Input) (taken : TakenWord) → word test from ≡ Some taken
    → suc (turns taken.rest) ≡ turns from
unfolding word
word-turns test from read e = into _ (next from) read e λ taken is found.
    ap (λ (i : Input). suc (turns i)) (sym (word_by-rest test taken.token.kind taken.rest read found))
    ∙ next-turns from taken is

-- what is known where a token began an expression
pub record Begins (from : Input) (started : Started) : Type 0 where
  pub taken : Taken
  pub next : next from ≡ Some taken
  pub start : start_by taken.token.kind (word_of from.names taken.token) taken.token.text ≡ started.start
  pub rest : taken.rest ≡ started.rest

pub begins : (from : Input) (started : Started) → start from ≡ Some started → Begins from started
unfolding start
begins from started e = into _ (next from) started e λ taken is found.
    let same = same_Some _ started found in
    record { taken = taken; next = is; start = ap (λ (s : Started). s.start) same; rest = ap (λ (s : Started). s.rest) same }

pub start-turns : (from : Input) (started : Started) → start from ≡ Some started → suc (turns started.rest) ≡ turns from
start-turns from started e =
    let b = begins from started e in ap (λ (i : Input). suc (turns i)) (sym b.rest) ∙ next-turns from b.taken b.next

-- what is known where a token began a type
pub record BeginsAsType (from : Input) (started : TypeStarted) : Type 0 where
  pub taken : Taken
  pub next : next from ≡ Some taken
  pub start : type_by taken.token.kind (word_of from.names taken.token) (name_of taken.token) ≡ started.start
  pub rest : taken.rest ≡ started.rest

pub begins_as_type : (from : Input) (started : TypeStarted) → type_start from ≡ Some started → BeginsAsType from started
unfolding type_start
begins_as_type from started e = into _ (next from) started e λ taken is found.
    let same = same_Some _ started found in
    record {
      taken = taken;
      next = is;
      start = ap (λ (s : TypeStarted). s.start) same;
      rest = ap (λ (s : TypeStarted). s.rest) same;
    }

pub type_start-turns : (from : Input) (started : TypeStarted) → type_start from ≡ Some started → suc (turns started.rest) ≡ turns from
type_start-turns from started e =
    let b = begins_as_type from started e in ap (λ (i : Input). suc (turns i)) (sym b.rest) ∙ next-turns from b.taken b.next

-- what is known where a token goes on with an expression
pub record GoesOn (from : Input) (taken_infix : TakenInfix) : Type 0 where
  pub taken : Taken
  pub next : next from ≡ Some taken
  pub operator : infix_by taken.token.kind ≡ Some taken_infix.operator
  pub rest : taken.rest ≡ taken_infix.rest

pub goes_on_by : (from : Input) (found : TakenInfix) → behind from ≡ Some found → GoesOn from found
unfolding behind
goes_on_by from found e = into _ (next from) found e λ taken is more. into _ (infix_by taken.token.kind) found more λ operator known same.
    record {
      taken = taken;
      next = is;
      operator = known ∙ ap (λ (t : TakenInfix). Some t.operator) (same_Some _ found same);
      rest = ap (λ (t : TakenInfix). t.rest) (same_Some _ found same);
    }

pub behind-turns : (from : Input) (found : TakenInfix) → behind from ≡ Some found → suc (turns found.rest) ≡ turns from
behind-turns from found e =
    let g = goes_on_by from found e in ap (λ (i : Input). suc (turns i)) (sym g.rest) ∙ next-turns from g.taken g.next

-- ---- one token is no other

-- a punctuator is no other one
pub other_mark : (p q : Punctuator) (from to : Input) → mark p from ≡ Some to → sameb punctuator.the_type q p ≡ false → mark q from ≡ None
unfolding mark
other_mark p q from to e differs = let m = marked p from to e in rw (m.next, m.kind, differs) refl

-- a punctuator that goes on with nothing
pub mark_ends : (p : Punctuator) (from to : Input) → mark p from ≡ Some to → infix_mark p ≡ None → behind from ≡ None
unfolding behind
mark_ends p from to e none = let m = marked p from to e in rw (m.next, m.kind, none) refl

-- a punctuator is no word
pub no_word_at_mark : (p : Punctuator) (test : Keyword → Bool) (from to : Input) → mark p from ≡ Some to → word test from ≡ None
unfolding word
no_word_at_mark p test from to e = let m = marked p from to e in rw (m.next, m.kind) refl

-- an operator behind an expression is no opening parenthesis
open_mark : (kind : TokenKind) (operator : operators.Infix) → infix_by kind ≡ Some operator → is_mark marks.OpenParenthesis kind ≡ false
open_mark (kinds.Punctuator marks.OpenParenthesis) operator e = absurd (none-some operator e)
open_mark (kinds.Punctuator _) operator e = refl
open_mark _ operator e = refl

pub no_open_behind : (from : Input) (found : TakenInfix) → behind from ≡ Some found → mark marks.OpenParenthesis from ≡ None
unfolding mark
no_open_behind from found e = let g = goes_on_by from found e in
    rw (g.next, open_mark g.taken.token.kind found.operator g.operator) refl

-- a string is no punctuator
text_no_mark : (kind : TokenKind) (token : Token) (rest : Input) (read : ReadText) (p : Punctuator) → text_by kind token rest ≡ Some read
    → is_mark p kind ≡ false
text_no_mark kinds.StringLiteral token rest read p e = refl
text_no_mark _ token rest read p e = absurd (none-some read e)

pub no_mark_at_string : (p : Punctuator) (from : Input) (read : ReadText) → string from ≡ Some read → mark p from ≡ None
unfolding mark string
no_mark_at_string p from read e = into _ (next from) read e λ taken is found.
    rw (is, text_no_mark taken.token.kind taken.token taken.rest read p found) refl

-- an identifier is no punctuator
identifier_no_mark : (kind : TokenKind) (p : Punctuator) → is_identifier kind ≡ true → is_mark p kind ≡ false
identifier_no_mark (kinds.Punctuator q) p e = absurd (false≢true e)
identifier_no_mark _ p e = refl

pub no_mark_at_identifier : (p : Punctuator) (from : Input) (named : Named) → identifier from ≡ Some named → mark p from ≡ None
unfolding mark identifier
no_mark_at_identifier p from named e = into _ (next from) named e λ taken is found.
    into_if (is_identifier taken.token.kind) _ _ named found
    (λ known _. rw (is, identifier_no_mark taken.token.kind p known) refl) (λ _ none. absurd (none-some named none))

pub no_identifier_at_mark : (p : Punctuator) (from to : Input) → mark p from ≡ Some to → identifier from ≡ None
unfolding identifier
no_identifier_at_mark p from to e = let m = marked p from to e in rw (m.next, m.kind) refl

-- ---- the next token by its kind, whatever is in scope

-- a punctuator stands at the front of the tokens
pub record NextIs (punctuator : Punctuator) (tokens : List Token) : Type 0 where
  pub token : Token
  pub others : List Token
  pub front : tokens ≡ token ∷ others
  pub kind : token.kind ≡ kinds.Punctuator punctuator

front_token : (tokens : List Token) (names : List NameEntry) (taken : Taken) → first_of_tokens tokens names ≡ Some taken
    → tokens ≡ taken.token ∷ taken.rest.tokens
front_token [] names taken e = absurd (none-some taken e)
front_token (token ∷ tokens) names taken e = ap (λ (t : Taken). t.token ∷ t.rest.tokens) (same_Some _ taken e)

pub next_is : (p : Punctuator) (from to : Input) → mark p from ≡ Some to → NextIs p from.tokens
next_is p from to e = let m = marked p from to e in record {
  token = m.taken.token;
  others = m.taken.rest.tokens;
  front = front_token from.tokens from.names m.taken m.next;
  kind = m.kind;
}

taken_at : (p : Punctuator) (from : Input) → NextIs p from.tokens → (taken : Taken) × (next from ≡ Some taken) × (taken.token.kind ≡ kinds.Punctuator p)
taken_at p from n = (
  record { token = n.token; rest = record { tokens = n.others; names = from.names } },
  ap (λ tokens. first_of_tokens tokens from.names) n.front,
  n.kind,
)

pub no_mark_at : (p q : Punctuator) (from : Input) → NextIs p from.tokens → sameb punctuator.the_type q p ≡ false → mark q from ≡ None
unfolding mark
no_mark_at p q from n differs = let t = taken_at p from n in rw (t.1, t.2, differs) refl

pub no_word_at : (p : Punctuator) (test : Keyword → Bool) (from : Input) → NextIs p from.tokens → word test from ≡ None
unfolding word
no_word_at p test from n = let t = taken_at p from n in rw (t.1, t.2) refl

pub nothing_behind_at : (p : Punctuator) (from : Input) → NextIs p from.tokens → infix_mark p ≡ None → behind from ≡ None
unfolding behind
nothing_behind_at p from n none = let t = taken_at p from n in rw (t.1, t.2, none) refl

pub behind_at : (p : Punctuator) (operator : operators.Infix) (from : Input) → NextIs p from.tokens → infix_mark p ≡ Some operator
    → (found : TakenInfix) → behind from ≡ Some found → found.operator ≡ operator
unfolding behind
behind_at p operator from n some found e =
    let t = taken_at p from n in
    let known : behind from ≡ Some (record { operator = operator; rest = t.0.rest }) = rw (t.1, t.2, some) refl in
    ap (λ (f : TakenInfix). f.operator) (same_Some found (record { operator = operator; rest = t.0.rest }) (sym e ∙ known))

-- whether an expression begins with a parenthesis
abbrev pub is_open : Start → Bool
is_open operators.Parenthesis = true
is_open _ = false

open_start : (kind : TokenKind) (meaning : Word) (text : List ℕ) → is_open (start_by kind meaning text) ≡ true → is_mark marks.OpenParenthesis kind ≡ true
open_start (kinds.Punctuator marks.OpenParenthesis) meaning text e = refl
open_start (kinds.Punctuator _) meaning text e = absurd (false≢true e)
open_start (kinds.Keyword words.Sizeof) meaning text e = absurd (false≢true e)
open_start (kinds.Keyword words.Alignof) meaning text e = absurd (false≢true e)
open_start (kinds.Keyword _) meaning text e = absurd (false≢true e)
open_start (kinds.Integer constant) meaning text e = absurd (false≢true e)
open_start (kinds.Character constant) meaning text e = absurd (false≢true e)
open_start kinds.NullPointer meaning text e = absurd (false≢true e)
open_start _ meaning text e = absurd (word_open meaning text e)
  where
    word_open : (meaning : Word) (text : List ℕ) → is_open (start_word meaning text) ≡ true → ⊥
    word_open OrdinaryName text e = false≢true e
    word_open (OperationName operation) text e = false≢true e
    word_open TypedefName text e = false≢true e
    word_open (HeaderName type) text e = false≢true e
    word_open NoName text e = false≢true e

closed_start : (kind : TokenKind) (meaning : Word) (text : List ℕ) → is_open (start_by kind meaning text) ≡ false → is_mark marks.OpenParenthesis kind ≡ false
closed_start (kinds.Punctuator marks.OpenParenthesis) meaning text e = absurd (false≢true (sym e))
closed_start (kinds.Punctuator _) meaning text e = refl
closed_start _ meaning text e = refl

pub open_at_start : (from : Input) (started : Started) → start from ≡ Some started → is_open started.start ≡ true
    → mark marks.OpenParenthesis from ≡ Some started.rest
unfolding mark
open_at_start from started e known = let b = begins from started e in
    rw (b.next, open_start b.taken.token.kind _ b.taken.token.text (ap is_open b.start ∙ known), b.rest) refl

pub no_open_at_start : (from : Input) (started : Started) → start from ≡ Some started → is_open started.start ≡ false
    → mark marks.OpenParenthesis from ≡ None
unfolding mark
no_open_at_start from started e known = let b = begins from started e in
    rw (b.next, closed_start b.taken.token.kind _ b.taken.token.text (ap is_open b.start ∙ known)) refl

pub no_identifier_at : (p : Punctuator) (from : Input) → NextIs p from.tokens → identifier from ≡ None
unfolding identifier
no_identifier_at p from n = let t = taken_at p from n in rw (t.1, t.2) refl

-- an identifier is no keyword
identifier_no_word : (test : Keyword → Bool) (kind : TokenKind) (rest : Input) → is_identifier kind ≡ true → word_by test kind rest ≡ None
identifier_no_word test (kinds.Keyword w) rest e = absurd (false≢true e)
identifier_no_word test _ rest e = refl

pub no_word_at_identifier : (test : Keyword → Bool) (from : Input) (named : Named) → identifier from ≡ Some named → word test from ≡ None
unfolding word identifier
no_word_at_identifier test from named e = into _ (next from) named e λ taken is found.
    into_if (is_identifier taken.token.kind) _ _ named found
    (λ known _. rw (is, identifier_no_word test taken.token.kind taken.rest known) refl) (λ _ none. absurd (none-some named none))

-- ---- a type begins with no punctuator

type_no_mark : (p : Punctuator) (entries : List NameEntry) (kind : TokenKind) (name : Name)
    → is_type (type_by kind (word_by_kind entries kind name.text) name) ≡ true → is_mark p kind ≡ false
type_no_mark p entries (kinds.Punctuator q) name e = absurd (false≢true e)
type_no_mark p entries _ name e = refl

pub no_mark_at_type : (p : Punctuator) (from : Input) (started : TypeStarted) → type_start from ≡ Some started → is_type started.start ≡ true
    → mark p from ≡ None
unfolding mark
no_mark_at_type p from started e known = let b = begins_as_type from started e in
    rw (b.next, type_no_mark p from.names b.taken.token.kind (name_of b.taken.token) (ap is_type b.start ∙ known)) refl
