-- The elements of a file: blanks, comments, directives and tokens, each of which begins where the one before ends.
-- A list of elements has the last first, so that each stands before the list of those that precede it.
use Rattle.std.specs.Prelude.{◌≡◌, ◌≢◌, ℕ, Bool, true, false, ◌==◌, IsTrue, List, [], ◌∷◌, ◌++◌, Option}
use Rattle.std.specs.Prelude.{Some, None}
use Rattle.std.specs.List.{list_any}
use Rattle.rc_text.specs.declared.place.Place.{Place}
use Rattle.rc_text.specs.Places.{place_after}
use Rattle.c_lexer.specs.declared.token.Token.{Token}
use Rattle.c_lexer.specs.declared.token.TokenKind.{TokenKind}
use Rattle.c_lexer.specs.declared.token.TokenKind.TheVariants as kinds
use Rattle.c_lexer.specs.declared.punctuator.Punctuator.TheVariants as punctuators
use Rattle.c_lexer.specs.declared.tokens.Include.{Include}
use Rattle.c_lexer.specs.Bytes.{is_blank}
use Rattle.c_lexer.specs.LongestMatch.{Begins}
use Rattle.c_lexer.specs.Comments.{CommentBegins}
use Rattle.c_lexer.specs.Directives as directives
use Rattle.c_lexer.specs.Directives.{Directive, DirectiveBegins, directive_macro, directive_declaration}

-- what an element is: a blank, a comment, a directive, a token
pub data ElementKind : Type 0 where
  Blank : ElementKind
  Comment : ElementKind
  DirectiveLine : Directive → ElementKind
  SingleToken : TokenKind → ElementKind

-- a part of the file: what it is, and its bytes
pub record Element : Type 0 where
  pub kind : ElementKind
  pub text : List ℕ

-- the bytes that the elements were made of
abbrev pub bytes_of : List Element → List ℕ
bytes_of [] = []
bytes_of (element ∷ earlier) = bytes_of earlier ++ element.text

-- a text goes over the end of a line
abbrev pub has_line_feed : List ℕ → Bool
has_line_feed text = list_any (λ b. b == 10) text

-- whether it is a token or a directive
abbrev pub is_token_or_directive : ElementKind → Bool
is_token_or_directive Blank = false
is_token_or_directive Comment = false
is_token_or_directive (DirectiveLine directive) = true
is_token_or_directive (SingleToken kind) = true

-- what comes next is the first of its line: behind each earlier token and directive stands a line feed
abbrev pub AreBeforeLine : List Element → Type 0
AreBeforeLine elements = (later : List Element) (element : Element) (earlier : List Element)
    → elements ≡ later ++ element ∷ earlier → IsTrue (is_token_or_directive element.kind)
    → IsTrue (has_line_feed (bytes_of later))

-- The element begins the bytes, where it may be known to be the first of its line. A `#` that is the first token of its
-- line is none by itself.
abbrev pub ElementBegins : Type 0 → List ℕ → ElementKind → List ℕ → List ℕ → Type 0
ElementBegins First bytes Blank text rest = (b : ℕ) × IsTrue (is_blank b) × (text ≡ b ∷ []) × (bytes ≡ b ∷ rest)
ElementBegins First bytes Comment text rest = CommentBegins bytes text rest
ElementBegins First bytes (DirectiveLine directive) text rest = First × (bytes ≡ text ++ rest)
    × DirectiveBegins bytes directive rest
ElementBegins First bytes (SingleToken kind) text rest = Begins bytes kind text rest
    × (First → kind ≢ kinds.Punctuator punctuators.Hash)

-- no element begins the bytes
abbrev pub NoElementBegins : Type 0 → List ℕ → Type 0
NoElementBegins First bytes = (kind : ElementKind) (text rest : List ℕ) → ElementBegins First bytes kind text rest → ⊥

-- the elements begin the bytes, and the rest stands behind them
abbrev pub AreElements : List ℕ → List Element → List ℕ → Type 0
AreElements bytes [] rest = bytes ≡ rest
AreElements bytes (element ∷ earlier) rest =
    (from : List ℕ) × AreElements bytes earlier from
    × ElementBegins (AreBeforeLine earlier) from element.kind element.text rest

-- what an element makes of a name as a macro, and what it declares it as
abbrev pub element_macro : ElementKind → List ℕ → Option TokenKind
element_macro (DirectiveLine directive) name = directive_macro directive name
element_macro Blank name = None
element_macro Comment name = None
element_macro (SingleToken kind) name = None

-- what one element declares a name as
abbrev pub element_declaration : ElementKind → List ℕ → Option TokenKind
element_declaration (DirectiveLine directive) name = directive_declaration directive name
element_declaration Blank name = None
element_declaration Comment name = None
element_declaration (SingleToken kind) name = None

-- the first of two meanings that is there
abbrev pub first_of : Option TokenKind → Option TokenKind → Option TokenKind
first_of (Some kind) other = Some kind
first_of None other = other

-- what a name stands for as a macro, by the last directive that defines it
abbrev pub macro_of : List Element → List ℕ → Option TokenKind
macro_of [] name = None
macro_of (element ∷ earlier) name = first_of (element_macro element.kind name) (macro_of earlier name)

-- what the last include that declares a name declares it as
abbrev pub declaration_of : List Element → List ℕ → Option TokenKind
declaration_of [] name = None
declaration_of (element ∷ earlier) name = first_of (element_declaration element.kind name) (declaration_of earlier name)

-- what a name stands for: a macro counts over a declaration
abbrev pub meaning_of : List Element → List ℕ → Option TokenKind
meaning_of elements name = first_of (macro_of elements name) (declaration_of elements name)

-- what a name stands for, or an identifier
abbrev pub or_identifier : Option TokenKind → TokenKind
or_identifier (Some kind) = kind
or_identifier None = kinds.Identifier

-- the kind of a token: a name is replaced by what it stands for
abbrev pub replaced : Option TokenKind → TokenKind → TokenKind
replaced meaning kinds.Identifier = or_identifier meaning
replaced meaning (kinds.HeaderType type) = kinds.HeaderType type
replaced meaning (kinds.AtomicOperation operation) = kinds.AtomicOperation operation
replaced meaning (kinds.Keyword keyword) = kinds.Keyword keyword
replaced meaning (kinds.Integer constant) = kinds.Integer constant
replaced meaning kinds.Floating = kinds.Floating
replaced meaning (kinds.Character constant) = kinds.Character constant
replaced meaning kinds.StringLiteral = kinds.StringLiteral
replaced meaning (kinds.Punctuator punctuator) = kinds.Punctuator punctuator
replaced meaning kinds.NullPointer = kinds.NullPointer

-- the text that a token keeps: the spelling of a name, and of a string
abbrev pub kept_text : TokenKind → List ℕ → List ℕ
kept_text kinds.Identifier text = text
kept_text (kinds.HeaderType type) text = text
kept_text (kinds.AtomicOperation operation) text = text
kept_text kinds.StringLiteral text = text
kept_text (kinds.Keyword keyword) text = []
kept_text (kinds.Integer constant) text = []
kept_text kinds.Floating text = []
kept_text (kinds.Character constant) text = []
kept_text (kinds.Punctuator punctuator) text = []
kept_text kinds.NullPointer text = []

-- the token of a kind that is spelled so and follows these bytes
abbrev pub token_at : TokenKind → List ℕ → List ℕ → Token
token_at kind text before = record { kind = kind; place = place_after before; text = kept_text kind text }

-- the token that an element is, if it is one, from what its text stands for and from the bytes before
abbrev pub token_of : ElementKind → List ℕ → Option TokenKind → List ℕ → List Token
token_of (SingleToken kind) text meaning before = token_at (replaced meaning kind) text before ∷ []
token_of Blank text meaning before = []
token_of Comment text meaning before = []
token_of (DirectiveLine directive) text meaning before = []

-- the tokens among the elements, in order
abbrev pub tokens_of : List Element → List Token
tokens_of [] = []
tokens_of (element ∷ earlier) = tokens_of earlier
    ++ token_of element.kind element.text (meaning_of earlier element.text) (bytes_of earlier)

-- the place of the first token from an element on, given that of the first one behind it and the bytes before it
abbrev pub first_place : ElementKind → List ℕ → Place → Place
first_place (SingleToken kind) before next = place_after before
first_place Blank before next = next
first_place Comment before next = next
first_place (DirectiveLine directive) before next = next

-- the header that a directive includes, if it does, with the place of the first token behind
abbrev pub include_by : Directive → Place → List Include
include_by (directives.Include header) next = record { header = header; from = next } ∷ []
include_by (directives.Define name kind) next = []

-- the same of an element
abbrev pub include_of : ElementKind → Place → List Include
include_of (DirectiveLine directive) next = include_by directive next
include_of Blank next = []
include_of Comment next = []
include_of (SingleToken kind) next = []

-- the includes among elements behind which the first token, or the end, has this place
abbrev pub includes_of : List Element → Place → List Include
includes_of [] next = []
includes_of (element ∷ earlier) next = includes_of earlier (first_place element.kind (bytes_of earlier) next)
    ++ include_of element.kind next
