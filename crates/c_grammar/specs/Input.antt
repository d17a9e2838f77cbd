-- What a production reads: the tokens that are left, under the names in scope.
use Rattle.std.specs.Prelude.{ℕ, Bool, true, false, List, [], ◌∷◌, Option, Some, None, option_and_then, if◌then◌else◌}
use Rattle.c_lexer.specs.declared.token.Token.{Token}
use Rattle.c_lexer.specs.declared.token.TokenKind.{TokenKind}
use Rattle.c_lexer.specs.declared.token.TokenKind.TheVariants as kinds
use Rattle.c_lexer.specs.declared.punctuator.Punctuator.{Punctuator}
use Rattle.c_syntax.specs.declared.name.Name.{Name}
use Rattle.c_grammar.specs.declared.names.NameKind.{NameKind}
use Rattle.c_grammar.specs.declared.names.NameEntry.{NameEntry}
use Rattle.c_grammar.specs.Marks.{is_mark}

-- what is left to be read, and the names in scope there
pub record Input : Type 0 where
  pub tokens : List Token
  pub names : List NameEntry

-- a token, and what is left behind it
pub record Taken : Type 0 where
  pub token : Token
  pub rest : Input

-- the next token of tokens under the names
abbrev pub first_of_tokens : List Token → List NameEntry → Option Taken
first_of_tokens [] names = None
first_of_tokens (token ∷ tokens) names =
    Some (record { token = token; rest = record { tokens = tokens; names = names } })

-- the next token, and what is left behind it; none at the end of the file
abbrev pub next : Input → Option Taken
next input = first_of_tokens input.tokens input.names

-- what is left behind a token, if it is of the kind
abbrev pub taken_if : Bool → Input → Option Input
taken_if true rest = Some rest
taken_if false rest = None

-- what is left behind the punctuator, where it stands next
unfoldable pub mark : Punctuator → Input → Option Input
mark punctuator input =
    option_and_then (λ taken. taken_if (is_mark punctuator taken.token.kind) taken.rest) (next input)

-- whether a token of this kind is an identifier, whatever is declared: a header's names are identifiers too
abbrev pub is_identifier : TokenKind → Bool
is_identifier kinds.Identifier = true
is_identifier (kinds.HeaderType type) = true
is_identifier (kinds.AtomicOperation operation) = true
is_identifier _ = false

-- a name, and what is left behind it
pub record Named : Type 0 where
  pub name : Name
  pub rest : Input

-- a token as a name
abbrev pub name_of : Token → Name
name_of token = record { place = token.place; text = token.text }

-- the identifier that stands next, whatever it means
unfoldable pub identifier : Input → Option Named
identifier input =
    option_and_then (λ taken. if is_identifier taken.token.kind
    then Some (record { name = name_of taken.token; rest = taken.rest }) else None) (next input)

-- the same tokens with one more name in scope
abbrev pub declares : Input → List ℕ → NameKind → Input
declares input name kind = record { tokens = input.tokens; names = record { name = name; kind = kind } ∷ input.names }
