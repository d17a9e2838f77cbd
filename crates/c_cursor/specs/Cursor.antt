-- What the steps of the cursor answer, beside what the reading functions say of the input (inner).
use Rattle.std.specs.Prelude.{◌≡◌, Bool, true, false, drop, Option, Some, None}
use denote.Ref.{Bor}
use Rattle.c_lexer.specs.declared.keyword.Keyword.{Keyword}
use Rattle.c_lexer.specs.declared.token.Token.{Token}
use Rattle.c_lexer.specs.declared.token.TokenKind.{TokenKind}
use Rattle.c_lexer.specs.declared.token.TokenKind.TheVariants as kinds
use Rattle.c_syntax.specs.declared.name.Name.{Name}
use Rattle.c_grammar.specs.Input.{Input, Named, next}
use Rattle.c_grammar.specs.Attributes.{ReadText}
use Rattle.c_grammar.specs.Operators.{Started, TakenInfix}
use Rattle.c_grammar.specs.Specifiers.{TakenWord, TypeStarted}
use Rattle.c_cursor.specs.declared.cursor.Identifier.{Identifier}
use Rattle.c_cursor.specs.declared.cursor.Quoted.{Quoted}
use Rattle.c_cursor.specs.declared.cursor.FirstToken.{FirstToken}
use Rattle.c_cursor.specs.declared.infix.Infix.{Infix}
use Rattle.c_cursor.specs.declared.starts.TypeStart.{TypeStart}
use Rattle.c_cursor.specs.Starts.{type_seen, start_seen, infix_seen}

-- the input behind the next token
abbrev pub skipped : Input → Input
skipped input = record { tokens = drop 1 input.tokens; names = input.names }

-- the next token, if there is one
abbrev pub IsNext : Input → Option (Bor Token) → Type 0
IsNext input None = next input ≡ None
IsNext input (Some token) = next input ≡ Some (record { token = token.now; rest = skipped input })

-- whether a token is a string
abbrev pub is_string : TokenKind → Bool
is_string kinds.StringLiteral = true
is_string _ = false

-- a token as a keyword
abbrev pub keyword_of : TokenKind → Option Keyword
keyword_of (kinds.Keyword word) = Some word
keyword_of _ = None

-- whether something stands next, past which the cursor has gone then
abbrev pub Marks : Option Input → Input → Bool → Input → Type 0
Marks found old true new = found ≡ Some new
Marks found old false new = (found ≡ None) × (new ≡ old)

-- an identifier as a name
abbrev pub name_seen : Identifier → Name
name_seen name = record { place = name.place; text = name.text.now }

-- the same of an identifier
abbrev pub FindsName : Option Named → Input → Option Identifier → Input → Type 0
FindsName found old (Some name) new =
    found ≡ Some (record { name = name_seen name; rest = new })
FindsName found old None new = (found ≡ None) × (new ≡ old)

-- the same of a string
abbrev pub FindsText : Option ReadText → Input → Option Quoted → Input → Type 0
FindsText found old (Some text) new =
    found ≡ Some (record { text = record { place = text.place; text = text.text.now }; rest = new })
FindsText found old None new = (found ≡ None) × (new ≡ old)

-- the same of a keyword
abbrev pub FindsWord : Option TakenWord → Input → Option Keyword → Input → Type 0
FindsWord found old (Some word) new = found ≡ Some (record { word = word; rest = new })
FindsWord found old None new = (found ≡ None) × (new ≡ old)

-- what stands next as the first token of a type, behind which the rest is left
abbrev pub BeginsType : Option TypeStarted → Input → Option TypeStart → Type 0
BeginsType found rest None = found ≡ None
BeginsType found rest (Some start) = found ≡ Some (record { start = type_seen start; rest = rest })

-- the same as the first token of an expression
abbrev pub Begins : Option Started → Input → Option FirstToken → Type 0
Begins found rest None = found ≡ None
Begins found rest (Some first) =
    found ≡ Some (record { start = start_seen first.start; place = first.place; rest = rest })

-- the same as an operator behind an expression
abbrev pub GoesOn : Option TakenInfix → Input → Option Infix → Type 0
GoesOn found rest None = found ≡ None
GoesOn found rest (Some operator) = found ≡ Some (record { operator = infix_seen operator; rest = rest })
