-- The one form of file that is checked today: a function that returns a literal,
--     [[rc::returns("K @ int<i32>")]] int f(void) { return L; }
-- with K and L from 0 to 2147483647 in decimal digits without a leading zero, and any identifier for f.
use Rattle.std.specs.Prelude.{◌≡◌, ℕ, ◌^◌, ◌<◌, List, [], ◌∷◌, ◌++◌, map, slice_get, Option, Some, None, codes}
use Rattle.std.specs.Fmt.{decimal}
use Rattle.rc_text.specs.declared.place.Place.{Place}
use Rattle.c_lexer.specs.declared.token.Token.{Token}
use Rattle.c_lexer.specs.declared.token.TokenKind.{TokenKind}
use Rattle.c_lexer.specs.declared.token.TokenKind.TheVariants.{Identifier, Keyword, Integer, StringLiteral, Punctuator}
use Rattle.c_lexer.specs.declared.keyword.Keyword.TheVariants as keyword
use Rattle.c_lexer.specs.declared.punctuator.Punctuator.TheVariants as sign
use Rattle.c_lexer.specs.declared.token.IntegerConstant.{IntegerConstant}
use Rattle.c_lexer.specs.declared.token.IntegerBase.TheVariants.{Decimal}
use Rattle.c_lexer.specs.declared.token.IntegerSuffix.TheVariants.{Plain}
use Rattle.caesium_ir.specs.declared.program.Program.{Program}
use Rattle.caesium_ir.specs.Literal.{literal_program}
use Rattle.refinedc_cli.specs.declared.check.ReadFile.{ReadFile}
use Rattle.refinedc_cli.specs.declared.one_literal.OneLiteral.{OneLiteral}

-- a decimal constant without a suffix
abbrev pub decimal_constant : ℕ → IntegerConstant
decimal_constant value = record { value = value; base = Decimal; suffix = Plain }

-- the kinds of the form's tokens, for a function that returns this literal
abbrev pub form_kinds : ℕ → List TokenKind
form_kinds returned =
    Punctuator sign.OpenBracket ∷ Punctuator sign.OpenBracket ∷ Identifier ∷ Punctuator sign.DoubleColon ∷ Identifier
    ∷ Punctuator sign.OpenParenthesis ∷ StringLiteral ∷ Punctuator sign.CloseParenthesis
    ∷ Punctuator sign.CloseBracket ∷ Punctuator sign.CloseBracket ∷ Keyword keyword.Int ∷ Identifier
    ∷ Punctuator sign.OpenParenthesis ∷ Keyword keyword.Void ∷ Punctuator sign.CloseParenthesis
    ∷ Punctuator sign.OpenBrace ∷ Keyword keyword.Return ∷ Integer (decimal_constant returned)
    ∷ Punctuator sign.Semicolon
    ∷ Punctuator sign.CloseBrace ∷ []

-- the string that declares the returned value
abbrev pub declaration : ℕ → List ℕ
declaration declared = codes "\"" ++ decimal declared ++ codes " @ int<i32>\""

-- the token at a position, counted from 0, is spelled so
abbrev pub IsSpelledAt : List Token → ℕ → List ℕ → Type 0
IsSpelledAt tokens position text = (token : Token) × (slice_get tokens position ≡ Some token) × (token.text ≡ text)

-- the token at a position stands at the place
abbrev pub StandsAt : List Token → ℕ → Place → Type 0
StandsAt tokens position place = (token : Token) × (slice_get tokens position ≡ Some token) × (token.place ≡ place)

-- the tokens are those of the form, with these literals and places
pub record IsOneLiteral (tokens : List Token) (form : OneLiteral) : Type 0 where
  pub kinds : map (λ token. token.kind) tokens ≡ form_kinds form.returned
  pub prefix : IsSpelledAt tokens 2 (codes "rc")
  pub attribute : IsSpelledAt tokens 4 (codes "returns")
  pub declares : IsSpelledAt tokens 6 (declaration form.declared)
  pub in_range : form.declared < 2 ^ 31
  pub returned_in_range : form.returned < 2 ^ 31
  pub name_place : StandsAt tokens 11 form.places.name
  pub body_place : StandsAt tokens 15 form.places.body
  pub return_place : StandsAt tokens 16 form.places.return_
  pub literal_place : StandsAt tokens 17 form.places.literal

-- the tokens are others
abbrev pub IsNoForm : List Token → Type 0
IsNoForm tokens = (form : OneLiteral) → IsOneLiteral tokens form → ⊥

-- the program of tokens of the form
abbrev pub IsProgramOf : List Token → OneLiteral → Program → Type 0
IsProgramOf tokens form program =
    (name : List ℕ) × IsSpelledAt tokens 11 name × (program ≡ literal_program name form.returned form.places)

-- what tokens are read as: the form with its program, or nothing where they are others
abbrev pub IsReadAs : List Token → Option ReadFile → Type 0
IsReadAs tokens None = IsNoForm tokens
IsReadAs tokens (Some read) = IsOneLiteral tokens read.form × IsProgramOf tokens read.form read.program
