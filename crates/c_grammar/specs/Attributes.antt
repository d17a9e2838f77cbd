-- Attributes as the profile has them: this project's own, in the form of C23 6.7.13. Those of prefix `rc` are kept, and
-- all others are read and dropped.
use Rattle.std.specs.Prelude.{◌≡◌, ℕ, List, [], ◌∷◌, ◌++◌, ◌-◌, codes, if◌then◌else◌, length, take, drop, Option, Some}
use Rattle.std.specs.Prelude.{None, option_and_then}
use Rattle.std.specs.Str.{bytes_eq}
use Rattle.c_lexer.specs.declared.token.Token.{Token}
use Rattle.c_lexer.specs.declared.token.TokenKind.{TokenKind}
use Rattle.c_lexer.specs.declared.token.TokenKind.TheVariants as kinds
use Rattle.c_lexer.specs.declared.punctuator.Punctuator.TheVariants as marks
use Rattle.c_syntax.specs.declared.attribute.Attribute.{Attribute}
use Rattle.c_syntax.specs.declared.attribute.AttributeText.{AttributeText}
use Rattle.c_syntax.specs.declared.name.Name.{Name}
use Rattle.c_grammar.specs.Input.{Input, Named, next, mark, identifier}

-- what stands between the quotes of a string
abbrev pub quoted : List ℕ → List ℕ
quoted text = take (length text - 2) (drop 1 text)

-- a text, and what is left behind it
pub record ReadText : Type 0 where
  pub text : AttributeText
  pub rest : Input

-- a token as the text of an attribute, where it is a string
abbrev pub text_by : TokenKind → Token → Input → Option ReadText
text_by kinds.StringLiteral token rest =
    Some (record { text = record { place = token.place; text = quoted token.text }; rest = rest })
text_by _ token rest = None

-- the string that stands next
unfoldable pub string : Input → Option ReadText
string input = option_and_then (λ taken. text_by taken.token.kind taken.token taken.rest) (next input)

-- strings with commas between them, and the closing parenthesis
pub data Texts : Input → List AttributeText → Input → Type 0 where
  last : {from : Input} {read : ReadText} {to : Input} → string from ≡ Some read
      → mark marks.CloseParenthesis read.rest ≡ Some to → Texts from (read.text ∷ []) to
  more : {from : Input} {read : ReadText} {behind : Input} {texts : List AttributeText} {to : Input}
      → string from ≡ Some read → mark marks.Comma read.rest ≡ Some behind → Texts behind texts to
      → Texts from (read.text ∷ texts) to

-- the strings of an attribute, in parentheses where there are parentheses
pub data Clause : Input → List AttributeText → Input → Type 0 where
  none : {from : Input} → Clause from [] from
  empty : {from behind to : Input} → mark marks.OpenParenthesis from ≡ Some behind
      → mark marks.CloseParenthesis behind ≡ Some to → Clause from [] to
  some : {from behind : Input} {texts : List AttributeText} {to : Input} → mark marks.OpenParenthesis from ≡ Some behind
      → Texts behind texts to → Clause from texts to

-- an attribute of this prefix, where it is kept
abbrev pub kept : Name → Name → List AttributeText → List Attribute
kept prefix name texts =
    if bytes_eq prefix.text (codes "rc")
    then record { place = name.place; name = name.text; texts = texts } ∷ []
    else []

-- one attribute, with a prefix or without one
pub data Single : Input → List Attribute → Input → Type 0 where
  unprefixed : {from : Input} {name : Named} {texts : List AttributeText} {to : Input} → identifier from ≡ Some name
      → Clause name.rest texts to → Single from [] to
  prefixed : {from : Input} {prefix : Named} {behind : Input} {name : Named} {texts : List AttributeText} {to : Input}
      → identifier from ≡ Some prefix → mark marks.DoubleColon prefix.rest ≡ Some behind → identifier behind ≡ Some name
      → Clause name.rest texts to → Single from (kept prefix.name name.name texts) to

-- attributes with commas between them, and the two closing brackets
pub data Group : Input → List Attribute → Input → Type 0 where
  last : {from : Input} {one : List Attribute} {behind inner to : Input} → Single from one behind
      → mark marks.CloseBracket behind ≡ Some inner → mark marks.CloseBracket inner ≡ Some to → Group from one to
  more : {from : Input} {one : List Attribute} {behind inner : Input} {others : List Attribute} {to : Input}
      → Single from one behind → mark marks.Comma behind ≡ Some inner → Group inner others to
      → Group from (one ++ others) to

-- attribute specifiers one after another, which are one list (C23 attribute-specifier-sequence)
pub data Attributes : Input → List Attribute → Input → Type 0 where
  none : {from : Input} → Attributes from [] from
  more : {from outer inner : Input} {group : List Attribute} {behind : Input} {others : List Attribute} {to : Input}
      → mark marks.OpenBracket from ≡ Some outer → mark marks.OpenBracket outer ≡ Some inner → Group inner group behind
      → Attributes behind others to → Attributes from (group ++ others) to
