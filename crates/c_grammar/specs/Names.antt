-- The ordinary identifiers in scope (C11 6.2.1, 6.2.3), the newest declaration first, and what a token means as a name.
use Rattle.std.specs.Prelude.{ℕ, List, [], ◌∷◌, Option, Some, None, if◌then◌else◌}
use Rattle.std.specs.Str.{bytes_eq}
use Rattle.c_lexer.specs.declared.token.Token.{Token}
use Rattle.c_lexer.specs.declared.token.TokenKind.{TokenKind}
use Rattle.c_lexer.specs.declared.token.TokenKind.TheVariants as kinds
use Rattle.c_lexer.specs.declared.header_type.HeaderType.{HeaderType}
use Rattle.c_lexer.specs.declared.atomic_operation.AtomicOperation.{AtomicOperation}
use Rattle.c_grammar.specs.declared.names.NameKind.{NameKind}
use Rattle.c_grammar.specs.declared.names.NameKind.TheVariants as names
use Rattle.c_grammar.specs.declared.names.NameEntry.{NameEntry}

-- what the newest declaration of a name makes of it
abbrev pub meaning_of : List NameEntry → List ℕ → Option NameKind
meaning_of [] name = None
meaning_of (entry ∷ entries) name = if bytes_eq entry.name name then Some entry.kind else meaning_of entries name

-- What a token is as a name: of a type, by a typedef or a header, of an operation of a header, of something else that
-- may stand in an expression, or no name.
pub data Word : Type 0 where
  TypedefName : Word
  HeaderName : HeaderType → Word
  OperationName : AtomicOperation → Word
  OrdinaryName : Word
  NoName : Word

-- a name by its nearest declaration, where it has one, and else by what it is without any
abbrev pub declared_word : Option NameKind → Word → Word
declared_word (Some names.Typedef) otherwise = TypedefName
declared_word (Some names.Ordinary) otherwise = OrdinaryName
declared_word None otherwise = otherwise

-- what a token of this kind and text is as a name: a nearer declaration hides what a header gives
abbrev pub word_by : List NameEntry → TokenKind → List ℕ → Word
word_by entries kinds.Identifier text = declared_word (meaning_of entries text) OrdinaryName
word_by entries (kinds.HeaderType type) text = declared_word (meaning_of entries text) (HeaderName type)
word_by entries (kinds.AtomicOperation operation) text =
    declared_word (meaning_of entries text) (OperationName operation)
word_by entries _ text = NoName

-- what a token is as a name
abbrev pub word_of : List NameEntry → Token → Word
word_of entries token = word_by entries token.kind token.text
