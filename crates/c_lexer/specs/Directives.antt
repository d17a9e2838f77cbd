-- Directives (C11 6.10): which are read, and what they define.
use Rattle.std.specs.Prelude.{◌≡◌, ℕ, Bool, true, false, IsTrue, List, ◌∷◌, ◌++◌, codes, Option, Some, None}
use Rattle.std.specs.Prelude.{if◌then◌else◌}
use Rattle.std.specs.Str.{bytes_eq}
use Rattle.c_lexer.specs.declared.header.Header.{Header}
use Rattle.c_lexer.specs.declared.token.TokenKind.{TokenKind}
use Rattle.c_lexer.specs.declared.token.TokenKind.TheVariants as kinds
use Rattle.c_lexer.specs.Headers.{header_text, header_macros, header_declarations, kind_among}
use Rattle.c_lexer.specs.Spelling.{is_word}
use Rattle.c_lexer.specs.LongestMatch.{Begins}
use Rattle.c_lexer.specs.Comments.{is_line_end, IsBehindGap}

-- an include, or a name with the one constant that it stands for
pub data Directive : Type 0 where
  Include : Header → Directive
  Define : List ℕ → TokenKind → Directive

-- a token stands behind blanks and comments
abbrev pub TokenBehindGap : List ℕ → TokenKind → List ℕ → List ℕ → Type 0
TokenBehindGap bytes kind text rest = (at : List ℕ) × IsBehindGap bytes at × Begins at kind text rest

-- nothing but blanks and comments stands before the line's end
abbrev pub EndsLine : List ℕ → List ℕ → Type 0
EndsLine bytes rest = IsBehindGap bytes rest × IsTrue (is_line_end rest)

-- the kinds of constants
abbrev pub is_constant : TokenKind → Bool
is_constant (kinds.Integer constant) = true
is_constant kinds.Floating = true
is_constant (kinds.Character constant) = true
is_constant kinds.Identifier = false
is_constant (kinds.HeaderType type) = false
is_constant (kinds.AtomicOperation operation) = false
is_constant (kinds.Keyword keyword) = false
is_constant kinds.StringLiteral = false
is_constant (kinds.Punctuator punctuator) = false
is_constant kinds.NullPointer = false

-- what stands behind the `#`: `include`, a header's name, and the line's end
pub record IsInclude (bytes : List ℕ) (header : Header) (rest : List ℕ) : Type 0 where
  pub after_word : List ℕ
  pub at_header : List ℕ
  pub after_header : List ℕ
  pub word : TokenBehindGap bytes kinds.Identifier (codes "include") after_word
  pub gap : IsBehindGap after_word at_header
  pub header_name : at_header ≡ header_text header ++ after_header
  pub end : EndsLine after_header rest

-- or `define`, an identifier, a constant, and the line's end
pub record IsDefine (bytes : List ℕ) (name : List ℕ) (kind : TokenKind) (rest : List ℕ) : Type 0 where
  pub after_word : List ℕ
  pub after_name : List ℕ
  pub text : List ℕ
  pub after_text : List ℕ
  pub word : TokenBehindGap bytes kinds.Identifier (codes "define") after_word
  pub named : TokenBehindGap after_word kinds.Identifier name after_name
  pub constant : IsTrue (is_constant kind) × TokenBehindGap after_name kind text after_text
  pub end : EndsLine after_text rest

-- a `#` and what makes it the directive begin the bytes
abbrev pub DirectiveBegins : List ℕ → Directive → List ℕ → Type 0
DirectiveBegins bytes (Include header) rest = (after : List ℕ) × (bytes ≡ 35 ∷ after) × IsInclude after header rest
DirectiveBegins bytes (Define name kind) rest = (after : List ℕ) × (bytes ≡ 35 ∷ after) × IsDefine after name kind rest

-- the identifier or keyword behind a `#`, where there is one
abbrev pub HasName : List ℕ → Option (List ℕ) → Type 0
HasName bytes (Some name) = (kind : TokenKind) × (rest : List ℕ) × TokenBehindGap bytes kind name rest
    × IsTrue (is_word name)
HasName bytes None = (kind : TokenKind) (name rest : List ℕ) → TokenBehindGap bytes kind name rest
    → IsTrue (is_word name) → ⊥

-- what a directive makes of a name as a macro
abbrev pub directive_macro : Directive → List ℕ → Option TokenKind
directive_macro (Include header) name = kind_among (header_macros header) name
directive_macro (Define defined kind) name = if bytes_eq defined name then Some kind else None

-- what a directive declares a name as
abbrev pub directive_declaration : Directive → List ℕ → Option TokenKind
directive_declaration (Include header) name = kind_among (header_declarations header) name
directive_declaration (Define defined kind) name = None
