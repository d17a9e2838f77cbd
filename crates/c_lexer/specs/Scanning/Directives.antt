-- What is found behind the `#` of a directive.
use Rattle.std.specs.Prelude.{◌≡◌, ℕ, ◌≤◌, IsTrue, List, ◌++◌, length, drop, slice_range, Option, Some, None}
use Rattle.c_lexer.specs.declared.header.Header.{Header}
use Rattle.c_lexer.specs.declared.token.TokenKind.{TokenKind}
use Rattle.c_lexer.specs.declared.directive.Definition.{Definition}
use Rattle.c_lexer.specs.declared.directive.Located.{Located}
use Rattle.c_lexer.specs.declared.directive.FoundDirective.{FoundDirective}
use Rattle.c_lexer.specs.declared.directive.DirectiveKind.{DirectiveKind}
use Rattle.c_lexer.specs.declared.token.TokenKind.TheVariants as kinds
use Rattle.c_lexer.specs.declared.directive.DirectiveKind.TheVariants as directives
use Rattle.c_lexer.specs.Comments.{IsBehindGap}
use Rattle.c_lexer.specs.Directives.{Directive, Include, Define, TokenBehindGap, EndsLine, IsInclude, IsDefine}
use Rattle.c_lexer.specs.Directives.{is_constant, HasName}
use Rattle.c_lexer.specs.Headers.{header_text}

-- the token behind blanks and comments, by where it begins and ends
abbrev pub IsLocated : List ℕ → Option Located → Type 0
IsLocated bytes (Some located) =
    (located.start ≤ located.end) × (located.end ≤ length bytes)
    × TokenBehindGap bytes located.kind (slice_range bytes located.start located.end) (drop located.end bytes)
IsLocated bytes None = (kind : TokenKind) (text rest : List ℕ) → TokenBehindGap bytes kind text rest → ⊥

-- where the line ends, if nothing but blanks and comments comes before
abbrev pub IsLineEnd : List ℕ → Option ℕ → Type 0
IsLineEnd bytes (Some n) = (n ≤ length bytes) × EndsLine bytes (drop n bytes)
IsLineEnd bytes None = (rest : List ℕ) → EndsLine bytes rest → ⊥

-- the directive that was found in the bytes: a name stands where its place says
abbrev pub directive_in : List ℕ → DirectiveKind → Directive
directive_in bytes (directives.Include header) = Include header
directive_in bytes (directives.Define definition) =
    Define (slice_range bytes definition.start definition.end) definition.kind

-- what makes a directive stands behind its `#`
abbrev pub FollowsHash : List ℕ → Directive → List ℕ → Type 0
FollowsHash bytes (Include header) rest = IsInclude bytes header rest
FollowsHash bytes (Define name kind) rest = IsDefine bytes name kind rest

-- the places of a directive's parts lie within the bytes
abbrev pub AreWithin : DirectiveKind → ℕ → Type 0
AreWithin (directives.Include header) n = Unit {0}
AreWithin (directives.Define definition) n = (definition.start ≤ definition.end) × (definition.end ≤ n)

-- the directive whose `#` stands before the bytes
abbrev pub IsDirectiveBody : List ℕ → Option FoundDirective → Type 0
IsDirectiveBody bytes (Some found) =
    (found.length ≤ length bytes) × AreWithin found.kind (length bytes)
    × FollowsHash bytes (directive_in bytes found.kind) (drop found.length bytes)
IsDirectiveBody bytes None = (directive : Directive) (rest : List ℕ) → FollowsHash bytes directive rest → ⊥

-- the identifier, the constant, the identifier or keyword behind blanks and comments
abbrev pub IsIdentifierBehind : List ℕ → Option Located → Type 0
IsIdentifierBehind bytes (Some located) = (located.kind ≡ kinds.Identifier) × IsLocated bytes (Some located)
IsIdentifierBehind bytes None = (text rest : List ℕ) → TokenBehindGap bytes kinds.Identifier text rest → ⊥

-- the constant behind blanks and comments
abbrev pub IsConstantBehind : List ℕ → Option Located → Type 0
IsConstantBehind bytes (Some located) = IsTrue (is_constant located.kind) × IsLocated bytes (Some located)
IsConstantBehind bytes None = (kind : TokenKind) (text rest : List ℕ) → IsTrue (is_constant kind)
    → TokenBehindGap bytes kind text rest → ⊥

-- the identifier or keyword behind blanks and comments
abbrev pub IsNameBehind : List ℕ → Option (ℕ × ℕ) → Type 0
IsNameBehind bytes (Some name) = (name.0 ≤ name.1) × (name.1 ≤ length bytes)
    × HasName bytes (Some (slice_range bytes name.0 name.1))
IsNameBehind bytes None = HasName bytes None

-- what stands behind `include`, and behind `define`
pub record IsHeaderLine (bytes : List ℕ) (header : Header) (rest : List ℕ) : Type 0 where
  pub at_header : List ℕ
  pub after_header : List ℕ
  pub gap : IsBehindGap bytes at_header
  pub header_name : at_header ≡ header_text header ++ after_header
  pub end : EndsLine after_header rest

-- the answer on what stands behind `include`
abbrev pub IsIncludeBody : List ℕ → Option (Header × ℕ) → Type 0
IsIncludeBody bytes (Some found) = (found.1 ≤ length bytes) × IsHeaderLine bytes found.0 (drop found.1 bytes)
IsIncludeBody bytes None = (header : Header) (rest : List ℕ) → IsHeaderLine bytes header rest → ⊥

-- a constant alone stands on the line
abbrev pub IsConstantLine : List ℕ → TokenKind → List ℕ → Type 0
IsConstantLine bytes kind rest = (text : List ℕ) × (after : List ℕ) × IsTrue (is_constant kind)
    × TokenBehindGap bytes kind text after × EndsLine after rest

-- the answer on a constant that stands alone on the line
abbrev pub IsConstantLineBody : List ℕ → Option (TokenKind × ℕ) → Type 0
IsConstantLineBody bytes (Some found) = (found.1 ≤ length bytes) × IsConstantLine bytes found.0 (drop found.1 bytes)
IsConstantLineBody bytes None = (kind : TokenKind) (rest : List ℕ) → IsConstantLine bytes kind rest → ⊥

-- a name and a constant stand on the line
abbrev pub IsDefinitionLine : List ℕ → List ℕ → TokenKind → List ℕ → Type 0
IsDefinitionLine bytes name kind rest = (after : List ℕ) × TokenBehindGap bytes kinds.Identifier name after
    × IsConstantLine after kind rest

-- the answer on what stands behind `define`
abbrev pub IsDefineBody : List ℕ → Option (Definition × ℕ) → Type 0
IsDefineBody bytes (Some found) =
    (found.1 ≤ length bytes) × (found.0.start ≤ found.0.end) × (found.0.end ≤ length bytes)
    × IsDefinitionLine bytes (slice_range bytes found.0.start found.0.end) found.0.kind (drop found.1 bytes)
IsDefineBody bytes None = (name : List ℕ) (kind : TokenKind) (rest : List ℕ) → IsDefinitionLine bytes name kind rest → ⊥

-- the answer on an `include` behind blanks and comments
abbrev pub IsIncludeBehind : List ℕ → ℕ → Option FoundDirective → Type 0
IsIncludeBehind bytes end (Some found) =
    (found.length ≤ length bytes) × ((header : Header) × (found.kind ≡ directives.Include header)
    × IsHeaderLine (drop end bytes) header (drop found.length bytes))
IsIncludeBehind bytes end None = (header : Header) (rest : List ℕ) → IsHeaderLine (drop end bytes) header rest → ⊥

-- the answer on a `define` behind blanks and comments
abbrev pub IsDefineBehind : List ℕ → ℕ → Option FoundDirective → Type 0
IsDefineBehind bytes end (Some found) =
    (found.length ≤ length bytes)
    × ((definition : Definition) × (found.kind ≡ directives.Define definition) × (definition.start ≤ definition.end)
    × (definition.end ≤ length bytes)
    × IsDefinitionLine (drop end bytes) (slice_range bytes definition.start definition.end) definition.kind
    (drop found.length bytes))
IsDefineBehind bytes end None = (name : List ℕ) (kind : TokenKind) (rest : List ℕ)
    → IsDefinitionLine (drop end bytes) name kind rest → ⊥
