-- What element is found at the front of some bytes.
use Rattle.std.specs.Prelude.{◌≡◌, ℕ, ◌-◌, ◌<◌, ◌≤◌, Bool, IsTrue, List, ◌∷◌, length, take, drop, Result, Ok, Err}
use Rattle.c_lexer.specs.declared.scanner.Unread.{Unread}
use Rattle.c_lexer.specs.declared.element.Found.{Found}
use Rattle.c_lexer.specs.declared.element.FoundKind.{FoundKind}
use Rattle.c_lexer.specs.declared.scanner.Unread.TheVariants as unreads
use Rattle.c_lexer.specs.declared.element.FoundKind.TheVariants as founds
use Rattle.c_lexer.specs.Directives.{Directive, DirectiveBegins}
use Rattle.c_lexer.specs.Elements.{ElementKind, Blank, Comment, DirectiveLine, SingleToken, ElementBegins}
use Rattle.c_lexer.specs.Elements.{NoElementBegins}
use Rattle.c_lexer.specs.Scanning.Tokens.{OpensAs}
use Rattle.c_lexer.specs.Scanning.Directives.{directive_in, AreWithin}

-- the element that was found, in bytes whose first is the `#` of a directive
abbrev pub kind_in : List ℕ → FoundKind → ElementKind
kind_in bytes founds.Blank = Blank
kind_in bytes founds.Comment = Comment
kind_in bytes (founds.DirectiveLine directive) = DirectiveLine (directive_in (drop 1 bytes) directive)
kind_in bytes (founds.SingleToken kind) = SingleToken kind

-- the places of an element's parts lie within the bytes
abbrev pub StandWithin : FoundKind → ℕ → Type 0
StandWithin (founds.DirectiveLine directive) n = AreWithin directive n
StandWithin founds.Blank n = Unit {0}
StandWithin founds.Comment n = Unit {0}
StandWithin (founds.SingleToken kind) n = Unit {0}

-- the element that begins the bytes, or how they begin where none does
abbrev pub IsFound : Bool → List ℕ → Result Found Unread → Type 0
IsFound fresh bytes (Ok found) =
    (0 < found.length) × (found.length ≤ length bytes) × StandWithin found.kind (length bytes - 1)
    × ElementBegins (IsTrue fresh) bytes (kind_in bytes found.kind) (take found.length bytes) (drop found.length bytes)
IsFound fresh bytes (Err unread) = NoElementBegins (IsTrue fresh) bytes × OpensAs unread bytes

-- a directive that ends with its line
abbrev pub IsLine : List ℕ → ElementKind → List ℕ → Type 0
IsLine bytes (DirectiveLine directive) rest = DirectiveBegins bytes directive rest
IsLine bytes Blank rest = ⊥
IsLine bytes Comment rest = ⊥
IsLine bytes (SingleToken kind) rest = ⊥

-- the directive whose `#` begins the bytes
abbrev pub IsHashFound : List ℕ → Result Found Unread → Type 0
IsHashFound bytes (Ok found) =
    (0 < found.length) × (found.length ≤ length bytes) × StandWithin found.kind (length bytes - 1)
    × IsLine bytes (kind_in bytes found.kind) (drop found.length bytes)
IsHashFound bytes (Err unread) = ((directive : Directive) (rest : List ℕ) → DirectiveBegins bytes directive rest → ⊥)
    × OpensAs unread bytes

-- how bytes begin at which no element begins: a `//` always begins a comment
abbrev pub CanOpen : Unread → List ℕ → Type 0
CanOpen unreads.Comment bytes = (rest : List ℕ) × (bytes ≡ 47 ∷ 42 ∷ rest)
CanOpen unreads.Byte bytes = OpensAs unreads.Byte bytes
CanOpen unreads.Text bytes = OpensAs unreads.Text bytes
CanOpen unreads.Number bytes = OpensAs unreads.Number bytes
CanOpen unreads.Directive bytes = OpensAs unreads.Directive bytes
