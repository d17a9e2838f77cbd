-- What a reader has read of a file.
use Rattle.std.specs.Prelude.{◌≡◌, ℕ, ◌<◌, ◌≤◌, ◌||◌, Bool, true, false, List, [], ◌∷◌, ◌++◌, length, take, drop}
use Rattle.std.specs.Prelude.{Result, Ok, Err, ◌⊎◌, map}
use Rattle.rc_text.specs.declared.place.Place.{Place}
use Rattle.rc_text.specs.Places.{place_after}
use Rattle.c_lexer.specs.declared.fault.LexRefusal.{LexRefusal}
use Rattle.c_lexer.specs.declared.includes.Includes.{Includes}
use Rattle.c_lexer.specs.declared.reader.Reader.{Reader}
use Rattle.c_lexer.specs.declared.tokens.Include.{Include}
use Rattle.c_lexer.specs.declared.token.Token.{Token}
use Rattle.c_lexer.specs.declared.fault.LexRefusal.TheVariants as refusals
use Rattle.c_lexer.specs.Elements.{ElementKind, Blank, Comment, DirectiveLine, SingleToken, Element}
use Rattle.c_lexer.specs.Elements.{has_line_feed, bytes_of, AreElements}
use Rattle.c_lexer.specs.Elements.{macro_of, declaration_of, tokens_of, includes_of}
use Rattle.c_lexer.specs.TokenLists.{TokenLists}
use Rattle.c_lexer.specs.Files.{AreTokensOf, IsFaultOf, token_limit}
use Rattle.c_lexer.specs.Scanning.Names.{kind_of}

-- no token and no directive stands on the line behind an element, given the same before it
abbrev pub is_fresh_after : ElementKind → List ℕ → Bool → Bool
is_fresh_after Blank text fresh = has_line_feed text || fresh
is_fresh_after Comment text fresh = has_line_feed text || fresh
is_fresh_after (DirectiveLine directive) text fresh = false
is_fresh_after (SingleToken kind) text fresh = false

-- the same behind all elements
abbrev pub is_fresh : List Element → Bool
is_fresh [] = true
is_fresh (element ∷ earlier) = is_fresh_after element.kind element.text (is_fresh earlier)

-- how many tokens an element is
abbrev pub token_count : ElementKind → ℕ
token_count Blank = 0
token_count Comment = 0
token_count (DirectiveLine directive) = 0
token_count (SingleToken kind) = 1

-- elements with so many tokens stand before a place in the bytes
pub record HasPassed (bytes : List ℕ) (at : ℕ) (fresh : Bool) (tokens : ℕ) : Type 0 where
  pub elements : List Element
  pub are : AreElements bytes elements (drop at bytes)
  pub inside : at ≤ length bytes
  pub fresh_is : fresh ≡ is_fresh elements
  pub tokens_are : tokens ≡ length (tokens_of elements)
  pub few : tokens ≤ at

-- the includes so far, where the next token behind them, or the end, has this place
abbrev pub includes_at : Includes → Place → List Include
includes_at includes next =
    includes.placed.items ++ map (λ header. record { header = header; from = next }) includes.pending.items

-- these are the tokens, or there are too many of either
abbrev pub Keeps : List Token → List Token → Type 0
Keeps kept tokens = (kept ≡ tokens) ⊎ ((token_limit < length kept) × (token_limit < length tokens))

-- the reader holds what these elements give
pub record HasRead (elements : List Element) (reader : Reader) : Type 0 where
  pub place : reader.place ≡ place_after (bytes_of elements)
  pub fresh : reader.fresh ≡ is_fresh elements
  pub macros : (name : List ℕ) → kind_of reader.names.macros name ≡ macro_of elements name
  pub declarations : (name : List ℕ) → kind_of reader.names.declarations name ≡ declaration_of elements name
  pub tokens : Keeps reader.tokens.items (tokens_of elements)
  pub includes : (next : Place) → includes_at reader.includes next ≡ includes_of elements next

-- it holds what the elements before its place in the bytes give
pub record Stands (bytes : List ℕ) (reader : Reader) : Type 0 where
  pub elements : List Element
  pub are : AreElements bytes elements (drop reader.place.byte bytes)
  pub inside : reader.place.byte ≤ length bytes
  pub before : bytes_of elements ≡ take reader.place.byte bytes
  pub read : HasRead elements reader

-- what a reader refuses is the file's fault
abbrev pub Refuses : List ℕ → LexRefusal → Type 0
Refuses bytes (refusals.Fault fault) = IsFaultOf bytes fault
Refuses bytes refusals.TokenLimit = ⊥
Refuses bytes refusals.NoMemory = Unit {0}

-- what the elements of a whole file come to
abbrev pub Concludes : List Element → Result TokenLists LexRefusal → Type 0
Concludes elements (Ok lists) = (length lists.tokens ≤ token_limit) × (lists ≡ record {
  tokens = tokens_of elements;
  includes = includes_of elements (place_after (bytes_of elements));
  end = place_after (bytes_of elements);
})
Concludes elements (Err (refusals.Fault fault)) = ⊥
Concludes elements (Err refusals.TokenLimit) = token_limit < length (tokens_of elements)
Concludes elements (Err refusals.NoMemory) = Unit {0}

-- each answer about a file is the file's own
abbrev pub Answers : List ℕ → Result TokenLists LexRefusal → Type 0
Answers bytes (Ok tokens) = AreTokensOf bytes tokens × (length tokens.tokens ≤ token_limit)
Answers bytes (Err (refusals.Fault fault)) = IsFaultOf bytes fault
Answers bytes (Err refusals.TokenLimit) =
    (tokens : TokenLists) × AreTokensOf bytes tokens × (token_limit < length tokens.tokens)
Answers bytes (Err refusals.NoMemory) = Unit {0}
