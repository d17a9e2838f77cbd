-- What a file is read as before the work of a command: its tokens and their tree, or why it has none (this project's
-- own).
use Rattle.std.specs.Prelude.{◌≡◌, ℕ, ◌<◌, ◌≤◌, List, [], ◌∷◌, length}
use Rattle.rc_text.specs.Faults.{one_more}
use Rattle.c_lexer.specs.Files.{AreTokensOf, IsFaultOf}
use Rattle.c_lexer.specs.TokenLists.{TokenLists}
use Rattle.c_syntax.specs.declared.unit.Unit as unit
use Rattle.c_syntax.specs.Depth.{unit_depth}
use Rattle.c_grammar.specs.Grammar.{Derives}
use Rattle.refinedc_cli.specs.declared.front_end.Source.{Source}
use Rattle.refinedc_cli.specs.declared.front_end.Source.TheVariants.{File, NoFile}
use Rattle.refinedc_cli.specs.declared.limit.Limit.TheVariants.{FileBytes, Tokens, Depth}
use Rattle.refinedc_cli.specs.declared.outcome.FileFault.TheVariants.{Lexical, Syntax, LeftOutForm, NotYet}
use Rattle.refinedc_cli.specs.declared.outcome.Outcome.{Outcome}
use Rattle.refinedc_cli.specs.declared.outcome.Outcome.TheVariants.{Accepted, Refused, Faulty, Unread, Passed}
use Rattle.refinedc_cli.specs.Limit.{limit_number}
use Rattle.refinedc_cli.specs.Outside.{Files, MayHold, WasAskedFor}

-- the content is no longer than a file may be
abbrev pub IsWithin : List ℕ → Type 0
IsWithin content = length content ≤ limit_number FileBytes

-- the content is within the limits on bytes and tokens, and these are its tokens
pub record HasTokens (content : List ℕ) (lists : TokenLists) : Type 0 where
  pub short : IsWithin content
  pub are : AreTokensOf content lists
  pub few : length lists.tokens ≤ limit_number Tokens

-- this is the tree that the grammar has for the tokens, and it is no deeper than it may be
pub record IsTreeOf (lists : TokenLists) (tree : unit.Unit) : Type 0 where
  pub derived : Derives lists tree
  pub shallow : unit_depth tree ≤ limit_number Depth

-- the grammar has no such tree for the tokens
abbrev pub HaveNoTree : TokenLists → Type 0
HaveNoTree lists = (tree : unit.Unit) → IsTreeOf lists tree → ⊥

-- how it is said of tokens that they have no tree: as a fault, whose kind and place are no part of this definition, or
-- as the limit on depth, which only more than 100 tokens can pass
abbrev pub SaysNoTree : TokenLists → Outcome → Type 0
SaysNoTree lists (Faulty place Syntax) = HaveNoTree lists
SaysNoTree lists (Faulty place (LeftOutForm form)) = HaveNoTree lists
SaysNoTree lists (Faulty place (Lexical kind)) = ⊥
SaysNoTree lists (Faulty place NotYet) = ⊥
SaysNoTree lists (Passed Depth) = HaveNoTree lists × (100 < length lists.tokens)
SaysNoTree lists (Passed FileBytes) = ⊥
SaysNoTree lists (Passed Tokens) = ⊥
SaysNoTree lists (Accepted lines) = ⊥
SaysNoTree lists (Refused place goal) = ⊥
SaysNoTree lists (Unread name) = ⊥

-- the content has tokens, and this is said of them
abbrev pub HasNoTree : List ℕ → Outcome → Type 0
HasNoTree content outcome = (lists : TokenLists) × HasTokens content lists × SaysNoTree lists outcome

-- Why a content is no file with a tree: it is too long; else it has a lexical fault, the first one; else it has too
-- many tokens; else its tokens have no tree.
abbrev pub IsNoFile : List ℕ → Outcome → Type 0
IsNoFile content (Passed FileBytes) = limit_number FileBytes < length content
IsNoFile content (Faulty place (Lexical kind)) =
    IsWithin content × IsFaultOf content (record { place = place; kind = kind })
IsNoFile content (Passed Tokens) =
    IsWithin content × (lists : TokenLists) × AreTokensOf content lists × (limit_number Tokens < length lists.tokens)
IsNoFile content (Faulty place Syntax) = HasNoTree content (Faulty place Syntax)
IsNoFile content (Faulty place (LeftOutForm form)) = HasNoTree content (Faulty place (LeftOutForm form))
IsNoFile content (Passed Depth) = HasNoTree content (Passed Depth)
IsNoFile content (Faulty place NotYet) = ⊥
IsNoFile content (Accepted lines) = ⊥
IsNoFile content (Refused place goal) = ⊥
IsNoFile content (Unread name) = ⊥

-- what a content is read as: its tokens with their tree, or why it has none
abbrev pub IsSource : List ℕ → Source → Type 0
IsSource content (File tokens tree) = HasTokens content tokens × IsTreeOf tokens tree
IsSource content (NoFile outcome) = IsNoFile content outcome

-- What the file of a name is read as over a shelf, which is seen before and after.
pub data IsSourceOf (file : List ℕ) (before after : Files) : Source → Type 0 where
  -- it was read: what its content is read as
  found : (content : List ℕ) {source : Source} → MayHold before.holds (file ∷ []) (content ∷ [])
      → IsSource content source → WasAskedFor before.asked after.asked (file ∷ []) → after.faults ≡ before.faults
      → IsSourceOf file before after source
  -- the shelf failed at it
  unread : WasAskedFor before.asked after.asked (file ∷ []) → after.faults ≡ one_more before.faults
      → IsSourceOf file before after (NoFile (Unread file))

-- what tokens are read as (inner)
abbrev pub AreReadAs : TokenLists → Source → Type 0
AreReadAs lists (File tokens tree) = (tokens ≡ lists) × IsTreeOf lists tree
AreReadAs lists (NoFile outcome) = SaysNoTree lists outcome
