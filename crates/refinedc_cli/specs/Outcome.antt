-- What the contents of the files that a command names come to (this project's own).
use Rattle.std.specs.Prelude.{◌≡◌, ◌≢◌, ℕ, ◌⊎◌, List, [], ◌∷◌}
use Rattle.rc_text.specs.Places.{place_after}
use Rattle.c_lexer.specs.declared.token.Token.{Token}
use Rattle.c_lexer.specs.TokenLists.{TokenLists}
use Rattle.c_syntax.specs.declared.unit.Unit as unit
use Rattle.refinedc_cli.specs.declared.command.Command.{Command}
use Rattle.refinedc_cli.specs.declared.command.Command.TheVariants.{Check}
use Rattle.refinedc_cli.specs.declared.limit.Limit.TheVariants.{FileBytes, Tokens, Depth}
use Rattle.refinedc_cli.specs.declared.one_literal.OneLiteral.{OneLiteral}
use Rattle.refinedc_cli.specs.declared.outcome.FileFault.TheVariants.{Lexical, Syntax, LeftOutForm, NotYet}
use Rattle.refinedc_cli.specs.declared.outcome.OpenGoal.TheVariants.{Unsolved}
use Rattle.refinedc_cli.specs.declared.outcome.Outcome.{Outcome}
use Rattle.refinedc_cli.specs.declared.outcome.Outcome.TheVariants.{Accepted, Refused, Faulty, Unread, Passed}
use Rattle.refinedc_cli.specs.FrontEnd.{HasTokens, IsTreeOf, IsNoFile}
use Rattle.refinedc_cli.specs.Listing.{literal_lines}
use Rattle.refinedc_cli.specs.OneLiteral.{IsOneLiteral, IsNoForm}

-- whether the literal is the declared value: where it isn't, their equation stays open at the `return`
abbrev pub IsJudgement : OneLiteral → Outcome → Type 0
IsJudgement form (Accepted lines) = (form.returned ≡ form.declared) × (lines ≡ literal_lines)
IsJudgement form (Refused place (Unsolved left right)) =
    (form.returned ≢ form.declared) × (left ≡ form.returned) × (right ≡ form.declared) × (place ≡ form.places.return_)
IsJudgement form (Faulty place fault) = ⊥
IsJudgement form (Unread name) = ⊥
IsJudgement form (Passed limit) = ⊥

-- what tokens come to: those of the one form to its judgement, and others to `NotYet` at the file's first byte
abbrev pub IsVerdict : List Token → Outcome → Type 0
IsVerdict tokens (Faulty place NotYet) = IsNoForm tokens × (place ≡ place_after [])
IsVerdict tokens (Faulty place (Lexical kind)) = ⊥
IsVerdict tokens (Faulty place Syntax) = ⊥
IsVerdict tokens (Faulty place (LeftOutForm form)) = ⊥
IsVerdict tokens (Accepted lines) = (form : OneLiteral) × IsOneLiteral tokens form × IsJudgement form (Accepted lines)
IsVerdict tokens (Refused place goal) =
    (form : OneLiteral) × IsOneLiteral tokens form × IsJudgement form (Refused place goal)
IsVerdict tokens (Unread name) = ⊥
IsVerdict tokens (Passed limit) = ⊥

-- the same of a content that is within the limits and has tokens
abbrev pub HasVerdict : List ℕ → Outcome → Type 0
HasVerdict content outcome = (lists : TokenLists) × HasTokens content lists × IsVerdict lists.tokens outcome

-- what `check` finds in a content: why it is no file with a tree, or the verdict on its tokens; other tokens than those
-- of the one form come to `NotYet` only where they have a tree
abbrev pub IsCheckOutcome : List ℕ → Outcome → Type 0
IsCheckOutcome content (Accepted lines) = HasVerdict content (Accepted lines)
IsCheckOutcome content (Refused place goal) = HasVerdict content (Refused place goal)
IsCheckOutcome content (Faulty place NotYet) =
    (verdict : HasVerdict content (Faulty place NotYet)) × (tree : unit.Unit) × IsTreeOf verdict.0 tree
IsCheckOutcome content (Faulty place (Lexical kind)) = IsNoFile content (Faulty place (Lexical kind))
IsCheckOutcome content (Faulty place Syntax) = IsNoFile content (Faulty place Syntax)
IsCheckOutcome content (Faulty place (LeftOutForm form)) = IsNoFile content (Faulty place (LeftOutForm form))
IsCheckOutcome content (Passed FileBytes) = IsNoFile content (Passed FileBytes)
IsCheckOutcome content (Passed Tokens) = IsNoFile content (Passed Tokens)
IsCheckOutcome content (Passed Depth) = IsNoFile content (Passed Depth)
IsCheckOutcome content (Unread name) = ⊥

-- what a command finds in the contents of its files, in their order
abbrev pub IsOutcome : Command → List (List ℕ) → Outcome → Type 0
IsOutcome (Check file) [] outcome = ⊥
IsOutcome (Check file) (content ∷ []) outcome = IsCheckOutcome content outcome
IsOutcome (Check file) (content ∷ second ∷ more) outcome = ⊥

-- the outcome is that the grammar has no tree for a file
abbrev pub IsTreeless : Outcome → Type 0
IsTreeless (Faulty place Syntax) = Unit {0}
IsTreeless (Faulty place (LeftOutForm form)) = Unit {0}
IsTreeless (Faulty place (Lexical kind)) = ⊥
IsTreeless (Faulty place NotYet) = ⊥
IsTreeless (Passed Depth) = Unit {0}
IsTreeless (Passed FileBytes) = ⊥
IsTreeless (Passed Tokens) = ⊥
IsTreeless (Accepted lines) = ⊥
IsTreeless (Refused place goal) = ⊥
IsTreeless (Unread name) = ⊥

-- one outcome, or two that say, in whichever way and at whichever place, that the grammar has no tree
abbrev pub AreAlike : Outcome → Outcome → Type 0
AreAlike one other = (one ≡ other) ⊎ (IsTreeless one × IsTreeless other)
