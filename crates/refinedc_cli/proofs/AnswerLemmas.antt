-- What a command comes to, from what its file was read as.
use Rattle.std.proofs.Common.{ℕ, List, [], ◌∷◌, refl}
use Rattle.c_lexer.specs.TokenLists.{TokenLists}
use Rattle.c_syntax.specs.declared.unit.Unit as unit
use Rattle.refinedc_cli.specs.declared.command.Command.TheVariants.{Check}
use Rattle.refinedc_cli.specs.declared.front_end.Source.TheVariants.{File, NoFile}
use Rattle.refinedc_cli.specs.declared.limit.Limit.TheVariants.{FileBytes, Tokens, Depth}
use Rattle.refinedc_cli.specs.declared.outcome.FileFault.TheVariants.{Lexical, Syntax, LeftOutForm, NotYet}
use Rattle.refinedc_cli.specs.declared.outcome.Outcome.{Outcome}
use Rattle.refinedc_cli.specs.declared.outcome.Outcome.TheVariants.{Accepted, Refused, Faulty, Unread, Passed}
use Rattle.refinedc_cli.specs.FrontEnd.{HasTokens, IsTreeOf, IsNoFile, IsSourceOf}
use Rattle.refinedc_cli.specs.FrontEnd as front
use Rattle.refinedc_cli.specs.Outcome.{IsVerdict, IsCheckOutcome}
use Rattle.refinedc_cli.specs.Outside.{Files}
use Rattle.refinedc_cli.specs.Run.{ComesTo}
use Rattle.refinedc_cli.specs.Run as run

-- the verdict on the tokens of a content is what the content comes to, where they have a tree
verdict_is_outcome : (content : List ℕ) (lists : TokenLists) (tree : unit.Unit) (outcome : Outcome) → HasTokens content lists → IsTreeOf lists tree
    → IsVerdict lists.tokens outcome → IsCheckOutcome content outcome
verdict_is_outcome content lists tree (Accepted lines) has treed is = (lists, has, is)
verdict_is_outcome content lists tree (Refused place goal) has treed is = (lists, has, is)
verdict_is_outcome content lists tree (Faulty place NotYet) has treed is = ((lists, has, is), tree, treed)
verdict_is_outcome content lists tree (Faulty place (Lexical kind)) has treed is = absurd is
verdict_is_outcome content lists tree (Faulty place Syntax) has treed is = absurd is
verdict_is_outcome content lists tree (Faulty place (LeftOutForm form)) has treed is = absurd is
verdict_is_outcome content lists tree (Unread name) has treed is = absurd is
verdict_is_outcome content lists tree (Passed limit) has treed is = absurd is

-- why a content is no file with a tree is what it comes to
no_file_is_outcome : (content : List ℕ) (outcome : Outcome) → IsNoFile content outcome → IsCheckOutcome content outcome
no_file_is_outcome content (Faulty place (Lexical kind)) is = is
no_file_is_outcome content (Faulty place Syntax) is = is
no_file_is_outcome content (Faulty place (LeftOutForm form)) is = is
no_file_is_outcome content (Passed FileBytes) is = is
no_file_is_outcome content (Passed Tokens) is = is
no_file_is_outcome content (Passed Depth) is = is
no_file_is_outcome content (Faulty place NotYet) is = absurd is
no_file_is_outcome content (Accepted lines) is = absurd is
no_file_is_outcome content (Refused place goal) is = absurd is
no_file_is_outcome content (Unread name) is = absurd is

module _ (file : List ℕ) (before after : Files) where
  -- a file with a tree comes to the verdict on its tokens
  pub file_comes_to : (tokens : TokenLists) (tree : unit.Unit) (outcome : Outcome) → IsSourceOf file before after (File tokens tree) → IsVerdict tokens.tokens outcome
      → ComesTo (Check file) before after outcome
  file_comes_to tokens tree outcome (front.found content may is asked quiet) verdict =
      run.found (content ∷ []) may (verdict_is_outcome content tokens tree outcome is.0 is.1 verdict) asked quiet

  -- any other comes to why it has none
  pub no_file_comes_to : (outcome : Outcome) → IsSourceOf file before after (NoFile outcome) → ComesTo (Check file) before after outcome
  no_file_comes_to outcome (front.found content may is asked quiet) = run.found (content ∷ []) may (no_file_is_outcome content outcome is) asked quiet
  no_file_comes_to (Unread file) (front.unread asked rose) = run.unread [] [] file refl asked rose
