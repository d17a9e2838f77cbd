-- That every run of a file's program is sound (adequacy, RefinedC PLDI 2021, over this project's Caesium).
use Rattle.std.specs.Prelude.{ℕ, List}
use Rattle.std.specs.List.{AllByRecursion}
use Rattle.c_lexer.specs.TokenLists.{TokenLists}
use Rattle.caesium_ir.specs.declared.program.Program.{Program}
use Rattle.thread_steps.specs.Configuration.{Configuration, starting}
use Rattle.thread_steps.specs.LiteralStart.{IsLiteralStart}
use Rattle.thread_steps.specs.Run.{Run}
use Rattle.thread_steps.specs.Soundness.{AreSound}
use Rattle.thread_steps.specs.Start.{Start, functions_of}
use Rattle.refinedc_cli.specs.declared.one_literal.OneLiteral.{OneLiteral}
use Rattle.refinedc_cli.specs.OneLiteral.{IsOneLiteral, IsSpelledAt, IsProgramOf}
use Rattle.refinedc_cli.specs.FrontEnd.{HasTokens}

-- the file is of the one form: its tokens, with their literals, the name of its function, and its program
pub record IsProgramOfFile (content : List ℕ) (form : OneLiteral) (name : List ℕ) (program : Program) : Type 0 where
  pub lists : TokenLists
  pub has : HasTokens content lists
  pub is : IsOneLiteral lists.tokens form
  pub named : IsSpelledAt lists.tokens 11 name
  pub built : IsProgramOf lists.tokens form program

-- Every run of the file's program is sound: whatever list of threads calls its functions, in whichever order they take
-- their steps and after however many, no configuration is undefined, and each finished thread has returned what its
-- function declares: the declared value, as an `int`.
pub record IsSoundFile (content : List ℕ) : Type 0 where
  pub form : OneLiteral
  pub name : List ℕ
  pub program : Program
  pub is : IsProgramOfFile content form name program
  pub sound : (starts : List Start) (configs : List Configuration)
      → AllByRecursion (IsLiteralStart name form.declared) starts → Run program (starting (functions_of starts)) configs
      → AreSound program starts (starting (functions_of starts)) configs
