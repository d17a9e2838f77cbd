-- Runs of a program (this project's own): the threads take their steps in any order.
use Rattle.std.specs.Prelude.{List, [], ◌∷◌}
use Rattle.caesium_ir.specs.declared.program.Program.{Program}
use Rattle.thread_steps.specs.Configuration.{Configuration, StepsTo}

-- the configurations come after the first, each by one step of one thread from the one before
abbrev pub Run : Program → Configuration → List Configuration → Type 0
Run program first [] = Unit {0}
Run program first (second ∷ configs) = StepsTo program first second × Run program second configs
