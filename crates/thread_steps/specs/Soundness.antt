-- What a run must not come to, and what it must answer (this project's own).
use Rattle.std.specs.Prelude.{ℕ, ◌≡◌, List, ◌∷◌, Option, Some, slice_get}
use Rattle.std.specs.List.{AllByRecursion}
use Rattle.rc_terms.specs.declared.byte.MByte.{MByte}
use Rattle.caesium_ir.specs.declared.program.Program.{Program}
use Rattle.thread_steps.specs.declared.thread.Thread.TheVariants.{Finished}
use Rattle.thread_steps.specs.Configuration.{Configuration}
use Rattle.thread_steps.specs.Start.{Start}
use Rattle.thread_steps.specs.Undefined.{IsUndefined}

-- a configuration that came from these starts is not undefined, and each of their threads that is finished has returned
-- what its start says
pub record IsSound (program : Program) (starts : List Start) (config : Configuration) : Type 0 where
  pub defined : ¬ IsUndefined program config
  pub returned : (i : ℕ) (start : Start) (value : Option (List MByte)) → slice_get starts i ≡ Some start →
      slice_get config.threads i ≡ Some (Finished value) → value ≡ start.returns

-- so is each configuration of a run, the first included
abbrev pub AreSound : Program → List Start → Configuration → List Configuration → Type 0
AreSound program starts first configs = AllByRecursion (IsSound program starts) (first ∷ configs)
