-- What a run answers, and what it leaves on the outside (this project's own).
use Rattle.std.specs.Prelude.{◌≡◌, ℕ, ◌⊎◌, List, [], ◌∷◌, ◌++◌, Option}
use Rattle.rc_text.specs.Faults.{one_more}
use Rattle.refinedc_cli.specs.declared.command.Command.{Command}
use Rattle.refinedc_cli.specs.declared.outcome.Outcome.{Outcome}
use Rattle.refinedc_cli.specs.declared.outcome.Outcome.TheVariants.{Unread}
use Rattle.refinedc_cli.specs.declared.rendering.Rendering.{Rendering}
use Rattle.refinedc_cli.specs.declared.status.Status.{Status}
use Rattle.refinedc_cli.specs.declared.status.Status.TheVariants.{NoMemory}
use Rattle.refinedc_cli.specs.Command.{Means, MeanNothing, files_of}
use Rattle.refinedc_cli.specs.Delivery.{Puts, WritesFront, IsDelivered}
use Rattle.refinedc_cli.specs.Outcome.{IsOutcome, AreAlike}
use Rattle.refinedc_cli.specs.Outside.{Files, Outside, WasAskedFor, MayHold, Holds, IsUndisturbed}
use Rattle.refinedc_cli.specs.Rendering.{rendering, usage_rendering}
use Rattle.refinedc_cli.specs.Texts.{no_memory_text}

-- What a command comes to over a shelf, which is seen before and after.
pub data ComesTo (command : Command) (before after : Files) : Outcome → Type 0 where
  -- all its files were read, each once and in order: what their contents come to
  found : (contents : List (List ℕ)) {outcome : Outcome} → MayHold before.holds (files_of command) contents
      → IsOutcome command contents outcome → WasAskedFor before.asked after.asked (files_of command)
      → after.faults ≡ before.faults → ComesTo command before after outcome
  -- the shelf failed at one of them, and was asked for none behind it
  unread : (earlier later : List (List ℕ)) (name : List ℕ) → files_of command ≡ earlier ++ name ∷ later
      → WasAskedFor before.asked after.asked (earlier ++ name ∷ []) → after.faults ≡ one_more before.faults
      → ComesTo command before after (Unread name)

-- The answer to words over a shelf.
pub data IsAnswer (words : List (List ℕ)) (before after : Files) : Rendering → Type 0 where
  usage : MeanNothing words → after.faults ≡ before.faults → IsAnswer words before after usage_rendering
  outcome : (command : Command) {outcome : Outcome} → Means words command → ComesTo command before after outcome
      → IsAnswer words before after (rendering command outcome)

-- What a run comes to: it delivers the answer to its words, or memory ran out. What was written by then is a front of
-- the answer's text.
pub data Runs (words : List (List ℕ)) (before after : Outside) : Status → Type 0 where
  delivered : (answer : Rendering) {status : Status} → IsAnswer words before.files after.files answer
      → IsDelivered answer before after status → Runs words before after status
  no_memory :
      ((answer : Rendering) → IsAnswer words before.files after.files answer
      → WritesFront before.out after.out answer.out)
      → Puts before.err after.err no_memory_text → Runs words before after NoMemory

-- memory ran out, or P holds
abbrev pub UnlessNoMemory : Status → Type 0 → Type 0
UnlessNoMemory status P = (status ≡ NoMemory) ⊎ P

-- where the shelf tells the contents of the command's files, and neither it nor standard output fails, what is
-- delivered is what the contents come to, or another such outcome that says that the grammar has no tree; want of
-- memory aside
abbrev pub DeliversWhatIsTold : List (List ℕ) → Outside → Outside → Status → Type 0
DeliversWhatIsTold words before after status =
    (command : Command) (contents : List (List ℕ)) (outcome : Outcome) → Means words command
    → Holds before.files.holds (files_of command) contents → IsOutcome command contents outcome
    → IsUndisturbed before after → UnlessNoMemory status ((answered : Outcome) × IsOutcome command contents answered
    × AreAlike outcome answered × IsDelivered (rendering command answered) before after status)

-- the shelf is asked for the files of the command, each once and in order, up to one that it fails at or until memory
-- runs out; and for none where the words mean no command
pub record AsksForItsFiles (words : List (List ℕ)) (old new : Option (List (List ℕ))) : Type 0 where
  pub names : (command : Command) → Means words command
      → (asked : List (List ℕ)) × (rest : List (List ℕ)) × (files_of command ≡ asked ++ rest)
      × WasAskedFor old new asked
  pub nothing : MeanNothing words → WasAskedFor old new []
