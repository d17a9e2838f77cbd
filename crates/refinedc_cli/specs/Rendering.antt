-- The status of an outcome and its texts for the two streams (this project's own).
use Rattle.std.specs.Prelude.{ℕ, List, []}
use Rattle.refinedc_cli.specs.declared.command.Command.{Command}
use Rattle.refinedc_cli.specs.declared.outcome.Outcome.{Outcome}
use Rattle.refinedc_cli.specs.declared.outcome.Outcome.TheVariants as outcomes
use Rattle.refinedc_cli.specs.declared.rendering.Rendering.{Rendering}
use Rattle.refinedc_cli.specs.declared.status.Status.{Status}
use Rattle.refinedc_cli.specs.declared.status.Status.TheVariants.{Accepted, Refused, FileRefused, Usage, ReadFault}
use Rattle.refinedc_cli.specs.declared.status.Status.TheVariants.{Limit}
use Rattle.refinedc_cli.specs.Command.{subject_of}
use Rattle.refinedc_cli.specs.Texts.{listing_text, refused_text, fault_text, read_fault_text, limit_text, usage_text}

-- a text on standard output
abbrev pub on_out : Status → List ℕ → Rendering
on_out status text = record { status = status; out = text; err = [] }

-- a text on standard error
abbrev pub on_err : Status → List ℕ → Rendering
on_err status text = record { status = status; out = []; err = text }

-- an outcome, for the command that came to it
abbrev pub rendering : Command → Outcome → Rendering
rendering command (outcomes.Accepted lines) = on_out Accepted (listing_text lines)
rendering command (outcomes.Refused place goal) = on_out Refused (refused_text (subject_of command) place goal)
rendering command (outcomes.Faulty place fault) = on_err FileRefused (fault_text (subject_of command) place fault)
rendering command (outcomes.Unread name) = on_err ReadFault (read_fault_text name)
rendering command (outcomes.Passed limit) = on_err Limit (limit_text limit)

-- words that mean no command
abbrev pub usage_rendering : Rendering
usage_rendering = on_err Usage usage_text
