use Rattle.std.proofs.Common.{◌≡◌, drop}
use Rattle.std.specs.Prelude.{Bool, ◌||◌, option_map}
use Rattle.thread_steps.specs.Operands.{is_nonzero}
use Rattle.thread_steps.proofs.operands.has_nonzero.Given as goal

-- what was found, or is found in the rest, is found in all
abbrev pub invariant-loop-byte : goal.invariant-loop-byte
invariant-loop-byte l =
    option_map (λ (more : Bool). l.found || more) (is_nonzero (drop l.byte-index l.bytes)) ≡ is_nonzero l.bytes
