use Rattle.std.proofs.Common.{◌≡◌, drop}
use Rattle.caesium_ir.specs.WellFormed.{AreWellFormedLocals}
use Rattle.thread_steps.specs.Calls.{are_arguments}
use Rattle.thread_steps.proofs.calls.are_arguments.Given as goal

-- the rest decides for all
abbrev pub invariant-loop-i : goal.invariant-loop-i
invariant-loop-i l = record {
  known : AreWellFormedLocals l.table (drop l.i l.parameters);
  rest : are_arguments l.table (drop l.i l.parameters) (drop l.i l.arguments)
      ≡ are_arguments l.table l.parameters l.arguments;
}
