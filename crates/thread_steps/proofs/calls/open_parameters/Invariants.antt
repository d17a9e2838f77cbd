use Rattle.std.proofs.Common.{◌≡◌, ◌+◌, ◌++◌, length, drop}
use Rattle.std.specs.Prelude.{IsTrue}
use Rattle.caesium_ir.specs.WellFormed.{AreWellFormedLocals}
use Rattle.thread_steps.specs.Calls.{are_arguments, with_arguments, blocks_from}
use Rattle.thread_steps.proofs.calls.open_parameters.Given as goal

-- with the rest, memory and the blocks are what they are to be
abbrev pub invariant-loop-i : goal.invariant-loop-i
invariant-loop-i l = record {
  known : AreWellFormedLocals l.table (drop l.i l.parameters);
  fit : IsTrue (are_arguments l.table (drop l.i l.parameters) (drop l.i l.arguments));
  memory : with_arguments l.table (drop l.i l.parameters) (drop l.i l.arguments) l.memory
      ≡ with_arguments l.table l.parameters l.arguments l.fn.memory;
  blocks : l.blocks ++ blocks_from (length l.memory) (drop l.i l.parameters)
      ≡ l.fn.blocks ++ blocks_from (length l.fn.memory) l.parameters;
  length : length l.memory ≡ length l.fn.memory + l.i;
}
