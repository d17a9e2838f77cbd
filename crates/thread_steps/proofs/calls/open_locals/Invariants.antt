use Rattle.std.proofs.Common.{◌≡◌, ◌++◌, length, drop}
use Rattle.caesium_ir.specs.WellFormed.{AreWellFormedLocals}
use Rattle.thread_steps.specs.Calls.{with_locals, blocks_from}
use Rattle.thread_steps.proofs.calls.open_locals.Given as goal

-- with the rest, memory and the blocks are what they are to be
abbrev pub invariant-loop-local : goal.invariant-loop-local
invariant-loop-local l = record {
  known : AreWellFormedLocals l.table (drop l.local-index l.locals);
  memory : with_locals l.table (drop l.local-index l.locals) l.memory ≡ with_locals l.table l.locals l.fn.memory;
  blocks : l.blocks ++ blocks_from (length l.memory) (drop l.local-index l.locals)
      ≡ l.fn.blocks ++ blocks_from (length l.fn.memory) l.locals;
}
