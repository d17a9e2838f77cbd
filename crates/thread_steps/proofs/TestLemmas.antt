-- The programs for tests are well formed.
use Rattle.std.proofs.Common.{refl, codes}
use Rattle.caesium_ir.specs.declared.operation.Op.{Op}
use Rattle.caesium_ir.specs.declared.function.Function.{Function}
use Rattle.caesium_ir.specs.declared.program.Program.{Program}
use Rattle.caesium_ir.specs.WellFormed.{IsWellFormedOp, IsWellFormedFunction, IsWellFormed}
use Rattle.thread_steps.specs.TestPrograms.{operation_function, operations_program}

pub operations_well_formed : (first second : Op) →
    ((program : Program) (function : Function) → IsWellFormedOp program function first) →
    ((program : Program) (function : Function) → IsWellFormedOp program function second) →
    IsWellFormed (operations_program first second)
operations_well_formed first second one other =
    let program = operations_program first second in
    let a : IsWellFormedFunction program (operation_function (codes "a") first) = record {
      result = tt;
      parameters = tt;
      locals = tt;
      distinct_locals = refl;
      distinct = refl;
      blocks = (record { operations = (one program _, tt); end = tt }, tt);
    } in
    let b : IsWellFormedFunction program (operation_function (codes "b") second) = record {
      result = tt;
      parameters = tt;
      locals = tt;
      distinct_locals = refl;
      distinct = refl;
      blocks = (record { operations = (other program _, tt); end = tt }, tt);
    } in
    record { distinct_tags = refl; distinct = refl; functions = (a, (b, tt)) }
