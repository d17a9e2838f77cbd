use Rattle.std.proofs.Common.{◌≡◌, drop}
use Rattle.caesium_ir.specs.Function.{function_named}
use Rattle.caesium_ir.proofs.program.first_named.Given as goal

-- the first among what is left is the first of all
abbrev pub invariant-loop-function : goal.invariant-loop-function
invariant-loop-function l =
    function_named (drop l.function-index l.functions) l.name ≡ function_named l.functions l.name
