use Rattle.std.proofs.Common.{◌≡◌, ℕ, Bool, true, false, List, [], ◌∷◌, Some, refl, subst, arith}
use Rattle.std.specs.List.{AllByRecursion}
use Rattle.std.specs.Str.{bytes_eq}
use Rattle.std.proofs.lemmas.Grind.{common_steps}
use Rattle.std.proofs.lemmas.Option.{none-some, same_Some}
use Rattle.caesium_ir.specs.declared.function.Function.{Function}
use Rattle.caesium_ir.specs.declared.program.Program.{Program}
use Rattle.caesium_ir.specs.Function.{function_named}
use Rattle.caesium_ir.specs.WellFormed.{IsWellFormedFunction}
use Rattle.caesium_text.proofs.parts.print_op.Goals as goal

-- a function that is found is one of the functions
found : (program : Program) (functions : List Function) (name : List ℕ) (one : Function)
    → AllByRecursion (IsWellFormedFunction program) functions → function_named functions name ≡ Some one
    → IsWellFormedFunction program one
found program [] name one all e = absurd (none-some one e)
found program (function ∷ functions) name one all e = by_flag (bytes_eq function.name name) refl e (found program functions name one all.1)
  where
    by_flag : (b : Bool) → bytes_eq function.name name ≡ b → function_named (function ∷ functions) name ≡ Some one
        → (function_named functions name ≡ Some one → IsWellFormedFunction program one) → IsWellFormedFunction program one
    by_flag true is found_it more = subst (IsWellFormedFunction program) (same_Some function one (rw is at found_it)) all.0
    by_flag false is found_it more = more (rw is at found_it)

pub part_of_function-requires-clause-distinct : goal.part_of_function-requires-clause-distinct
part_of_function-requires-clause-distinct c =
    let known : function_named c.args.program.now.functions c.args.function.now ≡ Some c.in-Some.found.now = grind (arith, common_steps) in
    (found c.args.program.now c.args.program.now.functions c.args.function.now c.in-Some.found.now c.requires.well_formed.functions known).distinct
