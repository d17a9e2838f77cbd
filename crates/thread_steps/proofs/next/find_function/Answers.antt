use Rattle.caesium_ir.specs.WellFormed.{IsWellFormedFunction}
use Rattle.thread_steps.proofs.Found.{led_to, known_function}
use Rattle.thread_steps.proofs.next.find_function.Goals as goal

pub returns-clause-well_formed : goal.returns-clause-well_formed
returns-clause-well_formed c =
    let program = c.args.program.now in
    led_to (IsWellFormedFunction program) c.function.result _ c.function.ensures
    (λ found is. known_function program program.functions c.args.name.now found c.requires.functions is)
