use Rattle.caesium_ir.specs.WellFormed.{IsWellFormedBlock}
use Rattle.thread_steps.proofs.Found.{led_to, known_block}
use Rattle.thread_steps.proofs.next.find_block.Goals as goal

pub returns-clause-well_formed : goal.returns-clause-well_formed
returns-clause-well_formed c =
    let function = c.args.function.now in
    led_to (IsWellFormedBlock c.args.program.now function) c.block.result _ c.block.ensures
    (λ found is. known_block c.args.program.now function function.blocks c.args.label.now found c.requires.blocks is)
