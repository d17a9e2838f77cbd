use Rattle.std.proofs.Common.{subst, sym}
use Rattle.std.proofs.lemmas.Result.{IfOk-weaker}
use Rattle.caesium_ir.specs.WellFormed.{IsWellFormed}
use Rattle.thread_steps.proofs.TestLemmas.{operations_well_formed}
use Rattle.thread_steps.proofs.tests.race_rows.two_operations.Goals as goal

pub returns : goal.returns
returns c =
    IfOk-weaker c.program_of.result _ _
    (λ program is. subst IsWellFormed (sym is)
    (operations_well_formed c.args.first c.args.second c.requires.first c.requires.second)) c.program_of.ensures
