use Rattle.layouts.proofs.TableLemmas.{kept_positive, known_inside}
use Rattle.layouts.proofs.table.align_of.Goals as goal

pub returns-in-Struct-clause-positive : goal.returns-in-Struct-clause-positive
returns-in-Struct-clause-positive c =
    kept_positive c.table.inside.entries.items c.in-Struct.number c.index.result.now c.table.invariant
    (known_inside c.table.inside.entries.items c.args.layout c.in-Struct.number (rw c.table.view_is c.requires)
    c.in-Struct.is)
    c.index.ensures
