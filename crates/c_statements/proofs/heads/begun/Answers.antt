use Rattle.c_statements.proofs.Beginnings.{begun-other}
use Rattle.c_statements.proofs.heads.begun.Goals as goal

pub returns-else-mark : goal.returns-else-mark
returns-else-mark c =
    let e = begun-other c.args.cursor.now c.if-mark.ensures.0 in let same = c.if-mark.ensures.1 in
    rw (e, ← same) c.begun_other.ensures
