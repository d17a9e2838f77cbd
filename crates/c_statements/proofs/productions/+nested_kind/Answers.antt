use Rattle.std.proofs.Common.{◌<◌, arith}
use Rattle.c_statements.specs.Parts.{position_seen}
use Rattle.c_statements.proofs.Scopes.{kind-more}
use Rattle.c_statements.proofs.productions.+nested_kind.Goals as goal

pub returns : goal.returns
returns t c =
    let some : 0 < c.args.room = omega arith in
    rw (kind-more c.args.room (position_seen c.args.position) c.args.cursor.now some) c.kind.ensures
