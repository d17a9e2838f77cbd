use Rattle.std.proofs.Common.{Some}
use Rattle.c_lexer.proofs.KindTables.{updated}
use Rattle.c_cursor.proofs.meanings.Meanings.replace.Goals as goal

pub returns-in-Some : goal.returns-in-Some
returns-in-Some c =
    updated (λ k. k.items) c.args.name.now c.args.self.now.by_name (c.get_mut.follows.lender c.args.kind) (Some c.args.kind) ((c.get_mut.follows.holds c.args.kind).3 c.requires)
