use Rattle.std.proofs.Common.{None}
use Rattle.c_lexer.proofs.KindTables.{updated}
use Rattle.c_cursor.proofs.meanings.Meanings.remove.Goals as goal

pub returns : goal.returns
returns c = updated (λ k. k.items) c.args.name.now c.args.self.now.by_name c.remove.new.self None c.remove.ensures.updates
