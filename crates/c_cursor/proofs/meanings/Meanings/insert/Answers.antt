use Rattle.std.proofs.Common.{ap, ◌∙◌, cond, Some}
use Rattle.std.specs.Str.{bytes_eq}
use Rattle.c_lexer.proofs.KindTables.{updated}
use Rattle.c_cursor.specs.Scope.{kind_of}
use Rattle.c_cursor.proofs.meanings.Meanings.insert.Goals as goal

pub returns-clause-ok : goal.returns-clause-ok
returns-clause-ok c = λ other.
    let key = c.in_ok-key.key in
    updated (λ k. k.items) key.items c.args.self.now.by_name c.insert.new.self (Some c.args.kind) c.in_ok-insert.ensures.updates other
    ∙ ap (λ l. cond (bytes_eq l other) (Some c.args.kind) (kind_of c.args.self.now other)) c.in_ok-key.ensures.items
