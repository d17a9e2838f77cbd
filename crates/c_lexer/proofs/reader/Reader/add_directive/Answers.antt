use Rattle.std.proofs.Common.{◌≡◌, sym, ◌∙◌, subst, IfOk, List, ℕ}
use Rattle.std.specs.Str.{bytes_eq}
use Rattle.std.specs.List.{slice_range}
use Rattle.c_lexer.specs.Directives.{directive_macro}
use Rattle.c_lexer.specs.Elements.{first_of}
use Rattle.c_lexer.specs.Scanning.Directives.{directive_in}
use Rattle.c_lexer.specs.Scanning.Names.{kind_of}
use Rattle.c_lexer.proofs.Readings.{first_of_cond, map_ok}
use Rattle.c_lexer.proofs.reader.Reader.add_directive.Goals as goal

pub returns-in-Define-clause-macros : goal.returns-in-Define-clause-macros
returns-in-Define-clause-macros c =
    let rest = c.args.rest.now in
    let old = c.args.self.now.names.macros in
    let d = c.in-Define.definition in
    subst (λ directive. IfOk c.define.result (λ _. (name : List ℕ) → kind_of c.define.new.self.macros name ≡ first_of (directive_macro (directive_in rest directive) name) (kind_of old name))) (sym c.in-Define.is)
    (map_ok c.define.result _ _ (λ _ defined name. defined name ∙ first_of_cond (bytes_eq (slice_range rest d.start d.end) name) d.kind (kind_of old name)) c.define.ensures.macros)
