-- Functions at file scope: what is in scope behind them.
use Rattle.std.proofs.Common.{◌≡◌, ℕ, ◌-◌, true, Option, Some, None, length, drop, List, refl, sym, ap, subst, ◌∙◌}
use Rattle.std.specs.List.{list_all}
use Rattle.std.proofs.lemmas.Option.{none-some, some_pair_parts}
use Rattle.rc_text.specs.declared.place.Place.{Place}
use Rattle.c_lexer.specs.declared.punctuator.Punctuator.TheVariants as marks
use Rattle.c_syntax.specs.declared.declarator.FunctionDeclarator.{FunctionDeclarator}
use Rattle.c_syntax.specs.declared.specifier.TypeSpecifier.{TypeSpecifier}
use Rattle.c_syntax.specs.declared.stmt.StmtKind.TheVariants as statements
use Rattle.c_syntax.specs.declared.unit.ItemKind.{ItemKind}
use Rattle.c_syntax.specs.declared.unit.ItemKind.TheVariants as items
use Rattle.c_grammar.specs.declared.names.NameKind.TheVariants as names
use Rattle.c_grammar.specs.Input.{Input, mark, declares}
use Rattle.c_grammar.specs.Declarations.{under, behind_function}
use Rattle.c_grammar.specs.Statements.{outermost, place_of}
use Rattle.c_grammar.specs.Grammar.{is_named, bare_statement}
use Rattle.c_grammar.specs.Reading.{Reading, onward, turns}
use Rattle.c_grammar.specs.DeclarationReading.{function_declared}
use Rattle.c_grammar.specs.StatementReading.{children_from, kind_at}
use Rattle.c_grammar.specs.FileReading.{functions, functions_behind, defined, function_body}
use Rattle.c_grammar.proofs.Kept.{Extends, left, through, declares-kept, mark-kept}
use Rattle.c_grammar.proofs.DeclarationsKept.{read_function-kept}
use Rattle.c_grammar.proofs.StatementsKept.{read_children-kept}
use Rattle.c_cursor.specs.Cursor.{skipped}
use Rattle.c_expressions.specs.Parts.{reader}
use Rattle.c_parser.specs.Items.{with_body}

-- what was read, where what goes on behind it was
into_onward : {A B P : Type 0} (r : Reading A) (f : A → Input → Option B) (y : B) → onward r f ≡ Some y
    → ((x : A) (rest : Input) → r ≡ Some (x, rest) → f x rest ≡ Some y → P) → P
into_onward None f y e k = absurd (none-some y e)
into_onward (Some x) f y e k = k x.0 x.1 refl e

-- the scope as a function's end leaves it
closes : (behind rest : Input) (scope : ℕ) → Extends behind rest → scope ≡ length behind.names
    → drop (length rest.names - scope) rest.names ≡ behind.names
closes behind rest scope extends e = rw e (ap (λ (i : Input). i.names) (left extends))

-- a function with a body
pub ended : (s : TypeSpecifier) (behind inner start stop : Input) (tree : FunctionDeclarator) (place : Place) (kind : ItemKind)
    (scope : ℕ) → function_declared (reader 200) behind ≡ Some (tree, inner)
    → mark marks.OpenBrace (declares inner tree.name.text names.Ordinary) ≡ Some start
    → place_of (declares inner tree.name.text names.Ordinary) ≡ Some place
    → list_all (λ parameter. is_named parameter.declarator) tree.parameters ≡ true
    → with_body s tree place start ≡ Some (kind, stop) → scope ≡ length behind.names
    → functions 200 s behind ≡ Some (
      kind,
      declares
          (record { tokens = stop.tokens; names = drop (length stop.names - scope) stop.names }) tree.name.text names.Ordinary,
    )
unfolding functions defined function_body with_body
ended s behind inner start stop tree place kind scope f m p n b e =
    into_onward (children_from (reader 200) (kind_at (reader 200) 200) outermost (turns start) start) _ _ b λ children to c same.
    let parts = some_pair_parts (items.Function (record {
      specifier = s;
      declarator = tree;
      body = bare_statement place (statements.Compound children);
    })) kind to stop same in
    let extends : Extends behind to = through (read_function-kept 200 200 behind tree inner f)
    (through (declares-kept inner tree.name.text names.Ordinary) (through
    (mark-kept marks.OpenBrace (declares inner tree.name.text names.Ordinary) start m)
    (read_children-kept 200 200 200 outermost (turns start) start children to c))) in
    rw (← parts.0, ← parts.1, f, m, n, p, c, closes behind to scope extends e) refl

-- a function without a body
pub declared_alone : (s : TypeSpecifier) (behind inner : Input) (tree : FunctionDeclarator) (scope : ℕ)
    → function_declared (reader 200) behind ≡ Some (tree, inner)
    → mark marks.OpenBrace (declares inner tree.name.text names.Ordinary) ≡ None → scope ≡ length behind.names
    → functions 200 s behind ≡ functions_behind 200 s tree (declares
    (record {
      tokens = inner.tokens;
      names = drop (length (declares inner tree.name.text names.Ordinary).names - scope) (declares inner tree.name.text names.Ordinary).names;
    }) tree.name.text names.Ordinary)
unfolding functions
declared_alone s behind inner tree scope f m e =
    let extends : Extends behind (declares inner tree.name.text names.Ordinary) =
    through (read_function-kept 200 200 behind tree inner f) (declares-kept inner tree.name.text names.Ordinary) in
    rw (f, m, closes behind (declares inner tree.name.text names.Ordinary) scope extends e) refl

-- the same by the steps of the code
pub ended_by : (s : TypeSpecifier) (behind inner shown start stop closed after : Input) (tree : FunctionDeclarator) (place : Place)
    (kind : ItemKind) (scope : ℕ) (name again : List ℕ) → function_declared (reader 200) behind ≡ Some (tree, inner)
    → name ≡ tree.name.text → shown ≡ declares inner name names.Ordinary
    → mark marks.OpenBrace shown ≡ Some (skipped shown) → place_of shown ≡ Some place
    → list_all (λ parameter. is_named parameter.declarator) tree.parameters ≡ true → start ≡ skipped shown
    → with_body s tree place start ≡ Some (kind, stop) → scope ≡ length behind.names
    → closed ≡ record { tokens = stop.tokens; names = drop (length stop.names - scope) stop.names }
    → again ≡ tree.name.text → after ≡ declares closed again names.Ordinary → functions 200 s behind ≡ Some (kind, after)
ended_by s behind inner shown start stop closed after tree place kind scope name again f n d m p all g b e i n2 j =
    let shown_is : shown ≡ declares inner tree.name.text names.Ordinary =
    d ∙ ap (λ (t : List ℕ). declares inner t names.Ordinary) n in
    let last : after ≡ declares (record { tokens = stop.tokens; names = drop (length stop.names - scope) stop.names }) tree.name.text names.Ordinary =
    j ∙ ap (λ (t : List ℕ). declares closed t names.Ordinary) n2 ∙ ap (λ (x : Input). declares x tree.name.text names.Ordinary) i in
    subst (λ (x : Input). functions 200 s behind ≡ Some (kind, x)) (sym last)
    (ended s behind inner start stop tree place kind scope f
    (subst (λ (x : Input). mark marks.OpenBrace x ≡ Some start) shown_is (m ∙ ap (λ (x : Input). Some x) (sym g)))
    (subst (λ (x : Input). place_of x ≡ Some place) shown_is p) all b e)

pub alone_by : (s : TypeSpecifier) (behind inner shown closed after : Input) (tree : FunctionDeclarator) (scope : ℕ)
    (name again : List ℕ) → function_declared (reader 200) behind ≡ Some (tree, inner) → name ≡ tree.name.text
    → shown ≡ declares inner name names.Ordinary → mark marks.OpenBrace shown ≡ None → scope ≡ length behind.names
    → closed ≡ record { tokens = shown.tokens; names = drop (length shown.names - scope) shown.names }
    → again ≡ tree.name.text → after ≡ declares closed again names.Ordinary
    → functions 200 s behind ≡ functions_behind 200 s tree after
alone_by s behind inner shown closed after tree scope name again f n d m e i n2 j =
    let shown_is : shown ≡ declares inner tree.name.text names.Ordinary =
    d ∙ ap (λ (t : List ℕ). declares inner t names.Ordinary) n in
    let last : after ≡ declares (record {
      tokens = inner.tokens;
      names = drop (length (declares inner tree.name.text names.Ordinary).names - scope) (declares inner tree.name.text names.Ordinary).names;
    }) tree.name.text names.Ordinary =
    j ∙ ap (λ (t : List ℕ). declares closed t names.Ordinary) n2
    ∙ ap (λ (x : Input). declares x tree.name.text names.Ordinary) i
    ∙ ap (λ (x : Input). declares (record { tokens = x.tokens; names = drop (length x.names - scope) x.names }) tree.name.text names.Ordinary) shown_is in
    subst (λ (x : Input). functions 200 s behind ≡ functions_behind 200 s tree x) (sym last)
    (declared_alone s behind inner tree scope f
    (subst (λ (x : Input). mark marks.OpenBrace x ≡ None) shown_is m) e)
