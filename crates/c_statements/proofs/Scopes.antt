-- A keyword or a punctuator leaves the names in scope as they are.
use Rattle.std.proofs.Common.{◌≡◌, ℕ, zero, suc, ◌-◌, ◌<◌, Bool, true, false, List, [], ◌∷◌, Some, option_and_then, refl, sym, ap, arith}
use Rattle.std.proofs.lemmas.Option.{none-some, same_Some}
use Rattle.c_lexer.specs.declared.keyword.Keyword.{Keyword}
use Rattle.c_lexer.specs.declared.keyword.Keyword.TheVariants as words
use Rattle.c_lexer.specs.declared.punctuator.Punctuator.{Punctuator}
use Rattle.c_lexer.specs.declared.punctuator.Punctuator.TheVariants as marks
use Rattle.c_lexer.specs.declared.token.Token.{Token}
use Rattle.c_syntax.specs.declared.stmt.StmtKind.TheVariants as kinds
use Rattle.c_grammar.specs.declared.names.NameEntry.{NameEntry}
use Rattle.c_grammar.specs.Declarations.{under}
use Rattle.c_grammar.specs.Marks.{is_mark, is_keyword}
use Rattle.c_grammar.specs.Input.{Input, Taken, taken_if, first_of_tokens, mark}
use Rattle.c_grammar.specs.Reading.{onward, turns}
use Rattle.c_grammar.specs.Statements.{Position, keyword}
use Rattle.c_grammar.specs.StatementReading.{kind_at, children_from, if_behind, switch_behind, while_behind, do_behind}
use Rattle.c_grammar.specs.StatementReading.{for_behind, kind_with}
use Rattle.c_expressions.specs.Parts.{reader}
use Rattle.c_statements.specs.Productions.{compound_behind}

-- ---- the names behind a token

if-names : (kept : Bool) (rest to : Input) → taken_if kept rest ≡ Some to → to.names ≡ rest.names
if-names true rest to e = ap (λ (i : Input). i.names) (sym (same_Some rest to e))
if-names false rest to e = absurd (none-some to e)

behind-names : (tokens : List Token) (names : List NameEntry) (kept : Taken → Bool) (to : Input)
    → option_and_then (λ taken. taken_if (kept taken) taken.rest) (first_of_tokens tokens names) ≡ Some to → to.names ≡ names
behind-names [] names kept to e = absurd (none-some to e)
behind-names (token ∷ tokens) names kept to e =
    if-names (kept (record { token = token; rest = record { tokens = tokens; names = names } }))
    (record { tokens = tokens; names = names }) to e

pub keyword-names : (word : Keyword) (from to : Input) → keyword word from ≡ Some to → to.names ≡ from.names
unfolding keyword
keyword-names word from to e = behind-names from.tokens from.names (λ taken. is_keyword word taken.token.kind) to e

pub mark-names : (punctuator : Punctuator) (from to : Input) → mark punctuator from ≡ Some to → to.names ≡ from.names
unfolding mark
mark-names punctuator from to e = behind-names from.tokens from.names (λ taken. is_mark punctuator taken.token.kind) to e

-- ---- statements by what stands before their keyword

pub if-same : (room : ℕ) (position : Position) (from outer : Input) → keyword words.If from ≡ Some outer
    → if_behind (reader 200) (kind_at (reader 200) room) position from outer
    ≡ if_behind (reader 200) (kind_at (reader 200) room) position outer outer
unfolding if_behind
if-same room position from outer e =
    ap (λ names. if_behind (reader 200) (kind_at (reader 200) room) position (record { tokens = from.tokens; names = names }) outer)
    (sym (keyword-names words.If from outer e))

pub switch-same : (room : ℕ) (position : Position) (from outer : Input) → keyword words.Switch from ≡ Some outer
    → switch_behind (reader 200) (kind_at (reader 200) room) position from outer
    ≡ switch_behind (reader 200) (kind_at (reader 200) room) position outer outer
unfolding switch_behind
switch-same room position from outer e =
    ap (λ names. switch_behind (reader 200) (kind_at (reader 200) room) position (record { tokens = from.tokens; names = names }) outer)
    (sym (keyword-names words.Switch from outer e))

pub while-same : (room : ℕ) (from outer : Input) → keyword words.While from ≡ Some outer
    → while_behind (reader 200) (kind_at (reader 200) room) from outer
    ≡ while_behind (reader 200) (kind_at (reader 200) room) outer outer
unfolding while_behind
while-same room from outer e =
    ap (λ names. while_behind (reader 200) (kind_at (reader 200) room) (record { tokens = from.tokens; names = names }) outer)
    (sym (keyword-names words.While from outer e))

pub do-same : (room : ℕ) (from outer : Input) → keyword words.Do from ≡ Some outer
    → do_behind (reader 200) (kind_at (reader 200) room) from outer
    ≡ do_behind (reader 200) (kind_at (reader 200) room) outer outer
unfolding do_behind
do-same room from outer e =
    ap (λ names. do_behind (reader 200) (kind_at (reader 200) room) (record { tokens = from.tokens; names = names }) outer)
    (sym (keyword-names words.Do from outer e))

pub for-same : (room : ℕ) (from outer : Input) → keyword words.For from ≡ Some outer
    → for_behind (reader 200) (kind_at (reader 200) room) from outer
    ≡ for_behind (reader 200) (kind_at (reader 200) room) outer outer
unfolding for_behind
for-same room from outer e =
    ap (λ names. for_behind (reader 200) (kind_at (reader 200) room) (record { tokens = from.tokens; names = names }) outer)
    (sym (keyword-names words.For from outer e))

pub compound-same : (room : ℕ) (position : Position) (from inner : Input) → mark marks.OpenBrace from ≡ Some inner
    → (onward (children_from (reader 200) (kind_at (reader 200) room) position (turns inner) inner) λ children to.
    Some (kinds.Compound children, under from to))
    ≡ compound_behind (reader 200) (kind_at (reader 200) room) position inner
unfolding compound_behind
compound-same room position from inner e =
    ap (λ names. onward (children_from (reader 200) (kind_at (reader 200) room) position (turns inner) inner) λ children to.
    Some (kinds.Compound children, record { tokens = to.tokens; names = names }))
    (sym (mark-names marks.OpenBrace from inner e))

pub ruleset same = (if-same, switch-same, while-same, do-same, for-same, compound-same)

-- ---- statements by the room that is left

pub kind-more : (room : ℕ) (position : Position) (from : Input) → 0 < room → kind_at (reader 200) room position from
    ≡ kind_with (reader 200) (kind_at (reader 200) (room - 1)) position from
unfolding kind_at
kind-more zero position from some = absurd (omega arith)
kind-more (suc room) position from some = let e : suc room - 1 ≡ room = omega arith in rw e refl
