-- How a `for` begins: no expression begins with attributes.
use denote.Enum.Bare.{same_true}
use Rattle.std.proofs.Common.{◌≡◌, ℕ, suc, Bool, true, false, List, [], ◌∷◌, Option, Some, None, option_and_then, if◌then◌else◌, refl, sym, ap}
use Rattle.std.specs.Option.{is_some}
use Rattle.std.proofs.lemmas.Bool.{false≢true}
use Rattle.c_lexer.specs.contracts.punctuator.Punctuator as punctuator_type
use Rattle.c_lexer.specs.declared.punctuator.Punctuator.TheVariants as marks
use Rattle.c_lexer.specs.declared.token.Token.{Token}
use Rattle.c_lexer.specs.declared.token.TokenKind.{TokenKind}
use Rattle.c_lexer.specs.declared.token.TokenKind.TheVariants as kinds
use Rattle.c_grammar.specs.declared.names.NameEntry.{NameEntry}
use Rattle.c_grammar.specs.Input.{Input, taken_if, first_of_tokens, mark}
use Rattle.c_grammar.specs.Marks.{is_mark}
use Rattle.c_grammar.specs.Operators.{start}
use Rattle.c_grammar.specs.Reading as reading
use Rattle.c_grammar.specs.Reading.{Nested, nested, expression_with, attributes, attributes_from, begins_type}
use Rattle.c_grammar.specs.StatementReading.{begun, begun_expression, begun_declaration}
use Rattle.c_expressions.specs.Parts.{reader}
use Rattle.c_statements.specs.Productions.{begun_attributed, begun_other}

is_mark-kind : (kind : TokenKind) → is_mark marks.OpenBracket kind ≡ true → kind ≡ kinds.Punctuator marks.OpenBracket
is_mark-kind (kinds.Punctuator other) e =
    ap kinds.Punctuator (sym (same_true punctuator_type.the_type tt marks.OpenBracket other e))
is_mark-kind _ e = absurd (false≢true e)

is_taken : (kept : Bool) (rest : Input) → is_some (taken_if kept rest) ≡ true → kept ≡ true
is_taken true rest e = refl
is_taken false rest e = e

is_none : {A : Type 0} (o : Option A) → is_some o ≡ false → o ≡ None
is_none None e = refl
is_none (Some x) e = absurd (false≢true (sym e))

no-operand : (limit : ℕ) (nested : Nested) (tokens : List Token) (names : List NameEntry)
    → is_some (option_and_then (λ taken. taken_if (is_mark marks.OpenBracket taken.token.kind) taken.rest)
    (first_of_tokens tokens names)) ≡ true
    → reading.begun limit nested (record { tokens = tokens; names = names }) ≡ None
unfolding reading.begun start
no-operand limit nested [] names e = absurd (false≢true e)
no-operand limit nested (token ∷ tokens) names e =
    let kind = is_mark-kind token.kind (is_taken (is_mark marks.OpenBracket token.kind)
    (record { tokens = tokens; names = names }) e) in
    rw kind refl

no-expression : (room : ℕ) (from : Input) → is_some (mark marks.OpenBracket from) ≡ true
    → (nested 200 (suc room)).expression 0 from ≡ None
unfolding mark nested expression_with
no-expression room from e = rw (no-operand 200 (nested 200 room) from.tokens from.names e) refl

none-begun : (from : Input) → is_some (mark marks.OpenBracket from) ≡ true → begun_expression (reader 200) from ≡ None
unfolding begun_expression
none-begun from e = rw (no-expression 199 from e) refl

begun-bracket : (from : Input) → is_some (mark marks.OpenBracket from) ≡ true → mark marks.Semicolon from ≡ None
    → begun (reader 200) from ≡ begun_attributed (reader 200) from
unfolding begun begun_attributed
begun-bracket from e m = rw (m, none-begun from e) refl

begun-plain : (from : Input) → is_some (mark marks.OpenBracket from) ≡ false → mark marks.Semicolon from ≡ None
    → begun (reader 200) from
    ≡ if begins_type from then begun_declaration (reader 200) [] from else begun_expression (reader 200) from
unfolding begun attributes attributes_from
begun-plain from e m = rw (m, is_none (mark marks.OpenBracket from) e) refl

begun-by : (from : Input) (bracket : Bool) → is_some (mark marks.OpenBracket from) ≡ bracket → mark marks.Semicolon from ≡ None
    → begun (reader 200) from ≡ if bracket then begun_attributed (reader 200) from
    else if begins_type from then begun_declaration (reader 200) [] from else begun_expression (reader 200) from
begun-by from true e m = begun-bracket from e m
begun-by from false e m = begun-plain from e m

pub begun-other : (from : Input) → mark marks.Semicolon from ≡ None → begun (reader 200) from ≡ begun_other (reader 200) from
unfolding begun_other
begun-other from m = begun-by from (is_some (mark marks.OpenBracket from)) refl m
