-- How the body of a function is read, with its scope still open (inner).
use Rattle.std.specs.Prelude.{◌≡◌, List, Option, Some, None, Result, Ok, Err, option_and_then}
use Rattle.rc_text.specs.declared.place.Place.{Place}
use Rattle.c_syntax.specs.declared.declarator.FunctionDeclarator.{FunctionDeclarator}
use Rattle.c_syntax.specs.declared.specifier.TypeSpecifier.{TypeSpecifier}
use Rattle.c_syntax.specs.declared.stmt.StmtKind.TheVariants as statements
use Rattle.c_syntax.specs.declared.unit.ItemKind.{ItemKind}
use Rattle.c_syntax.specs.declared.unit.ItemKind.TheVariants as items
use Rattle.c_lexer.specs.declared.punctuator.Punctuator.TheVariants as marks
use Rattle.c_syntax.specs.declared.unit.Item.{Item}
use Rattle.c_grammar.specs.Input.{Input, mark}
use Rattle.c_grammar.specs.FileReading.{item}
use Rattle.c_grammar.specs.Statements.{outermost, place_of}
use Rattle.c_grammar.specs.Grammar.{bare_statement}
use Rattle.c_grammar.specs.Reading.{Reader, onward, turns, attributes}
use Rattle.c_grammar.specs.StatementReading.{children_from, kind_at}
use Rattle.c_cursor.specs.declared.refusal.ParseRefusal.{ParseRefusal}
use Rattle.c_cursor.specs.Cursor.{skipped}
use Rattle.c_cursor.specs.Reads.{OnlyWhere}
use Rattle.c_expressions.specs.Parts.{reader}

-- a function with its body, behind the opening brace that stands at this place
unfoldable pub with_body : TypeSpecifier → FunctionDeclarator → Place → Reader ItemKind
with_body specifier tree place start =
    onward (children_from (reader 200) (kind_at (reader 200) 200) outermost (turns start) start) λ children to.
    Some (
      items.Function (record {
        specifier = specifier;
        declarator = tree;
        body = bare_statement place (statements.Compound children);
      }),
      to,
    )

-- a definition or declaration at file scope with its attributes
unfoldable pub one_item : Reader Item
one_item from = onward (attributes from) λ list start. option_and_then (λ place. onward (item 200 start) λ kind to.
    Some (record { place = place; attributes = list; kind = kind }, to)) (place_of start)

-- what is found is answered, and an error only where nothing is, want of memory aside
abbrev pub Finds : {A : Type 0} → Option A → Result A ParseRefusal → Type 0
Finds found (Ok x) = found ≡ Some x
Finds found (Err refusal) = OnlyWhere (found ≡ None) refusal

-- the next token opens a body at this place, or doesn't
abbrev pub BeginsBody : Input → Option Place → Type 0
BeginsBody from (Some place) = (mark marks.OpenBrace from ≡ Some (skipped from)) × (place_of from ≡ Some place)
BeginsBody from None = mark marks.OpenBrace from ≡ None
