-- What reads expressions and the types in them answers, with depths (inner).
use Rattle.std.specs.Prelude.{◌≡◌, ℕ, ◌<◌, ◌≤◌, List, ◌++◌, map, Option, Some, None, Result, Ok, Err}
use Rattle.rc_text.specs.declared.place.Place.{Place}
use Rattle.c_lexer.specs.declared.keyword.Keyword.{Keyword}
use Rattle.c_syntax.specs.declared.expr.Expr.{Expr}
use Rattle.c_syntax.specs.declared.expr.ExprKind.{ExprKind}
use Rattle.c_syntax.specs.declared.specifier.Enumerator.{Enumerator}
use Rattle.c_syntax.specs.declared.specifier.TypeSpecifier.{TypeSpecifier}
use Rattle.c_syntax.specs.Depth.{expression_depth, specifier_depth, deepest, array_depth}
use Rattle.c_grammar.specs.Depths.{enumerator_depth}
use Rattle.c_grammar.specs.Input.{Input}
use Rattle.c_grammar.specs.Expressions.{node}
use Rattle.c_grammar.specs.Reading.{Reading, Reader, nested, onward, words, single_type}
use Rattle.c_grammar.specs.Reading as reading
use Rattle.c_grammar.specs.Specifiers.{is_modifier}
use Rattle.c_cursor.specs.declared.deep.Deep.{Deep}
use Rattle.c_cursor.specs.declared.refusal.ParseRefusal.{ParseRefusal}
use Rattle.c_cursor.specs.Deep.{IsDeep}
use Rattle.c_cursor.specs.Reads.{OnlyWhere}
use Rattle.c_expressions.specs.declared.parts.Begun.{Begun}
use Rattle.c_expressions.specs.declared.parts.Specified.{Specified}

-- the node is answered with its depth, which is within the limit
abbrev pub Makes : Place → ExprKind → Result (Deep Expr) ParseRefusal → Type 0
Makes place kind (Ok deep) =
    (deep.tree ≡ node place kind) × (deep.depth ≡ expression_depth (node place kind)) × (deep.depth ≤ 200)
Makes place kind (Err refusal) = OnlyWhere (200 < expression_depth (node place kind)) refusal

-- what is nested so often, in expressions of this category
abbrev pub reader : ℕ → ℕ → Reader Expr
reader room level = (nested 200 room).expression level

-- what an expression begins with is answered with its depth and its category, and the input behind it
abbrev pub ReadsBegun : Option reading.Begun → Result Begun ParseRefusal → Input → Type 0
ReadsBegun found (Ok begun) new =
    (found ≡ Some (record { tree = begun.deep.tree; level = begun.level; rest = new }))
    × IsDeep expression_depth begun.deep
ReadsBegun found (Err refusal) new = OnlyWhere (found ≡ None) refusal

-- the words and the type that a type's name or a declaration begins with are answered, with the type's depth
abbrev pub ReadsSpecified : Reading (List Keyword × TypeSpecifier) → Result Specified ParseRefusal → Input → Type 0
ReadsSpecified reading (Ok found) new =
    (reading ≡ Some ((found.words, found.specifier.tree), new)) × IsDeep specifier_depth found.specifier
ReadsSpecified reading (Err refusal) new = OnlyWhere (reading ≡ None) refusal

-- a type that is no integer type, behind these words, with the modifiers behind it
abbrev pub among : (ℕ → Reader Expr) → List Keyword → Reader (List Keyword × TypeSpecifier)
among expression before from = onward (single_type expression from) λ specifier rest.
    onward (words is_modifier rest) λ after to. Some ((before ++ after, specifier), to)

-- the depth of the constants of an enumeration
abbrev pub enumerators_depth : List Enumerator → ℕ
enumerators_depth enumerators = deepest (map enumerator_depth enumerators)

-- the depth of an array of these lengths, of elements without any
abbrev pub lengths_depth : List Expr → ℕ
lengths_depth lengths = array_depth (map expression_depth lengths) 0
