-- What reads declarations answers, with depths by that of the type that they begin with (inner).
use Rattle.std.specs.Prelude.{◌≡◌, ℕ, Bool, true, false, List, map, Option, Some, None, Result, Ok, Err}
use Rattle.c_lexer.specs.declared.keyword.Keyword.{Keyword}
use Rattle.c_lexer.specs.declared.punctuator.Punctuator.TheVariants as marks
use Rattle.c_syntax.specs.declared.declaration.InitDeclarator.{InitDeclarator}
use Rattle.c_syntax.specs.declared.declarator.Declarator.{Declarator, out-Declarator}
use Rattle.c_syntax.specs.declared.declarator.Parameter.{Parameter}
use Rattle.c_syntax.specs.declared.name.Name.{Name}
use Rattle.c_syntax.specs.declared.specifier.MemberDeclaration.{MemberDeclaration}
use Rattle.c_syntax.specs.declared.specifier.TypeSpecifier.{TypeSpecifier}
use Rattle.c_syntax.specs.Depth.{deepest, declared_depth, initialized_depth, parameter_depth}
use Rattle.c_grammar.specs.Depths.{member_depth}
use Rattle.c_grammar.specs.Input.{Input, mark}
use Rattle.c_grammar.specs.Specifiers as types
use Rattle.c_grammar.specs.Specifiers.{type_start}
use Rattle.c_grammar.specs.Reading.{Reading, Reader}
use Rattle.c_grammar.specs.DeclarationReading.{void_alone, defining}
use Rattle.c_cursor.specs.declared.deep.Deep.{Deep}
use Rattle.c_cursor.specs.declared.refusal.ParseRefusal.{ParseRefusal}
use Rattle.c_cursor.specs.Cursor.{skipped}
use Rattle.c_cursor.specs.Deep.{IsDeep}
use Rattle.c_cursor.specs.Reads.{OnlyWhere}
use Rattle.c_expressions.specs.Parts.{reader}

-- the depth of the deepest of declared types
abbrev pub declarators_depth : ℕ → List Declarator → ℕ
declarators_depth specified list = deepest (map (declared_depth specified) list)

-- the depth of the deepest of declared objects and functions
abbrev pub initializers_depth : ℕ → List InitDeclarator → ℕ
initializers_depth specified list = deepest (map (initialized_depth specified) list)

-- the depth of the deepest of parameters
abbrev pub parameters_depth : List Parameter → ℕ
parameters_depth list = deepest (map parameter_depth list)

-- the depth of the deepest of members
abbrev pub members_depth : List MemberDeclaration → ℕ
members_depth list = deepest (map member_depth list)

-- the name of a declarator
abbrev pub declared_name : Declarator → Name
declared_name declarator = let parts = out-Declarator declarator in parts.name

-- a declarator is answered, whose name it has, with the depth of its type, and the input behind it
abbrev pub ReadsDeclared : ℕ → Reading (Declarator × Name) → Result (Deep Declarator) ParseRefusal → Input → Type 0
ReadsDeclared specified reading (Ok deep) new =
    (reading ≡ Some ((deep.tree, declared_name deep.tree), new)) × IsDeep (declared_depth specified) deep
ReadsDeclared specified reading (Err refusal) new = OnlyWhere (reading ≡ None) refusal

-- whether something was found
abbrev pub is_found : {A : Type 0} → Option A → Bool
is_found None = false
is_found (Some x) = true

-- `void` stands next with the closing parenthesis behind it, or they don't
abbrev pub FindsVoidAlone : Input → Bool → Type 0
FindsVoidAlone from true = (type_start from ≡ Some (record { start = types.Void; rest = skipped from }))
    × (is_found (mark marks.CloseParenthesis (skipped from)) ≡ true)
FindsVoidAlone from false = void_alone from ≡ None

-- the types of members, in which so many definitions may nest
abbrev pub member_types : ℕ → Reader (List Keyword × TypeSpecifier)
member_types room = defining (reader 200) room
