-- How deep declared types are, and lists of them that grow at their end.
use Rattle.std.proofs.Common.{◌≡◌, ℕ, ◌+◌, max, List, [], ◌∷◌, ◌++◌, length, map, refl, ap, ◌∙◌, rules}
use Rattle.c_syntax.specs.declared.attribute.Attribute.{Attribute}
use Rattle.c_syntax.specs.declared.name.Name.{Name}
use Rattle.c_syntax.specs.declared.declaration.InitDeclarator.{InitDeclarator}
use Rattle.c_syntax.specs.declared.declarator.Declarator.{Declarator}
use Rattle.c_syntax.specs.declared.declarator.Parameter.{Parameter}
use Rattle.c_syntax.specs.declared.expr.Expr.{Expr}
use Rattle.c_syntax.specs.declared.expr.ExprKind.{the_lemmas}
use Rattle.c_syntax.specs.declared.specifier.MemberDeclaration.{MemberDeclaration}
use Rattle.c_syntax.specs.declared.specifier.RecordKind.{RecordKind}
use Rattle.c_syntax.specs.declared.specifier.TypeSpecifier.{TypeSpecifier}
use Rattle.c_syntax.specs.declared.specifier.TypeSpecifier.TheVariants as specifiers
use Rattle.c_syntax.specs.Depth.{expression_depth, specifier_depth, declared_depth, initialized_depth, deepest}
use Rattle.c_syntax.specs.Depth.{array_depth, parameter_type_depth, parameter_depth}
use Rattle.c_grammar.specs.Depths.{member_depth, declarator_depth}
use Rattle.c_grammar.specs.Declarations.{declarator, unnamed_parameter, definition, member_declaration}
use Rattle.c_expressions.specs.Parts.{lengths_depth}
use Rattle.c_expressions.proofs.TypeDepths.{array-depth, deepest-append, map-append-one, length-depths}
use Rattle.c_declarations.specs.Parts.{declared_name, declarators_depth, initializers_depth}
use Rattle.c_declarations.specs.Parts.{parameters_depth, members_depth}

-- the depth of a type by that of its arrays' lengths
pub array-of : (ls : List Expr) (element : ℕ)
    → array_depth (map expression_depth ls) element ≡ max (lengths_depth ls) (length ls + element)
array-of ls element =
    array-depth (map expression_depth ls) element
    ∙ ap (λ n. max (lengths_depth ls) (n + element)) (length-depths expression_depth ls)

-- one more tree at the end of a list
pub deepest-more : {A : Type 0} (f : A → ℕ) (xs : List A) (x : A)
    → deepest (map f (xs ++ x ∷ [])) ≡ max (deepest (map f xs)) (f x)
deepest-more f xs x = ap deepest (map-append-one f xs x) ∙ deepest-append (map f xs) (f x)

pub declarators-more : (s : ℕ) (ds : List Declarator) (d : Declarator)
    → declarators_depth s (ds ++ d ∷ []) ≡ max (declarators_depth s ds) (declared_depth s d)
declarators-more s ds d = deepest-more (declared_depth s) ds d

pub initializers-more : (s : ℕ) (ds : List InitDeclarator) (d : InitDeclarator)
    → initializers_depth s (ds ++ d ∷ []) ≡ max (initializers_depth s ds) (initialized_depth s d)
initializers-more s ds d = deepest-more (initialized_depth s) ds d

pub parameters-more : (ps : List Parameter) (p : Parameter)
    → parameters_depth (ps ++ p ∷ []) ≡ max (parameters_depth ps) (parameter_depth p)
parameters-more ps p = deepest-more parameter_depth ps p

pub members-more : (ms : List MemberDeclaration) (m : MemberDeclaration)
    → members_depth (ms ++ m ∷ []) ≡ max (members_depth ms) (member_depth m)
members-more ms m = deepest-more member_depth ms m

pub depth-declarator : (s p : ℕ) (name : Name) (ls : List Expr)
    → declared_depth s (declarator p name ls) ≡ array_depth (map expression_depth ls) (p + s)
depth-declarator s p name ls = search (rules, the_lemmas)

pub name-declarator : (p : ℕ) (name : Name) (ls : List Expr) → declared_name (declarator p name ls) ≡ name
name-declarator p name ls = search (rules, the_lemmas)

pub depth-unnamed : (s p : ℕ) (ls : List Expr)
    → parameter_type_depth s (unnamed_parameter p ls) ≡ array_depth (map expression_depth ls) (p + s)
depth-unnamed s p ls = search (rules, the_lemmas)

pub depth-definition : (kind : RecordKind) (attributes : List Attribute) (tag : Name) (members : List MemberDeclaration)
    → specifier_depth (specifiers.RecordDefinition (definition kind attributes tag members)) ≡ 1 + members_depth members
depth-definition kind attributes tag members = search (rules, the_lemmas)

pub depth-tag : (kind : RecordKind) (attributes : List Attribute) (tag : Name)
    → specifier_depth (specifiers.Record kind attributes tag) ≡ 1
depth-tag kind attributes tag = search (rules, the_lemmas)

pub depth-members : (attributes : List Attribute) (s : TypeSpecifier) (ds : List Declarator)
    → member_depth (member_declaration attributes s ds)
    ≡ max (specifier_depth s) (deepest (map (λ f. f (specifier_depth s)) (map declarator_depth ds)))
depth-members attributes s ds = search (rules, the_lemmas)

depth-folded : (s : ℕ) (d : Declarator) → declarator_depth d s ≡ declared_depth s d
depth-folded s d = search (rules, the_lemmas)

pub ruleset depths = (array-of, depth-declarator, name-declarator, depth-unnamed, depth-definition, depth-tag)

folded-map : (s : ℕ) (ds : List Declarator) → map (λ f. f s) (map declarator_depth ds) ≡ map (declared_depth s) ds
folded-map s [] = refl
folded-map s (d ∷ ds) = let one = depth-folded s d in let others = folded-map s ds in cc

pub depth-member : (attributes : List Attribute) (s : TypeSpecifier) (ds : List Declarator)
    → member_depth (member_declaration attributes s ds)
    ≡ max (specifier_depth s) (declarators_depth (specifier_depth s) ds)
depth-member attributes s ds =
    depth-members attributes s ds
    ∙ ap (λ depths. max (specifier_depth s) (deepest depths)) (folded-map (specifier_depth s) ds)

pub ruleset member_depths = depth-member
