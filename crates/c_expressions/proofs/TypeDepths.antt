-- How deep types are, and lists of trees that grow at their end.
use Rattle.std.proofs.Common.{◌≡◌, ℕ, suc, ◌+◌, max, List, [], ◌∷◌, ◌++◌, length, map, Option, Some, None, refl, ap, ◌∙◌, rules, arith}
use Rattle.c_lexer.specs.declared.header_type.HeaderType.{HeaderType}
use Rattle.c_syntax.specs.declared.attribute.Attribute.{Attribute}
use Rattle.c_syntax.specs.declared.name.Name.{Name}
use Rattle.c_syntax.specs.declared.specifier.IntegerType.{IntegerType}
use Rattle.c_syntax.specs.declared.specifier.RecordKind.{RecordKind}
use Rattle.c_syntax.specs.declared.specifier.TypeSpecifier.{TypeSpecifier}
use Rattle.c_syntax.specs.declared.specifier.TypeSpecifier.TheVariants as specifiers
use Rattle.c_syntax.specs.declared.specifier.EnumDefinition.{roll-EnumDefinition}
use Rattle.c_syntax.specs.declared.specifier.Enumerator.{Enumerator, roll-Enumerator}
use Rattle.c_syntax.specs.declared.expr.Expr.{Expr}
use Rattle.c_syntax.specs.declared.expr.ExprKind.{the_lemmas}
use Rattle.c_syntax.specs.Depth.{expression_depth, specifier_depth, deepest, array_depth}
use Rattle.c_grammar.specs.Depths.{type_name_depth, enumerator_depth}
use Rattle.c_grammar.specs.Expressions.{type_name}
use Rattle.c_expressions.specs.Parts.{lengths_depth, enumerators_depth}
use Rattle.c_expressions.specs.Nodes.{expressions_depth}

-- an array's depth by that of its lengths and that of its elements
pub array-depth : (ds : List ℕ) (element : ℕ) → array_depth ds element ≡ max (array_depth ds 0) (length ds + element)
array-depth [] element = omega arith
array-depth (d ∷ ds) element = let e = array-depth ds element in omega (arith, e)

pub array-depth-append : (ds : List ℕ) (d : ℕ) → array_depth (ds ++ d ∷ []) 0 ≡ max (array_depth ds 0) (length ds + 1 + d)
array-depth-append [] d = omega arith
array-depth-append (x ∷ ds) d = let e = array-depth-append ds d in omega (arith, e)

pub deepest-append : (ds : List ℕ) (d : ℕ) → deepest (ds ++ d ∷ []) ≡ max (deepest ds) d
deepest-append [] d = omega arith
deepest-append (x ∷ ds) d = let e = deepest-append ds d in omega (arith, e)

pub map-append-one : {A : Type 0} (f : A → ℕ) (xs : List A) (x : A) → map f (xs ++ x ∷ []) ≡ map f xs ++ f x ∷ []
map-append-one f [] x = refl
map-append-one f (y ∷ xs) x = ap (λ ds. f y ∷ ds) (map-append-one f xs x)

pub length-depths : {A : Type 0} (f : A → ℕ) (xs : List A) → length (map f xs) ≡ length xs
length-depths f [] = refl
length-depths f (x ∷ xs) = ap suc (length-depths f xs)

pub lengths-append : (es : List Expr) (e : Expr) → lengths_depth (es ++ e ∷ []) ≡ max (lengths_depth es) (length es + 1 + expression_depth e)
lengths-append es e =
    ap (λ ds. array_depth ds 0) (map-append-one expression_depth es e)
    ∙ array-depth-append (map expression_depth es) (expression_depth e)
    ∙ ap (λ n. max (lengths_depth es) (n + 1 + expression_depth e)) (length-depths expression_depth es)

pub enumerators-append : (es : List Enumerator) (e : Enumerator) → enumerators_depth (es ++ e ∷ []) ≡ max (enumerators_depth es) (enumerator_depth e)
enumerators-append es e = ap deepest (map-append-one enumerator_depth es e) ∙ deepest-append (map enumerator_depth es) (enumerator_depth e)

pub expressions-append : (es : List Expr) (e : Expr) → expressions_depth (es ++ e ∷ []) ≡ max (expressions_depth es) (expression_depth e)
expressions-append es e = ap deepest (map-append-one expression_depth es e) ∙ deepest-append (map expression_depth es) (expression_depth e)

named_depth : (s : TypeSpecifier) (p : ℕ) (ls : List Expr)
    → type_name_depth (type_name s p ls) ≡ array_depth (map expression_depth ls) (p + specifier_depth s)
named_depth s p ls = search (rules, the_lemmas)

pub depth-type_name : (s : TypeSpecifier) (p : ℕ) (ls : List Expr)
    → type_name_depth (type_name s p ls) ≡ max (lengths_depth ls) (length ls + (p + specifier_depth s))
depth-type_name s p ls =
    named_depth s p ls ∙ array-depth (map expression_depth ls) (p + specifier_depth s)
    ∙ ap (λ n. max (lengths_depth ls) (n + (p + specifier_depth s))) (length-depths expression_depth ls)

pub depth-Enumerator : (name : Name) (value : Expr)
    → enumerator_depth (roll-Enumerator (record { name = name; value = Some value })) ≡ expression_depth value
depth-Enumerator name value = search (rules, the_lemmas)

pub depth-Implicit : (name : Name) → enumerator_depth (roll-Enumerator (record { name = name; value = None })) ≡ 0
depth-Implicit name = search (rules, the_lemmas)

pub depth-Enumeration : (attributes : List Attribute) (tag : Option Name) (es : List Enumerator)
    → specifier_depth (specifiers.EnumDefinition (roll-EnumDefinition (record {
      attributes = attributes;
      tag = tag;
      enumerators = es;
    })))
    ≡ 1 + enumerators_depth es
depth-Enumeration attributes tag es = search (rules, the_lemmas)

pub depth-Integer-type : (type : IntegerType) → specifier_depth (specifiers.Integer type) ≡ 1
depth-Integer-type type = search (rules, the_lemmas)

pub depth-Void : specifier_depth specifiers.Void ≡ 1
depth-Void = search (rules, the_lemmas)

pub depth-Bool : specifier_depth specifiers.Bool ≡ 1
depth-Bool = search (rules, the_lemmas)

pub depth-Typedef : (name : Name) → specifier_depth (specifiers.Typedef name) ≡ 1
depth-Typedef name = search (rules, the_lemmas)

pub depth-Header : (type : HeaderType) → specifier_depth (specifiers.Header type) ≡ 1
depth-Header type = search (rules, the_lemmas)

pub depth-Record : (kind : RecordKind) (attributes : List Attribute) (tag : Name)
    → specifier_depth (specifiers.Record kind attributes tag) ≡ 1
depth-Record kind attributes tag = search (rules, the_lemmas)

pub depth-Enum : (attributes : List Attribute) (tag : Name) → specifier_depth (specifiers.Enum attributes tag) ≡ 1
depth-Enum attributes tag = search (rules, the_lemmas)

pub ruleset type_depths = (depth-type_name, depth-Enumerator, depth-Implicit, depth-Enumeration, depth-Integer-type, depth-Void, depth-Bool, depth-Typedef, depth-Header, depth-Record, depth-Enum)
