-- How deep definitions and declarations at file scope are, by their parts.
use Rattle.std.proofs.Common.{◌≡◌, ℕ, ◌+◌, max, List, [], ◌∷◌, map, rules, refl, ap}
use Rattle.rc_text.specs.declared.place.Place.{Place}
use Rattle.c_syntax.specs.declared.declaration.DeclarationKind.TheVariants as kinds
use Rattle.c_syntax.specs.declared.declaration.InitDeclarator.{InitDeclarator}
use Rattle.c_syntax.specs.declared.declaration.InitDeclarator.TheVariants as declarators
use Rattle.c_syntax.specs.declared.declarator.Declarator.{Declarator}
use Rattle.c_syntax.specs.declared.declarator.FunctionDeclarator.{FunctionDeclarator}
use Rattle.c_syntax.specs.declared.specifier.TypeSpecifier.{TypeSpecifier}
use Rattle.c_syntax.specs.declared.stmt.Stmt.{Stmt}
use Rattle.c_syntax.specs.declared.stmt.StmtKind.{the_lemmas}
use Rattle.c_syntax.specs.declared.stmt.StmtKind.TheVariants as statements
use Rattle.c_syntax.specs.declared.unit.ItemKind.TheVariants as items
use Rattle.c_syntax.specs.Depth.{specifier_depth, statement_depth, function_depth, initialized_depth, item_depth, deepest, declared_depth}
use Rattle.c_grammar.specs.Declarations.{declaration}
use Rattle.c_grammar.specs.Grammar.{bare_statement}
use Rattle.c_declarations.specs.Parts.{declarators_depth, initializers_depth}
use Rattle.c_statements.specs.Parts.{statements_depth}

pub depth-functions : (s : TypeSpecifier) (tree : FunctionDeclarator) (others : List InitDeclarator)
    → item_depth (items.Declaration (declaration s (kinds.Names (declarators.Function tree ∷ others))))
    ≡ max (specifier_depth s) (max (function_depth (specifier_depth s) tree) (initializers_depth (specifier_depth s) others))
depth-functions s tree others = refl

pub depth-typedefs : (s : TypeSpecifier) (list : List Declarator)
    → item_depth (items.Declaration (declaration s (kinds.Typedef list)))
    ≡ max (specifier_depth s) (declarators_depth (specifier_depth s) list)
depth-typedefs s list = refl

pub depth-tag : (s : TypeSpecifier) → item_depth (items.Declaration (declaration s kinds.TypeOnly)) ≡ max (specifier_depth s) 0
depth-tag s = refl

body-depth : (place : Place) (children : List Stmt)
    → statement_depth (bare_statement place (statements.Compound children)) ≡ max (1 + statements_depth children) 1
body-depth place children = search (rules, the_lemmas)

pub depth-definition : (s : TypeSpecifier) (tree : FunctionDeclarator) (place : Place) (children : List Stmt)
    → item_depth (items.Function (record { specifier = s; declarator = tree; body = bare_statement place (statements.Compound children) }))
    ≡ max (function_depth (specifier_depth s) tree) (max (1 + statements_depth children) 1)
depth-definition s tree place children = ap (λ n. max (function_depth (specifier_depth s) tree) n) (body-depth place children)

pub ruleset item_depths = (depth-functions, depth-typedefs, depth-tag, depth-definition)
