-- Each expression and type takes at least one token, and is at least one node.
use Rattle.std.proofs.Common.{◌≡◌, ℕ, ◌+◌, ◌≤◌, ◌<◌, List, arith}
use Rattle.c_lexer.specs.declared.keyword.Keyword.{Keyword}
use Rattle.c_syntax.specs.declared.specifier.TypeSpecifier.{TypeSpecifier}
use Rattle.c_syntax.specs.declared.specifier.Enumerator.{Enumerator}
use Rattle.c_syntax.specs.declared.expr.Expr.{Expr}
use Rattle.c_syntax.specs.declared.expr.TypeName.{TypeName}
use Rattle.c_syntax.specs.Depth.{expression_depth}
use Rattle.c_grammar.specs.Input.{Input}
use Rattle.c_grammar.specs.Expressions as grammar
use Rattle.c_grammar.specs.Expressions.{Expression, Arguments, ArgumentList, Lengths, TypeNamed, Specified, SingleType, Enumerators, Constant}
use Rattle.c_grammar.specs.Reading.{turns}
use Rattle.c_grammar.proofs.Depths.{depth-Integer, depth-Character, depth-NullPointer, depth-Name, depth-Parenthesized, depth-Subscript, depth-Call, depth-Atomic, depth-Member, depth-PointerMember, depth-Postfix, depth-Prefix, depth-Unary, depth-SizeOfExpr, depth-SizeOfType, depth-AlignOf, depth-Cast, depth-Binary, depth-Logical, depth-Conditional, depth-Assignment, depth-Comma}
use Rattle.c_grammar.proofs.Terminals.{mark-turns, identifier-turns, start-turns, behind-turns, type_start-turns}
use Rattle.c_grammar.proofs.AttributesRead.{attributes-turns}
use Rattle.c_grammar.proofs.TypesRead.{words-turns, pointers-turns}

mutual
  pub expression-turns : {level : ℕ} {from : Input} {tree : Expr} {to : Input} → Expression level from tree to → turns to < turns from
  expression-turns (grammar.Expression.looser e) = expression-turns e
  expression-turns (grammar.Expression.integer {from = from} s) = omega (arith, start-turns from _ s)
  expression-turns (grammar.Expression.character {from = from} s) = omega (arith, start-turns from _ s)
  expression-turns (grammar.Expression.null_pointer {from = from} s) = omega (arith, start-turns from _ s)
  expression-turns (grammar.Expression.name {from = from} s) = omega (arith, start-turns from _ s)
  expression-turns (grammar.Expression.parenthesized {from = from} {behind = behind} {to = to} s e m) =
      omega (arith, start-turns from _ s, expression-turns e, mark-turns _ behind to m)
  expression-turns (grammar.Expression.call {from = from} {behind = behind} {inner = inner} s m a) =
      omega (arith, start-turns from _ s, mark-turns _ behind inner m, arguments-turns a)
  expression-turns (grammar.Expression.atomic {from = from} {behind = behind} {inner = inner} s m a) =
      omega (arith, start-turns from _ s, mark-turns _ behind inner m, arguments-turns a)
  expression-turns (grammar.Expression.subscript {behind = behind} {close = close} {to = to} l c e m) =
      omega (arith, expression-turns l, behind-turns behind _ c, expression-turns e, mark-turns _ close to m)
  expression-turns (grammar.Expression.member {behind = behind} {inner = inner} {named = named} l c n) =
      omega (arith, expression-turns l, behind-turns behind _ c, identifier-turns inner named n)
  expression-turns (grammar.Expression.pointer_member {behind = behind} {inner = inner} {named = named} l c n) =
      omega (arith, expression-turns l, behind-turns behind _ c, identifier-turns inner named n)
  expression-turns (grammar.Expression.postfix {behind = behind} l c) =
      omega (arith, expression-turns l, behind-turns behind _ c)
  expression-turns (grammar.Expression.prefix {from = from} s e) = omega (arith, start-turns from _ s, expression-turns e)
  expression-turns (grammar.Expression.unary {from = from} s e) = omega (arith, start-turns from _ s, expression-turns e)
  expression-turns (grammar.Expression.size_of_expr {from = from} s e) = omega (arith, start-turns from _ s, expression-turns e)
  expression-turns (grammar.Expression.size_of_type {from = from} {outer = outer} {inner = inner} {behind = behind} {to = to} s o t m) =
      omega (arith, start-turns from _ s, mark-turns _ outer inner o, type-turns t, mark-turns _ behind to m)
  expression-turns (grammar.Expression.align_of {from = from} {outer = outer} {inner = inner} {behind = behind} {to = to} s o t m) =
      omega (arith, start-turns from _ s, mark-turns _ outer inner o, type-turns t, mark-turns _ behind to m)
  expression-turns (grammar.Expression.cast {from = from} {behind = behind} {rest = rest} s t m e) =
      omega (arith, start-turns from _ s, type-turns t, mark-turns _ behind rest m, expression-turns e)
  expression-turns (grammar.Expression.binary {behind = behind} l c r) =
      omega (arith, expression-turns l, behind-turns behind _ c, expression-turns r)
  expression-turns (grammar.Expression.logical {behind = behind} l c r) =
      omega (arith, expression-turns l, behind-turns behind _ c, expression-turns r)
  expression-turns (grammar.Expression.conditional {behind = behind} {colon = colon} {rest = rest} t c a m b) =
      omega (arith, expression-turns t, behind-turns behind _ c, expression-turns a, mark-turns _ colon rest m, expression-turns b)
  expression-turns (grammar.Expression.assignment {behind = behind} l c r) =
      omega (arith, expression-turns l, behind-turns behind _ c, expression-turns r)
  expression-turns (grammar.Expression.comma {behind = behind} l c r) =
      omega (arith, expression-turns l, behind-turns behind _ c, expression-turns r)

  pub arguments-turns : {from : Input} {arguments : List Expr} {to : Input} → Arguments from arguments to → turns to < turns from
  arguments-turns (grammar.Arguments.no_argument {from = from} {to = to} m) = omega (arith, mark-turns _ from to m)
  arguments-turns (grammar.Arguments.some_arguments l) = list-turns l

  pub list-turns : {from : Input} {arguments : List Expr} {to : Input} → ArgumentList from arguments to → turns to < turns from
  list-turns (grammar.ArgumentList.last_argument {behind = behind} {to = to} e m) =
      omega (arith, expression-turns e, mark-turns _ behind to m)
  list-turns (grammar.ArgumentList.more_arguments {behind = behind} {inner = inner} e m others) =
      omega (arith, expression-turns e, mark-turns _ behind inner m, list-turns others)

  pub lengths-turns : {from : Input} {lengths : List Expr} {to : Input} → Lengths from lengths to → turns to ≤ turns from
  lengths-turns grammar.Lengths.no_length = omega arith
  lengths-turns (grammar.Lengths.more_lengths {from = from} {inner = inner} {close = close} {behind = behind} o e m others) =
      omega (arith, mark-turns _ from inner o, expression-turns e, mark-turns _ close behind m, lengths-turns others)

  pub type-turns : {from : Input} {name : TypeName} {to : Input} → TypeNamed from name to → turns to ≤ turns from
  type-turns (grammar.TypeNamed.type_named s q p l) = omega (arith, specified-turns s, pointers-turns p, lengths-turns l)

  pub specified-turns : {from : Input} {words : List Keyword} {type : TypeSpecifier} {to : Input} → Specified from words type to → turns to ≤ turns from
  specified-turns (grammar.Specified.integer_words w e) = words-turns w
  specified-turns (grammar.Specified.single_type a s b) = omega (arith, words-turns a, single-turns s, words-turns b)

  pub single-turns : {from : Input} {type : TypeSpecifier} {to : Input} → SingleType from type to → turns to < turns from
  single-turns (grammar.SingleType.void {from = from} s) = omega (arith, type_start-turns from _ s)
  single-turns (grammar.SingleType.bool {from = from} s) = omega (arith, type_start-turns from _ s)
  single-turns (grammar.SingleType.typedef {from = from} s) = omega (arith, type_start-turns from _ s)
  single-turns (grammar.SingleType.header {from = from} s) = omega (arith, type_start-turns from _ s)
  single-turns (grammar.SingleType.struct {from = from} {behind = behind} {tag = tag} s a n) =
      omega (arith, type_start-turns from _ s, attributes-turns a, identifier-turns behind tag n)
  single-turns (grammar.SingleType.union {from = from} {behind = behind} {tag = tag} s a n) =
      omega (arith, type_start-turns from _ s, attributes-turns a, identifier-turns behind tag n)
  single-turns (grammar.SingleType.enum {from = from} {behind = behind} {tag = tag} s a n) =
      omega (arith, type_start-turns from _ s, attributes-turns a, identifier-turns behind tag n)
  single-turns (grammar.SingleType.enumeration {from = from} {behind = behind} {tag = tag} {inner = inner} s a n o es) =
      omega (arith, type_start-turns from _ s, attributes-turns a, identifier-turns behind tag n, mark-turns _ tag.rest inner o, constants-turns es)
  single-turns (grammar.SingleType.untagged_enumeration {from = from} {behind = behind} {inner = inner} s a o es) =
      omega (arith, type_start-turns from _ s, attributes-turns a, mark-turns _ behind inner o, constants-turns es)

  pub constants-turns : {from : Input} {list : List Enumerator} {to : Input} → Enumerators from list to → turns to < turns from
  constants-turns (grammar.Enumerators.last_constant {behind = behind} {to = to} c m) =
      omega (arith, constant-turns c, mark-turns _ behind to m)
  constants-turns (grammar.Enumerators.trailing_comma {behind = behind} {inner = inner} {to = to} c m n) =
      omega (arith, constant-turns c, mark-turns _ behind inner m, mark-turns _ inner to n)
  constants-turns (grammar.Enumerators.more_constants {behind = behind} {inner = inner} c m others) =
      omega (arith, constant-turns c, mark-turns _ behind inner m, constants-turns others)

  pub constant-turns : {from : Input} {one : Enumerator} {to : Input} → Constant from one to → turns to < turns from
  constant-turns (grammar.Constant.implicit {from = from} {named = named} n) = omega (arith, identifier-turns from named n)
  constant-turns (grammar.Constant.valued {from = from} {named = named} {inner = inner} n m e) =
      omega (arith, identifier-turns from named n, mark-turns _ named.rest inner m, expression-turns e)

-- ---- depths

one_more : (n m : ℕ) → n ≡ 1 + m → 1 ≤ n
one_more n m e = omega arith

one_is : (n : ℕ) → n ≡ 1 → 1 ≤ n
one_is n e = omega arith

pub expression-deep : {level : ℕ} {from : Input} {tree : Expr} {to : Input} → Expression level from tree to → 1 ≤ expression_depth tree
expression-deep (grammar.Expression.looser e) = expression-deep e
expression-deep (grammar.Expression.integer s) = one_is _ (depth-Integer _ _)
expression-deep (grammar.Expression.character s) = one_is _ (depth-Character _ _)
expression-deep (grammar.Expression.null_pointer s) = one_is _ (depth-NullPointer _)
expression-deep (grammar.Expression.name s) = one_is _ (depth-Name _ _)
expression-deep (grammar.Expression.parenthesized s e m) = one_more _ _ (depth-Parenthesized _ _)
expression-deep (grammar.Expression.call s m a) = one_more _ _ (depth-Call _ _ _)
expression-deep (grammar.Expression.atomic s m a) = one_more _ _ (depth-Atomic _ _ _)
expression-deep (grammar.Expression.subscript l c e m) = one_more _ _ (depth-Subscript _ _ _)
expression-deep (grammar.Expression.member l c n) = one_more _ _ (depth-Member _ _ _)
expression-deep (grammar.Expression.pointer_member l c n) = one_more _ _ (depth-PointerMember _ _ _)
expression-deep (grammar.Expression.postfix l c) = one_more _ _ (depth-Postfix _ _ _)
expression-deep (grammar.Expression.prefix s e) = one_more _ _ (depth-Prefix _ _ _)
expression-deep (grammar.Expression.unary s e) = one_more _ _ (depth-Unary _ _ _)
expression-deep (grammar.Expression.size_of_expr s e) = one_more _ _ (depth-SizeOfExpr _ _)
expression-deep (grammar.Expression.size_of_type s o t m) = one_more _ _ (depth-SizeOfType _ _)
expression-deep (grammar.Expression.align_of s o t m) = one_more _ _ (depth-AlignOf _ _)
expression-deep (grammar.Expression.cast s t m e) = one_more _ _ (depth-Cast _ _ _)
expression-deep (grammar.Expression.binary l c r) = one_more _ _ (depth-Binary _ _ _ _)
expression-deep (grammar.Expression.logical l c r) = one_more _ _ (depth-Logical _ _ _ _)
expression-deep (grammar.Expression.conditional t c a m b) = one_more _ _ (depth-Conditional _ _ _ _)
expression-deep (grammar.Expression.assignment l c r) = one_more _ _ (depth-Assignment _ _ _ _)
expression-deep (grammar.Expression.comma l c r) = one_more _ _ (depth-Comma _ _ _)
