-- Reading a function's declarator only adds names in front of those in scope, so they can be taken away again.
use Rattle.std.proofs.Common.{◌≡◌, ◌∙◌, ℕ, ◌-◌, length, drop, Some}
use Rattle.c_lexer.specs.declared.punctuator.Punctuator.TheVariants as marks
use Rattle.c_syntax.specs.declared.declarator.FunctionDeclarator.{FunctionDeclarator}
use Rattle.c_grammar.specs.Input.{Input, Named, mark, identifier}
use Rattle.c_grammar.specs.Declarations.{under}
use Rattle.c_grammar.specs.DeclarationReading.{function_behind, function_declared}
use Rattle.c_grammar.specs.Reading.{pointers}
use Rattle.c_grammar.proofs.Kept.{left}
use Rattle.c_grammar.proofs.DeclarationsKept.{read_function-kept}
use Rattle.c_expressions.specs.Parts.{reader}

pub kept : (from to : Input) (function : FunctionDeclarator) → function_declared (reader 200) from ≡ Some (function, to)
    → record { tokens = to.tokens; names = drop (length to.names - length from.names) to.names } ≡ under from to
kept from to function read = left (read_function-kept 200 200 from function to read)

-- what is left of the names at the end of a prototype's scope
pub leaves : (from to after : Input) (function : FunctionDeclarator) (scope : ℕ) → scope ≡ length from.names
    → function_declared (reader 200) from ≡ Some (function, to)
    → after ≡ record { tokens = to.tokens; names = drop (length to.names - scope) to.names } → after ≡ under from to
leaves from to after function scope s read a = (rw s at a) ∙ kept from to function read

-- the same where the declarator was read in its parts
pub leaves-behind : (from rest : Input) (count : ℕ) (named : Named) (inner to after : Input)
    (function : FunctionDeclarator) (scope : ℕ) → pointers from ≡ Some (count, rest) → identifier rest ≡ Some named
    → mark marks.OpenParenthesis named.rest ≡ Some inner
    → function_behind (reader 200) count named.name inner ≡ Some (function, to) → scope ≡ length from.names
    → after ≡ record { tokens = to.tokens; names = drop (length to.names - scope) to.names } → after ≡ under from to
unfolding function_declared
leaves-behind from rest count named inner to after function scope p i o f s a =
    leaves from to after function scope s (rw (p, i, o) f) a
