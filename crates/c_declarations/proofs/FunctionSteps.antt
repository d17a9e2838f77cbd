-- How functions without bodies are read, step by step as the code reads them.
use Rattle.std.proofs.Common.{◌≡◌, ℕ, suc, List, [], ◌∷◌, ◌++◌, Some}
use Rattle.c_lexer.specs.declared.punctuator.Punctuator.TheVariants as marks
use Rattle.c_syntax.specs.declared.declaration.InitDeclarator.{InitDeclarator}
use Rattle.c_syntax.specs.declared.declaration.InitDeclarator.TheVariants as declarators
use Rattle.c_syntax.specs.declared.declarator.FunctionDeclarator.{FunctionDeclarator}
use Rattle.c_grammar.specs.Input.{Input, mark}
use Rattle.c_grammar.specs.Declarations.{behind_function}
use Rattle.c_grammar.specs.DeclarationReading.{function_declared, function_names_from}
use Rattle.c_cursor.proofs.Turns.{behind, behind-behind}
use Rattle.c_expressions.specs.Parts.{reader}

-- one function more, with a comma behind it
pub function-more : (left : ℕ) (found : List InitDeclarator) (from rest inner : Input) (function : FunctionDeclarator)
    → function_declared (reader 200) from ≡ Some (function, rest)
    → mark marks.Comma (behind_function from function rest) ≡ Some inner
    → behind found (function_names_from (reader 200) (suc left) from)
    ≡ behind (found ++ declarators.Function function ∷ []) (function_names_from (reader 200) left inner)
unfolding function_names_from
function-more left found from rest inner function f m =
    rw (f, m) (behind-behind found (declarators.Function function ∷ []) (function_names_from (reader 200) left inner))
