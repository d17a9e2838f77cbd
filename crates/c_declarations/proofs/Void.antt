-- `void` alone is no parameter.
use Rattle.std.proofs.Common.{◌≡◌, [], Some, arith}
use Rattle.c_lexer.specs.declared.punctuator.Punctuator.TheVariants as marks
use Rattle.c_grammar.specs.Input.{Input, mark}
use Rattle.c_grammar.specs.Specifiers as types
use Rattle.c_grammar.specs.Specifiers.{type_start}
use Rattle.c_grammar.specs.Declarations as grammar
use Rattle.c_grammar.specs.DeclarationReading.{parameter_list}
use Rattle.c_grammar.proofs.DeclarationsRead.{parameters-read}
use Rattle.c_expressions.specs.Parts.{reader}

pub alone : (from behind to : Input) → type_start from ≡ Some (record { start = types.Void; rest = behind })
    → mark marks.CloseParenthesis behind ≡ Some to → parameter_list (reader 200) from ≡ Some ([], to)
alone from behind to begins closes =
    parameters-read 200 (grammar.Parameters.void begins closes) (omega arith) (omega arith)
