-- How each punctuator is spelled: C11 6.4.6 without the digraphs, and `::`.
use Rattle.std.specs.Prelude.{ℕ, List, codes}
use Rattle.c_lexer.specs.declared.punctuator.Punctuator.{Punctuator}
use Rattle.c_lexer.specs.declared.punctuator.Punctuator.TheVariants.{Ellipsis, LeftShiftAssign, RightShiftAssign, Arrow}
use Rattle.c_lexer.specs.declared.punctuator.Punctuator.TheVariants.{Increment, Decrement, LeftShift, RightShift}
use Rattle.c_lexer.specs.declared.punctuator.Punctuator.TheVariants.{LessOrEqual, GreaterOrEqual, Equal, NotEqual}
use Rattle.c_lexer.specs.declared.punctuator.Punctuator.TheVariants.{LogicalAnd, LogicalOr, MultiplyAssign}
use Rattle.c_lexer.specs.declared.punctuator.Punctuator.TheVariants.{DivideAssign, RemainderAssign, AddAssign}
use Rattle.c_lexer.specs.declared.punctuator.Punctuator.TheVariants.{SubtractAssign, AndAssign, XorAssign, OrAssign}
use Rattle.c_lexer.specs.declared.punctuator.Punctuator.TheVariants.{HashHash, DoubleColon, OpenBracket, CloseBracket}
use Rattle.c_lexer.specs.declared.punctuator.Punctuator.TheVariants.{OpenParenthesis, CloseParenthesis, OpenBrace}
use Rattle.c_lexer.specs.declared.punctuator.Punctuator.TheVariants.{CloseBrace, Point, Ampersand, Star, Plus, Minus}
use Rattle.c_lexer.specs.declared.punctuator.Punctuator.TheVariants.{Tilde, Exclamation, Slash, Percent, Less, Greater}
use Rattle.c_lexer.specs.declared.punctuator.Punctuator.TheVariants.{Caret, Bar, Question, Colon, Semicolon, Assign}
use Rattle.c_lexer.specs.declared.punctuator.Punctuator.TheVariants.{Comma, Hash}

-- how each punctuator is spelled, `::` among them
abbrev pub punctuator_text : Punctuator → List ℕ
punctuator_text Ellipsis = codes "..."
punctuator_text LeftShiftAssign = codes "<<="
punctuator_text RightShiftAssign = codes ">>="
punctuator_text Arrow = codes "->"
punctuator_text Increment = codes "++"
punctuator_text Decrement = codes "--"
punctuator_text LeftShift = codes "<<"
punctuator_text RightShift = codes ">>"
punctuator_text LessOrEqual = codes "<="
punctuator_text GreaterOrEqual = codes ">="
punctuator_text Equal = codes "=="
punctuator_text NotEqual = codes "!="
punctuator_text LogicalAnd = codes "&&"
punctuator_text LogicalOr = codes "||"
punctuator_text MultiplyAssign = codes "*="
punctuator_text DivideAssign = codes "/="
punctuator_text RemainderAssign = codes "%="
punctuator_text AddAssign = codes "+="
punctuator_text SubtractAssign = codes "-="
punctuator_text AndAssign = codes "&="
punctuator_text XorAssign = codes "^="
punctuator_text OrAssign = codes "|="
punctuator_text HashHash = codes "##"
punctuator_text DoubleColon = codes "::"
punctuator_text OpenBracket = codes "["
punctuator_text CloseBracket = codes "]"
punctuator_text OpenParenthesis = codes "("
punctuator_text CloseParenthesis = codes ")"
punctuator_text OpenBrace = codes "{"
punctuator_text CloseBrace = codes "}"
punctuator_text Point = codes "."
punctuator_text Ampersand = codes "&"
punctuator_text Star = codes "*"
punctuator_text Plus = codes "+"
punctuator_text Minus = codes "-"
punctuator_text Tilde = codes "~"
punctuator_text Exclamation = codes "!"
punctuator_text Slash = codes "/"
punctuator_text Percent = codes "%"
punctuator_text Less = codes "<"
punctuator_text Greater = codes ">"
punctuator_text Caret = codes "^"
punctuator_text Bar = codes "|"
punctuator_text Question = codes "?"
punctuator_text Colon = codes ":"
punctuator_text Semicolon = codes ";"
punctuator_text Assign = codes "="
punctuator_text Comma = codes ","
punctuator_text Hash = codes "#"
