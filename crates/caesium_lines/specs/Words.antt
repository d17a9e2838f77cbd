-- The words that the text of a program is made of (this project's own; the types of C11 6.2.5 in one word each).
use Rattle.std.specs.Prelude.{ℕ, List, [], ◌∷◌, ◌++◌, Bool, true, false, codes}
use Rattle.layouts.specs.declared.int_type.IntType.{IntType}
use Rattle.layouts.specs.declared.int_type.IntType.TheVariants.{Char, SChar, UChar, Short, UShort, Int, UInt, Long}
use Rattle.layouts.specs.declared.int_type.IntType.TheVariants.{ULong, LLong, ULLong}
use Rattle.caesium_ir.specs.declared.operation.Scalar.{Scalar}
use Rattle.caesium_ir.specs.declared.operation.Scalar.TheVariants as scalars
use Rattle.caesium_ir.specs.declared.operation.BinaryOperator.{BinaryOperator}
use Rattle.caesium_ir.specs.declared.operation.BinaryOperator.TheVariants.{Add, Sub, Mul, Div, Rem, And, Or, Xor}
use Rattle.caesium_ir.specs.declared.operation.BinaryOperator.TheVariants.{Eq, Ne, Lt, Le, Gt, Ge}

-- each word with a blank before it
abbrev pub spaced : List (List ℕ) → List ℕ
spaced [] = []
spaced (word ∷ words) = 32 ∷ word ++ spaced words

-- words with single blanks between them
abbrev pub words_text : List (List ℕ) → List ℕ
words_text [] = []
words_text (word ∷ words) = word ++ spaced words

-- an integer type
abbrev pub int_word : IntType → List ℕ
int_word Char = codes "char"
int_word SChar = codes "schar"
int_word UChar = codes "uchar"
int_word Short = codes "short"
int_word UShort = codes "ushort"
int_word Int = codes "int"
int_word UInt = codes "uint"
int_word Long = codes "long"
int_word ULong = codes "ulong"
int_word LLong = codes "llong"
int_word ULLong = codes "ullong"

-- a type that `cast` converts from or to
abbrev pub scalar_word : Scalar → List ℕ
scalar_word (scalars.Int of) = int_word of
scalar_word scalars.Bool = codes "bool"

-- an operator on two integers
abbrev pub operator_word : BinaryOperator → List ℕ
operator_word Add = codes "add"
operator_word Sub = codes "sub"
operator_word Mul = codes "mul"
operator_word Div = codes "div"
operator_word Rem = codes "rem"
operator_word And = codes "and"
operator_word Or = codes "or"
operator_word Xor = codes "xor"
operator_word Eq = codes "eq"
operator_word Ne = codes "ne"
operator_word Lt = codes "lt"
operator_word Le = codes "le"
operator_word Gt = codes "gt"
operator_word Ge = codes "ge"

-- a truth value
abbrev pub truth_word : Bool → List ℕ
truth_word false = codes "0"
truth_word true = codes "1"
