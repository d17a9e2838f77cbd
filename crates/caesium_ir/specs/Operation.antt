-- The operators of Caesium's operations on two integers (C11 6.5.5, 6.5.6 and 6.5.8 to 6.5.12).
use Rattle.layouts.specs.declared.operator.Operator.{Operator}
use Rattle.layouts.specs.declared.operator.Operator.TheVariants as operators
use Rattle.caesium_ir.specs.declared.operation.BinaryOperator.{BinaryOperator}
use Rattle.caesium_ir.specs.declared.operation.BinaryOperator.TheVariants.{Add, Sub, Mul, Div, Rem, And, Or, Xor}
use Rattle.caesium_ir.specs.declared.operation.BinaryOperator.TheVariants.{Eq, Ne, Lt, Le, Gt, Ge}

-- the operator of C that each is
abbrev pub operator_of : BinaryOperator → Operator
operator_of Add = operators.Add
operator_of Sub = operators.Sub
operator_of Mul = operators.Mul
operator_of Div = operators.Div
operator_of Rem = operators.Rem
operator_of And = operators.And
operator_of Or = operators.Or
operator_of Xor = operators.Xor
operator_of Eq = operators.Eq
operator_of Ne = operators.Ne
operator_of Lt = operators.Lt
operator_of Le = operators.Le
operator_of Gt = operators.Gt
operator_of Ge = operators.Ge
