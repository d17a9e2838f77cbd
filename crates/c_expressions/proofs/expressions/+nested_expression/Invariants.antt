use Rattle.c_expressions.proofs.expressions.+nested_expression.Given as goal

abbrev pub decreases-nested_expression : goal.decreases-nested_expression
decreases-nested_expression l = l.room
