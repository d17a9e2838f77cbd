use Rattle.c_statements.proofs.productions.+nested_kind.Given as goal

abbrev pub decreases-nested_kind : goal.decreases-nested_kind
decreases-nested_kind l = l.room
