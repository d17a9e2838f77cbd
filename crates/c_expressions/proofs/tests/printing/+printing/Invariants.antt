use Rattle.std.proofs.Common.{◌+◌, ◌*◌}
use Rattle.c_expressions.proofs.tests.printing.+printing.Given as goal

abbrev pub decreases-list : goal.decreases-list
decreases-list l = 2 * l.levels + 1

abbrev pub decreases-node : goal.decreases-node
decreases-node l = 2 * l.levels + 1

abbrev pub decreases-show : goal.decreases-show
decreases-show l = 2 * l.levels
