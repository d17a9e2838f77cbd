use Rattle.std.proofs.Common.{◌+◌, ◌*◌}
use Rattle.c_parser.proofs.tests.printing.+printing.Given as goal

abbrev pub decreases-show_stmt : goal.decreases-show_stmt
decreases-show_stmt l = 2 * l.levels

abbrev pub decreases-show_kind : goal.decreases-show_kind
decreases-show_kind l = 2 * l.levels + 1
