use Rattle.std.proofs.Common.{◌≡◌, ◌+◌, ◌-◌, ◌*◌}
use Rattle.c_grammar.specs.Reading.{turns}
use Rattle.c_grammar.specs.DeclarationReading.{members_from}
use Rattle.c_cursor.specs.Deep.{counted}
use Rattle.c_cursor.proofs.Turns.{behind}
use Rattle.c_expressions.specs.Parts.{reader}
use Rattle.c_declarations.specs.Parts.{members_depth, member_types}
use Rattle.c_declarations.proofs.records.+records.Given as goal

abbrev pub decreases-nested : goal.decreases-nested
decreases-nested l = 8 * l.room

abbrev pub decreases-words_round : goal.decreases-words_round
decreases-words_round l = 8 * l.room + 7

abbrev pub decreases-defining_type : goal.decreases-defining_type
decreases-defining_type l = 8 * l.room + 6

abbrev pub decreases-record : goal.decreases-record
decreases-record l = 8 * l.room + 5

abbrev pub decreases-record_behind : goal.decreases-record_behind
decreases-record_behind l = 8 * l.room + 4

abbrev pub decreases-members : goal.decreases-members
decreases-members l = 8 * l.room + 3

abbrev pub decreases-member : goal.decreases-member
decreases-member l = 8 * l.room + 2

abbrev pub invariant-members-loop-turn : goal.invariant-members-loop-turn
invariant-members-loop-turn l = record {
  reads : members_from (reader 200) (member_types l.room) (turns l.fn.cursor) l.fn.cursor
      ≡ behind l.tree (members_from (reader 200) (member_types l.room) (l._turn-end - l._turn) l.cursor);
  deep : l.depth ≡ counted (members_depth l.tree);
}
