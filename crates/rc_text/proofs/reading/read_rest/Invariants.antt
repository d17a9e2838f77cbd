use Rattle.std.proofs.Common.{length, ◌-◌, ◌≡◌, ◌+◌, ◌++◌}
use Rattle.std.specs.Option.{option_map}
use Rattle.rc_text.specs.declared.answer.LastCall.TheVariants.{Answered}
use Rattle.rc_text.proofs.reading.read_rest.Given as goal

-- what was read and what is left are the whole, and nothing has failed
abbrev pub invariant-reading : goal.invariant-reading
invariant-reading g l = record {
  whole : g.H.Shelf.left l.fn.shelf ≡ option_map (λ rest. l.bytes ++ rest) (g.H.Shelf.left l.shelf);
  holds : g.H.Shelf.holds l.shelf ≡ g.H.Shelf.holds l.fn.shelf;
  asked : g.H.Shelf.asked l.shelf ≡ g.H.Shelf.asked l.fn.shelf;
  answered : g.H.Shelf.last l.shelf ≡ Answered;
  quiet : g.H.Shelf.faults l.shelf ≡ g.H.Shelf.faults l.fn.shelf;
}

abbrev pub decreases-reading : goal.decreases-reading
decreases-reading g l = l.limit + 1 - length l.bytes
