use Rattle.std.proofs.Common.{◌≡◌, drop}
use Rattle.rc_text.specs.MemoryShelf.{content_of}
use Rattle.rc_text.proofs.memory_shelf.find_file.Given as goal

-- no file so far has the name
abbrev pub invariant-loop-index : goal.invariant-loop-index
invariant-loop-index l = content_of l.files l.name ≡ content_of (drop l.index l.files) l.name
