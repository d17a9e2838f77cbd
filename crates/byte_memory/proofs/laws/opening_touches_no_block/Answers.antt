use Rattle.std.proofs.Common.{arith, ap, replicate, option_and_then, ◌∷◌, []}
use Rattle.std.proofs.lemmas.Option.{slice_get_past}
use Rattle.rc_terms.specs.declared.byte.MByte.TheVariants.{Poison}
use Rattle.byte_memory.specs.declared.block.Block.TheVariants.{Open}
use Rattle.byte_memory.specs.Memory.{live_bytes}
use Rattle.byte_memory.proofs.MemoryLemmas.{slice_get-append_left, slice_get-append_seam}
use Rattle.byte_memory.proofs.laws.opening_touches_no_block.Goals as goal

pub returns-clause-fresh : goal.returns-clause-fresh
returns-clause-fresh c memory = slice_get_past memory _ (omega arith)

pub returns-clause-poison : goal.returns-clause-poison
returns-clause-poison c memory len =
    ap (λ b. option_and_then live_bytes b) (slice_get-append_seam memory (Open (replicate len Poison)))

pub returns-clause-others : goal.returns-clause-others
returns-clause-others c memory len block inside =
    slice_get-append_left memory (Open (replicate len Poison) ∷ []) block inside
