-- How a rendering is put on the two streams (this project's own).
use Rattle.std.specs.Prelude.{◌≡◌, ℕ, ◌≤◌, ◌⊎◌, List, length}
use Rattle.rc_text.specs.Faults.{one_more}
use Rattle.rc_text.specs.Sink.{appended, front_appended, WrotePrefix}
use Rattle.refinedc_cli.specs.declared.rendering.Rendering.{Rendering}
use Rattle.refinedc_cli.specs.declared.status.Status.{Status}
use Rattle.refinedc_cli.specs.declared.status.Status.TheVariants.{WriteFault}
use Rattle.refinedc_cli.specs.Outside.{Stream, Outside}
use Rattle.refinedc_cli.specs.Texts.{write_fault_text}

-- the text was written whole, and nothing failed
abbrev pub WritesWhole : Stream → Stream → List ℕ → Type 0
WritesWhole old new text = (new.written ≡ appended old.written text) × (new.faults ≡ old.faults)

-- a prefix of the text was written, and then the sink failed
abbrev pub WritesPrefix : Stream → Stream → List ℕ → Type 0
WritesPrefix old new text = WrotePrefix old.written new.written text × (new.faults ≡ one_more old.faults)

-- the text was put on the sink, whole or, where the sink failed, a prefix of it
abbrev pub Puts : Stream → Stream → List ℕ → Type 0
Puts old new text = WritesWhole old new text ⊎ WritesPrefix old new text

-- a front of the text was written, perhaps nothing and perhaps all of it
abbrev pub WritesFront : Stream → Stream → List ℕ → Type 0
WritesFront old new text = (count : ℕ) × (count ≤ length text) × (new.written ≡ front_appended old.written count text)

-- The status with which a rendering is delivered.
pub data IsDelivered (rendering : Rendering) (before after : Outside) : Status → Type 0 where
  -- whole
  whole : WritesWhole before.out after.out rendering.out → Puts before.err after.err rendering.err
      → IsDelivered rendering before after rendering.status
  -- standard output failed
  failed : WritesPrefix before.out after.out rendering.out → Puts before.err after.err write_fault_text
      → IsDelivered rendering before after WriteFault
