-- When a sink in memory fails. This project's own.
use Rattle.std.specs.Prelude.{◌≡◌, ◌⊎◌, ℕ, ◌<◌, Contains, List, length, vec_len}
use Rattle.rc_text.specs.declared.memory_sink.MemorySink.{MemorySink}

-- writing the piece fails: the call's number is among those that fail, or there is no room for its first byte
abbrev pub IsWritingFault : MemorySink → List ℕ → Type 0
IsWritingFault sink piece =
    Contains sink.failing.items sink.calls ⊎ ((0 < length piece) × (vec_len sink.bytes ≡ sink.room))
