-- How a frame changes (this project's own).
use Rattle.std.specs.Prelude.{ℕ, ◌+◌, List, [], ◌∷◌, codes, reverse, take, drop, Option, Some, None}
use Rattle.rc_terms.specs.declared.byte.MByte.{MByte}
use Rattle.thread_steps.specs.declared.frame.Frame.{Frame}

-- a call of the function that has done nothing: at its block `.`, before the first operation, with these blocks for its
-- locals and an empty row
abbrev pub entering_frame : List ℕ → List ℕ → Frame
entering_frame function locals =
    record { function = function; label = codes "."; operation = 0; locals = locals; row = [] }

-- the same of a function without locals
abbrev pub starting_frame : List ℕ → Frame
starting_frame function = entering_frame function []

-- at the head of the block of the label, with this row
abbrev pub entered : List ℕ → List (List MByte) → Frame → Frame
entered label row frame = record frame { label = label; operation = 0; row = row }

-- with the value on its row, where there is one
abbrev pub given : Option (List MByte) → Frame → Frame
given None frame = frame
given (Some value) frame = record frame { row = value ∷ frame.row }

-- the top of the row in the order in which it was pushed: this many operands, or fewer where the row is shorter
abbrev pub operands_on : ℕ → Frame → List (List MByte)
operands_on count frame = reverse (take count frame.row)

-- after an operation that took this many operands: at the next one, with what it gave on the row
abbrev pub operated : ℕ → Option (List MByte) → Frame → Frame
operated count value frame =
    given value (record frame { operation = frame.operation + 1; row = drop count frame.row })
