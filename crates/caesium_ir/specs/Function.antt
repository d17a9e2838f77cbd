-- Functions by their names, and what a function names (this project's own).
use Rattle.std.specs.Prelude.{ℕ, List, [], ◌∷◌, ◌++◌, map, Option, Some, None, if◌then◌else◌}
use Rattle.std.specs.Str.{bytes_eq}
use Rattle.caesium_ir.specs.declared.block.Block.{Block}
use Rattle.caesium_ir.specs.declared.function.Local.{Local}
use Rattle.caesium_ir.specs.declared.function.Function.{Function}

-- the first function of the name
abbrev pub function_named : List Function → List ℕ → Option Function
function_named [] name = None
function_named (function ∷ functions) name =
    if bytes_eq function.name name then Some function else function_named functions name

-- the labels of a function's blocks
abbrev pub labels_of : Function → List (List ℕ)
labels_of function = map (λ (block : Block). block.label) function.blocks

-- a function's locals by their numbers: its parameters, then the others
abbrev pub locals_of : Function → List Local
locals_of function = function.parameters ++ function.locals
