-- The names of a program's functions, and a program without its places (this project's own).
use Rattle.std.specs.Prelude.{ℕ, ◌≡◌, List, map}
use Rattle.rc_text.specs.declared.place.Place.{Place}
use Rattle.caesium_ir.specs.declared.operation.PlacedOp.{PlacedOp}
use Rattle.caesium_ir.specs.declared.block.Block.{Block}
use Rattle.caesium_ir.specs.declared.function.Function.{Function}
use Rattle.caesium_ir.specs.declared.program.Program.{Program}

-- the names of a program's functions
abbrev pub names_of : Program → List (List ℕ)
names_of program = map (λ (function : Function). function.name) program.functions

-- the place that stands for none
abbrev pub nowhere : Place
nowhere = record { byte = 0; line = 0; column = 0 }

-- an operation without its place
abbrev pub unplaced_op : PlacedOp → PlacedOp
unplaced_op placed = record placed { place = nowhere }

-- a block without the places of its operations and of its end
abbrev pub unplaced_block : Block → Block
unplaced_block block = record block { operations = map unplaced_op block.operations; end_place = nowhere }

-- a function without places
abbrev pub unplaced_function : Function → Function
unplaced_function function = record function { blocks = map unplaced_block function.blocks; place = nowhere }

-- a program without places
abbrev pub unplaced : Program → Program
unplaced program = record program { functions = map unplaced_function program.functions }

-- two programs are the same but for places
abbrev pub AreSamePrograms : Program → Program → Type 0
AreSamePrograms one other = unplaced one ≡ unplaced other
