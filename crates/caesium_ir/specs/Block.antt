-- Blocks by their labels (this project's own).
use Rattle.std.specs.Prelude.{ℕ, List, [], ◌∷◌, Option, Some, None, if◌then◌else◌}
use Rattle.std.specs.Str.{bytes_eq}
use Rattle.caesium_ir.specs.declared.block.Block.{Block}

-- the first block of the label
abbrev pub block_labelled : List Block → List ℕ → Option Block
block_labelled [] label = None
block_labelled (block ∷ blocks) label = if bytes_eq block.label label then Some block else block_labelled blocks label
