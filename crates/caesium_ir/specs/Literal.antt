-- The program of a file whose one function returns one literal (this project's own).
use Rattle.std.specs.Prelude.{ℕ, List, [], ◌∷◌, codes, pos, Some}
use Rattle.rc_text.specs.declared.place.Place.{Place}
use Rattle.caesium_ir.specs.declared.literal_places.LiteralPlaces.{LiteralPlaces}
use Rattle.layouts.specs.declared.int_type.IntType.TheVariants as int_types
use Rattle.layouts.specs.declared.layout.Layout.TheVariants as layouts
use Rattle.caesium_ir.specs.declared.operation.Op.TheVariants.{Const, Poison}
use Rattle.caesium_ir.specs.declared.block.End.TheVariants.{Goto, Return}
use Rattle.caesium_ir.specs.declared.block.Block.{Block}
use Rattle.caesium_ir.specs.declared.function.Function.{Function}
use Rattle.caesium_ir.specs.declared.program.Program.{Program}

-- where a function begins; it stands at the body
abbrev pub entry_block : Place → Block
entry_block body = record { label = codes "."; operations = []; end = Goto (codes ".0"); end_place = body }

-- the statement that returns the literal: the constant stands at the literal, the return at its keyword
abbrev pub literal_block : ℕ → Place → Place → Block
literal_block literal literal_place return_place = record {
  label = codes ".0";
  operations = record { op = Const int_types.Int (pos literal); place = literal_place } ∷ [];
  end = Return;
  end_place = return_place;
}

-- where the body's end would be reached: the result is poison (C11 6.9.1, paragraph 12); it stands at the body
abbrev pub ending_block : Place → Block
ending_block body = record {
  label = codes ".end";
  operations = record { op = Poison 4; place = body } ∷ [];
  end = Return;
  end_place = body;
}

-- the blocks, in order
abbrev pub literal_blocks : ℕ → LiteralPlaces → List Block
literal_blocks literal places =
    entry_block places.body ∷ literal_block literal places.literal places.return_ ∷ ending_block places.body ∷ []

-- the function, whose result is an `int`, and which stands at its name
abbrev pub literal_function : List ℕ → ℕ → LiteralPlaces → Function
literal_function name literal places = record {
  name = name;
  result = Some (layouts.Int int_types.Int);
  parameters = [];
  locals = [];
  blocks = literal_blocks literal places;
  place = places.name;
}

-- the program, with no struct and no union
abbrev pub literal_program : List ℕ → ℕ → LiteralPlaces → Program
literal_program name literal places = record {
  table = [];
  functions = literal_function name literal places ∷ [];
}
