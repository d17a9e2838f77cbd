-- The size and alignment of each layout: System V ABI, AMD64 (3.1.2, LP64).
use Rattle.std.specs.Prelude.{ℕ, List, slice_index_or}
use Rattle.layouts.specs.declared.layout.Layout.{Layout}
use Rattle.layouts.specs.declared.layout.Layout.TheVariants.{Int, Bool, Ptr, Struct, Union, Bytes}
use Rattle.layouts.specs.IntType.{int_bytes_of}

-- a size and an alignment in bytes
pub record Extent : Type 0 where
  pub size : ℕ
  pub align : ℕ

-- a scalar type is aligned to its size
abbrev pub scalar : ℕ → Extent
scalar size = record { size = size; align = size }

-- the extent of a layout, where the structs and unions of the table have these extents
abbrev pub extent_among : List Extent → Layout → Extent
extent_among declared (Int t) = scalar (int_bytes_of t)
extent_among declared Bool = scalar 1
extent_among declared Ptr = scalar 8
extent_among declared (Struct s) = slice_index_or declared s (scalar 1)
extent_among declared (Union u) = slice_index_or declared u (scalar 1)
extent_among declared (Bytes size align) = record { size = size; align = align }
