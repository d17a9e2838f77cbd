-- How the bytes of an open block are kept: this project's own.
use Rattle.std.specs.Prelude.{◌≡◌, ℕ, ◌<◌, List, map, length, sum_by, slice_index_or}
use Rattle.rc_terms.specs.declared.byte.MByte.{MByte}
use Rattle.rc_terms.specs.declared.byte.MByte.TheVariants as bytes
use Rattle.byte_memory.specs.declared.cell.Cell.{Cell}
use Rattle.byte_memory.specs.declared.cell.Cell.TheVariants.{Plain, Poison, Wide}

-- the byte that a cell stands for, where these are the bytes with a place of their own
abbrev pub byte_seen : List MByte → Cell → MByte
byte_seen wide (Plain b) = bytes.Byte b
byte_seen wide Poison = bytes.Poison
byte_seen wide (Wide place) = slice_index_or wide place bytes.Poison

-- the bytes that all cells stand for
unfoldable pub bytes_seen : List MByte → List Cell → List MByte
bytes_seen wide cells = map (byte_seen wide) cells

-- 1 for a cell whose byte has a place of its own
abbrev pub places_taken : Cell → ℕ
places_taken (Plain b) = 0
places_taken Poison = 0
places_taken (Wide place) = 1

-- each place is one of those that are there, no two cells have the same one, and each is taken
pub record AreInPlace (wide : List MByte) (cells : List Cell) : Type 0 where
  pub placed : (i place : ℕ) → slice_index_or cells i Poison ≡ Wide place → place < length wide
  pub apart : (i j place : ℕ) → slice_index_or cells i Poison ≡ Wide place →
      slice_index_or cells j Poison ≡ Wide place → i ≡ j
  pub counted : sum_by places_taken cells ≡ length wide
