-- Which bytes are a string (C11 6.4.5). It has no escapes here.
use Rattle.std.specs.Prelude.{◌≡◌, ℕ, IsTrue, List, [], ◌∷◌, ◌++◌}
use Rattle.std.specs.List.{list_all}
use Rattle.c_lexer.specs.Bytes.{is_string_byte}

-- a string: a quote, the bytes inside, a quote
abbrev pub IsString : List ℕ → Type 0
IsString bytes = (inside : List ℕ) × IsTrue (list_all is_string_byte inside) × (bytes ≡ 34 ∷ inside ++ 34 ∷ [])
