-- The code's table of integer types, as the grammar has it (inner).
use Rattle.std.specs.Prelude.{List, map}
use Rattle.c_lexer.specs.declared.keyword.Keyword.{Keyword}
use Rattle.c_syntax.specs.declared.specifier.IntegerType.{IntegerType}
use Rattle.c_cursor.specs.declared.integers.Spelling.{Spelling}

abbrev pub spellings_seen : List Spelling → List (List Keyword × IntegerType)
spellings_seen spellings = map (λ spelling. (spelling.words.now, spelling.named)) spellings
