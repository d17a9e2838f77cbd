-- What a file gives: its tokens, the headers that it includes, and the place after its last byte.
use Rattle.std.specs.Prelude.{List}
use Rattle.rc_text.specs.declared.place.Place.{Place}
use Rattle.c_lexer.specs.declared.token.Token.{Token}
use Rattle.c_lexer.specs.declared.tokens.Include.{Include}

-- what a file gives: its tokens, its includes, and the place after its last byte
pub record TokenLists : Type 0 where
  pub tokens : List Token
  pub includes : List Include
  pub end : Place
