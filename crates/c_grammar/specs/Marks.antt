-- Which punctuator or keyword a token is.
use denote.Enum.Bare.{sameb}
use Rattle.std.specs.Prelude.{Bool, false}
use Rattle.c_lexer.specs.declared.token.TokenKind.{TokenKind}
use Rattle.c_lexer.specs.declared.token.TokenKind.TheVariants as kinds
use Rattle.c_lexer.specs.declared.punctuator.Punctuator.{Punctuator}
use Rattle.c_lexer.specs.declared.keyword.Keyword.{Keyword}
use Rattle.c_lexer.specs.contracts.punctuator.Punctuator as punctuator
use Rattle.c_lexer.specs.contracts.keyword.Keyword as keyword

-- whether the token is this punctuator
abbrev pub is_mark : Punctuator → TokenKind → Bool
is_mark mark (kinds.Punctuator other) = sameb punctuator.the_type mark other
is_mark mark _ = false

-- whether the token is this keyword
abbrev pub is_keyword : Keyword → TokenKind → Bool
is_keyword word (kinds.Keyword other) = sameb keyword.the_type word other
is_keyword word _ = false
