-- What the tables of names hold.
use Rattle.std.specs.Prelude.{ℕ, List, Option}
use Rattle.std.specs.BTreeMap.{get_by}
use Rattle.std.specs.Cmp.Lexicographic.{slice_cmp}
use Rattle.std.specs.Ordering.{nat_cmp}
use Rattle.c_lexer.specs.declared.token.TokenKind.{TokenKind}
use Rattle.c_lexer.specs.declared.kinds.Kinds.{Kinds}
use Rattle.c_lexer.specs.declared.names.Names.{Names}
use Rattle.c_lexer.specs.declared.token.TokenKind.TheVariants as kinds
use Rattle.c_lexer.specs.Elements.{first_of}

-- the kind that a table of the lexer gives a name
abbrev pub kind_of : Kinds → List ℕ → Option TokenKind
kind_of kinds name = get_by (λ key. slice_cmp nat_cmp name key.items) kinds.by_name

-- what a name stands for: a macro counts over a declaration
abbrev pub meaning_in : Names → List ℕ → Option TokenKind
meaning_in names name = first_of (kind_of names.macros name) (kind_of names.declarations name)
