-- How types are read, step by step as the code reads them.
use Rattle.std.proofs.Common.{◌≡◌, ℕ, true, false, List, Some, option_and_then}
use Rattle.std.specs.List.{list_any, filter}
use Rattle.c_lexer.specs.declared.keyword.Keyword.{Keyword}
use Rattle.c_syntax.specs.declared.expr.Expr.{Expr}
use Rattle.c_syntax.specs.declared.specifier.TypeSpecifier.TheVariants as specifiers
use Rattle.c_grammar.specs.Input.{Input}
use Rattle.c_grammar.specs.Reading.{Reader, words, single_by, single_type, specified}
use Rattle.c_grammar.specs.Specifiers.{TypeStart, type_start, is_integer_word, is_modifier, is_specifier_word}
use Rattle.c_grammar.specs.Specifiers.{integer_type}
use Rattle.c_expressions.specs.Parts.{among}

module _ (expression : ℕ → Reader Expr) (from rest : Input) where
  pub type-by : (start : TypeStart) → type_start from ≡ Some (record { start = start; rest = rest })
      → single_type expression from ≡ single_by expression start rest
  unfolding single_type
  type-by start e = rw e

  pub specified-integer : (before : List Keyword) → words is_specifier_word from ≡ Some (before, rest)
      → list_any is_integer_word before ≡ true
      → specified expression from ≡ option_and_then (λ type.
      Some ((filter is_modifier before, specifiers.Integer type), rest)) (integer_type before)
  unfolding specified
  specified-integer before e some = rw (e, some)

  pub specified-single : (before : List Keyword) → words is_specifier_word from ≡ Some (before, rest)
      → list_any is_integer_word before ≡ false
      → specified expression from ≡ among expression before rest
  unfolding specified
  specified-single before e none = rw (e, none)
