-- How the type that a declaration begins with is read, step by step as the code reads it.
use Rattle.std.proofs.Common.{◌≡◌, ◌≢◌, ℕ, zero, suc, ◌-◌, true, List, Some, option_and_then, refl, ap, arith}
use Rattle.std.specs.List.{list_any, filter}
use Rattle.c_lexer.specs.declared.keyword.Keyword.{Keyword}
use Rattle.c_syntax.specs.declared.specifier.TypeSpecifier.TheVariants as specifiers
use Rattle.c_grammar.specs.Input.{Input}
use Rattle.c_grammar.specs.Reading.{words}
use Rattle.c_grammar.specs.Specifiers.{is_integer_word, is_modifier, is_specifier_word, integer_type}
use Rattle.c_grammar.specs.DeclarationReading.{specified_with, defining_with, defining}
use Rattle.c_expressions.specs.Parts.{reader}
use Rattle.c_declarations.specs.Parts.{member_types}

-- where definitions may nest, one less may nest in their members
pub one_less : (room : ℕ) (from : Input) → room ≢ 0
    → defining (reader 200) room from ≡ defining_with (reader 200) (member_types (room - 1)) from
unfolding defining
one_less zero from some = absurd (some refl)
one_less (suc room) from some =
    ap (λ n. defining_with (reader 200) (member_types n) from) (let same : room ≡ suc room - 1 = omega arith in same)

pub defining-integer : (room : ℕ) (from rest : Input) (before : List Keyword)
    → words is_specifier_word from ≡ Some (before, rest)
    → list_any is_integer_word before ≡ true
    → defining_with (reader 200) (member_types room) from ≡ option_and_then (λ type.
    Some ((filter is_modifier before, specifiers.Integer type), rest)) (integer_type before)
unfolding defining_with specified_with
defining-integer room from rest before e some = rw (e, some)
