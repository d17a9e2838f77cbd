-- The tests on keywords, as the grammar has them (inner).
use Rattle.std.specs.Prelude.{Bool}
use Rattle.c_lexer.specs.declared.keyword.Keyword.{Keyword}
use Rattle.c_grammar.specs.Specifiers.{is_qualifier, is_modifier, is_specifier_word}
use Rattle.c_cursor.specs.declared.type_words.WordTest.{WordTest}
use Rattle.c_cursor.specs.declared.type_words.WordTest.TheVariants as tests

-- what a test asks of a keyword
abbrev pub test_of : WordTest → Keyword → Bool
test_of tests.Qualifier = is_qualifier
test_of tests.Modifier = is_modifier
test_of tests.Specifier = is_specifier_word
