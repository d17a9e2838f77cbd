use Rattle.std.proofs.Common.{◌≡◌, true, false}
use Rattle.std.specs.List.{list_any}
use Rattle.c_grammar.specs.Specifiers.{is_integer_word}
use Rattle.c_expressions.specs.Parts.{reader}
use Rattle.c_expressions.proofs.TypeSteps.{specified-integer, specified-single}
use Rattle.c_expressions.proofs.grammar.Grammar.specified.Goals as goal

pub returns-then-has_integer_word : goal.returns-then-has_integer_word
returns-then-has_integer_word g c =
    let some : list_any is_integer_word c.in_ok-before.before ≡ true = cc in
    rw (specified-integer (reader c.args.self.now.room) c.args.cursor.now c.words.new.cursor c.in_ok-before.before
    c.in_ok-before.ensures some)
    (c.integers.ensures c.words.new.cursor)

pub returns : goal.returns
returns g c =
    let none : list_any is_integer_word c.in_ok-before.before ≡ false = cc in
    rw (specified-single (reader c.args.self.now.room) c.args.cursor.now c.words.new.cursor c.in_ok-before.before
    c.in_ok-before.ensures none)
    c.among.ensures
