use Rattle.std.proofs.Common.{drop, sym, ◌∙◌, subst, arith}
use Rattle.std.proofs.lemmas.List.{take_rest}
use Rattle.c_lexer.specs.declared.token.IntegerBase.TheVariants as bases
use Rattle.c_lexer.specs.Scanning.Numbers.{IsLongestScaled}
use Rattle.c_lexer.proofs.Hexadecimals.{hexadecimal_size, hexadecimal_made}
use Rattle.c_lexer.proofs.floating.floating_length.Goals as goal
use Rattle.c_lexer.proofs.floating.floating_length.Goals.{After-scaled_length-length}

longest_is : (c : After-scaled_length-length) → IsLongestScaled bases.Hexadecimal (drop 2 c.args.bytes.now) c.scaled_length-length.result
longest_is c = subst (λ l. IsLongestScaled bases.Hexadecimal l c.scaled_length-length.result) (take_rest c.args.bytes.now 2) c.scaled_length-length.ensures

pub returns-then-length-eq0 : goal.returns-then-length-eq0
returns-then-length-eq0 c = (
  omega arith,
  λ positive. absurd (omega arith),
  λ front rest split floating.
      let size = hexadecimal_size c.args.bytes.now front rest c.scaled_length-length.result split (sym c.begins_hexadecimal.ensures ∙ c.if-not-begins_hexadecimal.false) (longest_is (goal.at.returns-then-length-eq0 c).After-scaled_length-length) floating in
      absurd (omega (arith, size.0, c.if-length-eq0.true)),
)

pub returns-else-length-eq0 : goal.returns-else-length-eq0
returns-else-length-eq0 c =
    let hex = sym c.begins_hexadecimal.ensures ∙ c.if-not-begins_hexadecimal.false in
    let longest = longest_is (goal.at.returns-else-length-eq0 c).After-scaled_length-length in
    let made = hexadecimal_made c.args.bytes.now c.scaled_length-length.result hex longest (omega (arith, c.if-length-eq0.false)) in (
      made.0,
      λ _. made.1,
      λ front rest split floating. (hexadecimal_size c.args.bytes.now front rest c.scaled_length-length.result split hex longest floating).1,
    )
