use Rattle.std.proofs.Common.{◌+◌, ◌-◌, take, sym, ap, ◌∙◌, length, drop, subst, arith}
use Rattle.std.specs.List.{slice_range}
use Rattle.std.proofs.lemmas.List.{take_rest, drop-drop, length-drop}
use Rattle.c_lexer.specs.Scanning.Directives.{IsConstantLine}
use Rattle.c_lexer.proofs.DirectiveLaws.{same_token_behind}
use Rattle.c_lexer.specs.declared.token.TokenKind.TheVariants as kinds
use Rattle.c_lexer.specs.Directives.{TokenBehindGap}
use Rattle.c_lexer.proofs.directive.define.Goals as goal

pub returns-in-Some-constant_line : goal.returns-in-Some-constant_line
returns-in-Some-constant_line c =
    let bytes = c.args.bytes.now in
    let name = c.in-Some.name in
    let at = c.in-Some.ensures in
    let rest = take_rest bytes name.end in
    let line = c.in-Some-constant_line.ensures in
    let n = c.in-Some-constant_line.length in
    let kind = c.in-Some-constant_line.kind in (
      omega (arith, line.0, ap length rest, length-drop name.end bytes, at.1.1),
      at.1.0,
      at.1.1,
      (
        drop name.end bytes,
        subst (λ k. TokenBehindGap bytes k (slice_range bytes name.start name.end) (drop name.end bytes)) at.0 at.1.2,
        subst (λ l. IsConstantLine l kind (drop (name.end + n) bytes)) rest
            (subst (λ l. IsConstantLine (take (length bytes - name.end) (drop name.end bytes)) kind l) (ap (drop n) rest ∙ drop-drop n name.end bytes) line.1),
      ),
    )

pub returns-in-None-constant_line : goal.returns-in-None-constant_line
returns-in-None-constant_line c = λ text kind rest line.
    let bytes = c.args.bytes.now in
    let same = same_token_behind bytes kinds.Identifier c.in-Some.name.kind text _ line.0 (drop c.in-Some.name.end bytes) line.1 c.in-Some.ensures.1.2 in
    c.in-None-constant_line.ensures kind rest (subst (λ l. IsConstantLine l kind rest) (same.rest ∙ sym (take_rest bytes c.in-Some.name.end)) line.2)

pub returns-in-None : goal.returns-in-None
returns-in-None c = λ text kind rest line. c.in-None.ensures text line.0 line.1
