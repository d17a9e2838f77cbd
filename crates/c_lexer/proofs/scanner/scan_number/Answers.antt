use Rattle.std.proofs.Common.{◌≡◌, ◌++◌, ◌≤◌, List, ℕ, length, arith}
use Rattle.c_lexer.specs.Floating.{IsFloating}
use Rattle.c_lexer.proofs.Scans.{floating_scanned}
use Rattle.c_lexer.proofs.ScanNumbers.{integer_scanned, no_number_begins, opens_number}
use Rattle.c_lexer.proofs.scanner.scan_number.Goals as goal
use Rattle.c_lexer.proofs.scanner.scan_number.Goals.{After-word_length-length}

none_floating : (c : After-word_length-length) → (front rest : List ℕ) → c.args.bytes.now ≡ front ++ rest → IsFloating front → length front ≤ 0
none_floating c front rest split floating = omega (arith, c.floating_length-floating.ensures.2 front rest split floating)

pub returns-then-floating-gt0 : goal.returns-then-floating-gt0
returns-then-floating-gt0 c = floating_scanned c.args.bytes.now c.floating_length-floating.result c.requires (omega arith) c.floating_length-floating.ensures

pub returns-in-Some : goal.returns-in-Some
returns-in-Some c =
    integer_scanned c.args.bytes.now c.word_length-length.result c.requires (none_floating (goal.at.returns-in-Some c).After-word_length-length) c.word_length-length.ensures c.in-Some.constant c.in-Some.ensures.found

pub returns-in-None : goal.returns-in-None
returns-in-None c =
    let none = none_floating (goal.at.returns-in-None c).After-word_length-length in (
      no_number_begins c.args.bytes.now c.word_length-length.result c.requires none c.word_length-length.ensures c.in-None.ensures.none,
      opens_number c.args.bytes.now c.word_length-length.result c.requires none c.word_length-length.ensures,
    )
