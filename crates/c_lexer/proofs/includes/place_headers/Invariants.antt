use Rattle.std.proofs.Common.{◌≡◌, ◌++◌, map, take}
use Rattle.c_lexer.proofs.includes.place_headers.Given as goal

abbrev pub invariant-loop-header : goal.invariant-loop-header
invariant-loop-header l = l.placed.items ≡ l.initial.placed.items ++ map (λ header. record { header = header; from = l.from }) (take l.header-index l.headers)
