use Rattle.std.proofs.Common.{◌≡◌, map, take}
use Rattle.refinedc_cli.proofs.one_literal.have_kinds.Given as goal

-- the kinds so far are the wanted ones
abbrev pub invariant-loop-index : goal.invariant-loop-index
invariant-loop-index l = map (λ token. token.kind) (take l.index l.tokens) ≡ take l.index l.kinds
