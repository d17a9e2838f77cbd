-- The lines that an accepted file is answered with (this project's own). They are fixed: no definition calls them a
-- derivation yet.
use Rattle.std.specs.Prelude.{ℕ, List, [], ◌∷◌, Some, None}
use Rattle.refinedc_cli.specs.declared.listing.Certificate.TheVariants.{Trivial}
use Rattle.refinedc_cli.specs.declared.listing.RuleLine.{RuleLine}

-- a line with the number of a rule alone
abbrev pub bare_line : ℕ → RuleLine
bare_line rule = record { rule = rule; certificate = None }

-- the lines of a function that returns the literal that it is declared to return: the function beside the rest (7), its
-- start (8), `goto` (17), the constant (23), `return` (22), the integer against the declared one (61), their equation,
-- which is true as it stands (2), and twice nothing left to do (1)
abbrev pub literal_lines : List RuleLine
literal_lines =
    bare_line 7 ∷ bare_line 8 ∷ bare_line 17 ∷ bare_line 23 ∷ bare_line 22 ∷ bare_line 61
    ∷ record { rule = 2; certificate = Some Trivial } ∷ bare_line 1 ∷ bare_line 1 ∷ []
