use Rattle.std.proofs.Common.{◌≡◌, ℕ, List, codes, refl, sym, subst}
use Rattle.std.specs.Prelude.{IsSome}
use Rattle.caesium_ir.specs.declared.literal_places.LiteralPlaces.{LiteralPlaces}
use Rattle.caesium_ir.specs.declared.program.Program.{Program}
use Rattle.caesium_ir.specs.Literal.{literal_program}
use Rattle.caesium_text.specs.Parts.{part_text}
use Rattle.caesium_text.proofs.tests.parts_of_a_literal.Goals as goal

-- what the program of a literal has, a program that equals it has
has_part : (program : Program) (places : LiteralPlaces) (label : List ℕ) (number : ℕ)
    → program ≡ literal_program (codes "f") 7 places
    → IsSome (part_text (literal_program (codes "f") 7 places) (codes "f") label number)
    → IsSome (part_text program (codes "f") label number)
has_part program places label number same has =
    subst (λ (p : Program). IsSome (part_text p (codes "f") label number)) (sym same) has

pub expect_part-requires-clause-has : goal.expect_part-requires-clause-has
expect_part-requires-clause-has g c = has_part _ _ (codes ".") 0 c.in_ok-program.ensures.exact refl

pub expect_part-requires-2-clause-has : goal.expect_part-requires-2-clause-has
expect_part-requires-2-clause-has g c = has_part _ _ (codes ".0") 0 c.in_ok-program.ensures.exact refl

pub expect_part-requires-3-clause-has : goal.expect_part-requires-3-clause-has
expect_part-requires-3-clause-has g c = has_part _ _ (codes ".0") 1 c.in_ok-program.ensures.exact refl

pub expect_part-requires-4-clause-has : goal.expect_part-requires-4-clause-has
expect_part-requires-4-clause-has g c = has_part _ _ (codes ".end") 0 c.in_ok-program.ensures.exact refl
