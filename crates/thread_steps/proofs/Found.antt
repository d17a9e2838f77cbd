-- What is found in a well-formed program is well formed.
use Rattle.std.proofs.Common.{◌≡◌, ℕ, Bool, true, false, List, [], ◌∷◌, None, Bor, subst, sym}
use Rattle.std.specs.Prelude.{if◌then◌else◌, Option, Some, IfSome}
use Rattle.std.specs.Option.{option_copied}
use Rattle.std.specs.List.{AllByRecursion}
use Rattle.std.specs.Str.{bytes_eq}
use Rattle.caesium_ir.specs.declared.block.Block.{Block}
use Rattle.caesium_ir.specs.declared.function.Function.{Function}
use Rattle.caesium_ir.specs.declared.program.Program.{Program}
use Rattle.caesium_ir.specs.Block.{block_labelled}
use Rattle.caesium_ir.specs.Function.{function_named}
use Rattle.caesium_ir.specs.WellFormed.{IsWellFormedBlock, IsWellFormedFunction}

-- the first is chosen, or another one is found
chosen : {X : Type 0} (P : X → Type 0) (here : Bool) (first found : X) (others : Option X) → P first →
    (others ≡ Some found → P found) → (if here then Some first else others) ≡ Some found → P found
chosen P true first found others p q h = subst P (cc) p
chosen P false first found others p q h = q h

pub known_function : (program : Program) (functions : List Function) (name : List ℕ) (found : Function) →
    AllByRecursion (IsWellFormedFunction program) functions → function_named functions name ≡ Some found →
    IsWellFormedFunction program found
known_function program [] name found all is = cc
known_function program (function ∷ functions) name found all is =
    chosen (IsWellFormedFunction program) (bytes_eq function.name name) function found (function_named functions name)
    all.0 (λ more. known_function program functions name found all.1 more) is

pub known_block : (program : Program) (function : Function) (blocks : List Block) (label : List ℕ) (found : Block) →
    AllByRecursion (IsWellFormedBlock program function) blocks → block_labelled blocks label ≡ Some found →
    IsWellFormedBlock program function found
known_block program function [] label found all is = cc
known_block program function (block ∷ blocks) label found all is =
    chosen (IsWellFormedBlock program function) (bytes_eq block.label label) block found (block_labelled blocks label)
    all.0 (λ more. known_block program function blocks label found all.1 more) is

-- what holds of the value that is found holds of what a reference to it leads to
pub led_to : {X : Type 0} (P : X → Type 0) (reference : Option (Bor X)) (found : Option X) →
    option_copied reference ≡ found → ((x : X) → found ≡ Some x → P x) → IfSome reference (λ r. P r.now)
led_to P None found same known = tt
led_to P (Some reference) found same known = known reference.now (sym same)
