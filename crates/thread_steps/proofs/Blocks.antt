-- The blocks of calls.
use Rattle.std.proofs.Common.{◌≡◌, ℕ, zero, suc, ◌+◌, Bool, true, false, List, [], ◌∷◌, ◌++◌, length, refl, ap, sym, ◌∙◌, subst, arith}
use Rattle.std.specs.Prelude.{◌==◌, ◌&&◌, slice_get, slice_set, IsTrue}
use Rattle.layouts.specs.declared.table.Declaration.{Declaration}
use Rattle.layouts.specs.Table.{bytes_of}
use Rattle.rc_terms.specs.declared.byte.MByte.{MByte}
use Rattle.byte_memory.specs.declared.block.Block.{Block}
use Rattle.byte_memory.specs.declared.block.Block.TheVariants.{Open, Closed}
use Rattle.byte_memory.specs.Memory.{IsAlive, length_at, closed}
use Rattle.caesium_ir.specs.declared.function.Local.{Local}
use Rattle.thread_steps.specs.Calls.{are_arguments, blocks_from}

-- closing a block that isn't alive changes nothing
pub closed_stays : (memory : List Block) (block : ℕ) → (IsAlive memory block → ⊥) → memory ≡ closed memory block
closed_stays [] block dead = refl
closed_stays (Open bytes ∷ memory) zero dead = absurd (dead refl)
closed_stays (Closed len ∷ memory) zero dead = refl
closed_stays (first ∷ memory) (suc block) dead = ap (λ rest. first ∷ rest) (closed_stays memory block dead)

-- the blocks of some locals and then of others
pub blocks_joined : (first : ℕ) (locals others : List Local) →
    blocks_from first locals ++ blocks_from (first + length locals) others ≡ blocks_from first (locals ++ others)
blocks_joined first [] others = ap (λ n. blocks_from n others) (omega arith)
blocks_joined first (local ∷ locals) others =
    let next : first + suc (length locals) ≡ (first + 1) + length locals = omega arith in
    ap (λ rest. first ∷ rest)
    (ap (λ n. blocks_from (first + 1) locals ++ blocks_from n others) next ∙ blocks_joined (first + 1) locals others)

refused : (b : Bool) → (b && false) ≡ false
refused true = refl
refused false = refl

-- another number of arguments than parameters doesn't fit
pub not_arguments : (table : List Declaration) (parameters : List Local) (arguments : List (List MByte)) →
    (length parameters ≡ length arguments → ⊥) → are_arguments table parameters arguments ≡ false
not_arguments table [] [] other = absurd (other refl)
not_arguments table [] (argument ∷ arguments) other = refl
not_arguments table (parameter ∷ parameters) [] other = refl
not_arguments table (parameter ∷ parameters) (argument ∷ arguments) other =
    let fits = length argument == bytes_of table parameter.layout in
    ap (λ rest. fits && rest) (not_arguments table parameters arguments (λ same. other (ap suc same))) ∙ refused fits

-- the blocks that were opened for parameters, and then for other locals
pub opened_blocks : (first middle : ℕ) (parameters others opened opened_others : List Local) (none some all : List ℕ) →
    opened ≡ parameters → opened_others ≡ others → none ≡ [] → some ≡ none ++ blocks_from first opened →
    middle ≡ first + length opened → all ≡ some ++ blocks_from middle opened_others →
    all ≡ blocks_from first (parameters ++ others)
opened_blocks first middle parameters others opened opened_others none some all same same_others empty front next is =
    let start : some ≡ blocks_from first parameters =
    front ∙ ap (λ xs. xs ++ blocks_from first opened) empty ∙ ap (blocks_from first) same in
    let behind : blocks_from middle opened_others ≡ blocks_from (first + length parameters) others =
    ap (λ n. blocks_from n opened_others) (next ∙ ap (λ (xs : List Local). first + length xs) same)
    ∙ ap (blocks_from (first + length parameters)) same_others in
    is ∙ ap (λ xs. xs ++ blocks_from middle opened_others) start ∙ ap (λ xs. blocks_from first parameters ++ xs) behind
    ∙ blocks_joined first parameters others
