-- What is found by a name where no two have one name.
use Rattle.std.proofs.Common.{◌≡◌, ℕ, zero, suc, Bool, true, false, List, [], ◌∷◌, map, refl, ap, sym, ◌∙◌, subst}
use Rattle.std.specs.Prelude.{not, ◌&&◌, ◌||◌, IsTrue, if◌then◌else◌, Option, Some, slice_get}
use Rattle.std.specs.Str.{bytes_eq}
use Rattle.std.proofs.lemmas.Slice.Eq.{bytes_eq-Decides}
use Rattle.caesium_ir.specs.declared.block.Block.{Block}
use Rattle.caesium_ir.specs.declared.function.Function.{Function}
use Rattle.caesium_ir.specs.Block.{block_labelled}
use Rattle.caesium_ir.specs.Function.{function_named}
use Rattle.caesium_ir.specs.Names.{is_among, are_distinct}

-- a name that isn't among the others, and no two of these equal
apart : (among distinct : Bool) → IsTrue (not among && distinct) → (among ≡ false) × IsTrue distinct
apart true distinct h = cc
apart false true h = (refl, cc)
apart false false h = cc

neither : (one other : Bool) → (one || other) ≡ false → (one ≡ false) × (other ≡ false)
neither true other h = cc
neither false other h = (refl, h)

-- a name that isn't among these isn't the one at a number
other_than : (name other : List ℕ) (names : List (List ℕ)) (i : ℕ) → is_among name names ≡ false →
    slice_get names i ≡ Some other → bytes_eq name other ≡ false
other_than name other [] i none at = cc
other_than name other (first ∷ names) zero none at =
    let here : bytes_eq name first ≡ false = (neither (bytes_eq name first) (is_among name names) none).0 in
    let same : first ≡ other = cc in
    subst (λ n. bytes_eq name n ≡ false) same here
other_than name other (first ∷ names) (suc i) none at =
    other_than name other names i (neither (bytes_eq name first) (is_among name names) none).1 at

equal_of : (one other : List ℕ) → bytes_eq one other ≡ true → one ≡ other
equal_of one other same = (bytes_eq-Decides one other).0 same

chosen : {X : Type 0} (b : Bool) (x : Option X) (y : Option X) → b ≡ true → (if b then x else y) ≡ x
chosen true x y h = refl
chosen false x y h = cc

passed : {X : Type 0} (b : Bool) (x : Option X) (y : Option X) → b ≡ false → (if b then x else y) ≡ y
passed true x y h = cc
passed false x y h = refl

function_name_at : (functions : List Function) (i : ℕ) (f : Function) → slice_get functions i ≡ Some f →
    slice_get (map (λ (g : Function). g.name) functions) i ≡ Some f.name
function_name_at [] i f at = cc
function_name_at (g ∷ functions) zero f at = let same : g ≡ f = cc in ap (λ (h : Function). Some h.name) same
function_name_at (g ∷ functions) (suc i) f at = function_name_at functions i f at

pub function_at : (functions : List Function) (i : ℕ) (f : Function) (name : List ℕ) →
    IsTrue (are_distinct (map (λ (g : Function). g.name) functions)) → slice_get functions i ≡ Some f →
    bytes_eq f.name name ≡ true → function_named functions name ≡ Some f
function_at [] i f name distinct at same = cc
function_at (g ∷ functions) zero f name distinct at same =
    let is : g ≡ f = cc in
    let named : bytes_eq g.name name ≡ true = subst (λ (h : Function). bytes_eq h.name name ≡ true) (sym is) same in
    chosen (bytes_eq g.name name) _ _ named ∙ ap Some is
function_at (g ∷ functions) (suc i) f name distinct at same =
    let names = map (λ (h : Function). h.name) functions in
    let split = apart (is_among g.name names) (are_distinct names) distinct in
    let other = other_than g.name f.name names i split.0 (function_name_at functions i f at) in
    passed (bytes_eq g.name name) _ _ (subst (λ n. bytes_eq g.name n ≡ false) (equal_of f.name name same) other)
    ∙ function_at functions i f name split.1 at same

block_label_at : (blocks : List Block) (i : ℕ) (b : Block) → slice_get blocks i ≡ Some b →
    slice_get (map (λ (c : Block). c.label) blocks) i ≡ Some b.label
block_label_at [] i b at = cc
block_label_at (c ∷ blocks) zero b at = let same : c ≡ b = cc in ap (λ (h : Block). Some h.label) same
block_label_at (c ∷ blocks) (suc i) b at = block_label_at blocks i b at

pub block_at : (blocks : List Block) (i : ℕ) (b : Block) (label : List ℕ) →
    IsTrue (are_distinct (map (λ (c : Block). c.label) blocks)) → slice_get blocks i ≡ Some b →
    bytes_eq b.label label ≡ true → block_labelled blocks label ≡ Some b
block_at [] i b label distinct at same = cc
block_at (c ∷ blocks) zero b label distinct at same =
    let is : c ≡ b = cc in
    let labelled : bytes_eq c.label label ≡ true = subst (λ (h : Block). bytes_eq h.label label ≡ true) (sym is) same in
    chosen (bytes_eq c.label label) _ _ labelled ∙ ap Some is
block_at (c ∷ blocks) (suc i) b label distinct at same =
    let labels = map (λ (h : Block). h.label) blocks in
    let split = apart (is_among c.label labels) (are_distinct labels) distinct in
    let other = other_than c.label b.label labels i split.0 (block_label_at blocks i b at) in
    passed (bytes_eq c.label label) _ _ (subst (λ n. bytes_eq c.label n ≡ false) (equal_of b.label label same) other)
    ∙ block_at blocks i b label split.1 at same
