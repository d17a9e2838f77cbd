-- What is known of a reading that found something: each of its steps did.
use Rattle.std.proofs.Common.{◌≡◌, ℕ, ◌≤◌, ◌<◌, Bool, true, false, nat_le, if◌then◌else◌, Option, Some, None, option_and_then, refl, arith}
use Rattle.std.proofs.lemmas.Option.{none-some}
use Rattle.c_grammar.specs.Input.{Input}
use Rattle.c_grammar.specs.Reading.{Reading, onward, past, either}

pub into : {A B P : Type 0} (f : A → Option B) (o : Option A) (y : B) → option_and_then f o ≡ Some y
    → ((x : A) → o ≡ Some x → f x ≡ Some y → P) → P
into f None y e k = absurd (none-some y e)
into f (Some x) y e k = k x refl e

pub into_onward : {A B P : Type 0} (r : Reading A) (f : A → Input → Option B) (y : B) → onward r f ≡ Some y
    → ((x : A) (rest : Input) → r ≡ Some (x, rest) → f x rest ≡ Some y → P) → P
into_onward None f y e k = absurd (none-some y e)
into_onward (Some x) f y e k = k x.0 x.1 refl e

pub into_past : {B P : Type 0} (r : Option Input) (f : Input → Option B) (y : B) → past r f ≡ Some y
    → ((rest : Input) → r ≡ Some rest → f rest ≡ Some y → P) → P
into_past None f y e k = absurd (none-some y e)
into_past (Some x) f y e k = k x refl e

pub into_either : {A B P : Type 0} (o : Option A) (otherwise : Option B) (f : A → Option B) (y : B) → either o otherwise f ≡ Some y
    → (o ≡ None → otherwise ≡ Some y → P) → ((x : A) → o ≡ Some x → f x ≡ Some y → P) → P
into_either None otherwise f y e none some = none refl e
into_either (Some x) otherwise f y e none some = some x refl e

pub into_if : {B P : Type 0} (b : Bool) (one other : Option B) (y : B) → if b then one else other ≡ Some y
    → (b ≡ true → one ≡ Some y → P) → (b ≡ false → other ≡ Some y → P) → P
into_if true one other y e yes_case no_case = yes_case refl e
into_if false one other y e yes_case no_case = no_case refl e

pub is_le : {a b : ℕ} → a ≤ b → nat_le a b ≡ true
is_le h = grind arith

pub is_not_le : {a b : ℕ} → b < a → nat_le a b ≡ false
is_not_le h = grind arith

pub le_is : (a b : ℕ) → nat_le a b ≡ true → a ≤ b
le_is a b h = grind arith
