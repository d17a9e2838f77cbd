-- A recursion on a count of turns, beside a loop that counts up and puts what it finds at the end of a list.
use Rattle.std.proofs.Common.{◌≡◌, ℕ, suc, ◌+◌, ◌-◌, ◌<◌, ◌≤◌, List, [], ◌++◌, Some, None, refl, ap, ◌∙◌, arith, append_assoc, sym}
use Rattle.std.proofs.lemmas.List.{append-nil}
use Rattle.c_grammar.specs.Input.{Input}
use Rattle.c_grammar.specs.Reading.{Reading, onward}

-- what was found before, and what a reading finds then
abbrev pub behind : {A : Type 0} → List A → Reading (List A) → Reading (List A)
behind found reading = onward reading (λ more to. Some (found ++ more, to))

pub one_more : {X : Type 0} {x : X} (f : ℕ → X) (n at : ℕ) → at < n → x ≡ f (n - at) → x ≡ f (suc (n - (at + 1)))
one_more f n at below e = let turn : n - at ≡ suc (n - (at + 1)) = omega arith in e ∙ ap f turn

pub no_more : {X : Type 0} {x : X} (f : ℕ → X) (n at : ℕ) → n ≤ at → x ≡ f (n - at) → x ≡ f 0
no_more f n at done e = let none : n - at ≡ 0 = omega arith in e ∙ ap f none

-- one more list found before what a reading finds
pub behind-behind : {A : Type 0} (found one : List A) (reading : Reading (List A))
    → behind found (behind one reading) ≡ behind (found ++ one) reading
behind-behind found one None = refl
behind-behind found one (Some read) = ap (λ list. Some (list, read.1)) (sym (append_assoc found one read.0))

-- nothing more
pub behind-nothing : {A : Type 0} (found : List A) (to : Input) → behind found (Some ([], to)) ≡ Some (found, to)
behind-nothing found to = ap (λ list. Some (list, to)) (append-nil found)

-- nothing was found before
pub behind-first : {A : Type 0} (reading : Reading (List A)) → reading ≡ behind [] reading
behind-first None = refl
behind-first (Some read) = refl

-- what was counted before, and what a reading counts then
abbrev pub counted_behind : ℕ → Reading ℕ → Reading ℕ
counted_behind count reading = onward reading (λ more to. Some (count + more, to))

-- one more counted
pub counted-one : (count : ℕ) (reading : Reading ℕ)
    → counted_behind count (onward reading (λ more to. Some (suc more, to))) ≡ counted_behind (count + 1) reading
counted-one count None = refl
counted-one count (Some read) = ap (λ n. Some (n, read.1)) (omega arith)

-- nothing was counted before
pub counted-first : (reading : Reading ℕ) → reading ≡ counted_behind 0 reading
counted-first None = refl
counted-first (Some read) = ap (λ n. Some (n, read.1)) (omega arith)

-- nothing more is counted
pub counted-nothing : (count : ℕ) (to : Input) → counted_behind count (Some (0, to)) ≡ Some (count, to)
counted-nothing count to = ap (λ n. Some (n, to)) (omega arith)
