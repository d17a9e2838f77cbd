-- Races and what two threads' accesses have in common.
use Rattle.std.proofs.Common.{◌≡◌, ◌≢◌, ℕ, zero, suc, ◌<◌, ◌⊎◌, inl, inr, List, [], ◌∷◌, length, refl, ap, sym, ◌∙◌, subst, get_or, ◌+◌, arith}
use Rattle.std.proofs.Common.{ℤ, pos}
use Rattle.std.proofs.lemmas.Option.{slice_get_read}
use Rattle.std.specs.Prelude.{Option, Some, None, Contains, slice_get}
use Rattle.rc_terms.specs.declared.location.Loc.TheVariants.{At}
use Rattle.byte_memory.specs.declared.memory.Memory.{Memory}
use Rattle.caesium_ir.specs.declared.program.Program.{Program}
use Rattle.thread_steps.specs.declared.access.Access.{Access}
use Rattle.thread_steps.specs.declared.races.ByteAt.{ByteAt}
use Rattle.thread_steps.specs.declared.thread.Thread.{Thread}
use Rattle.thread_steps.specs.Access.{accesses_of}
use Rattle.thread_steps.specs.Configuration.{Configuration}
use Rattle.thread_steps.specs.Race.{ConflictsAt, IsRace, IsRaceUpTo, IsLeastRace, IsLeastRaceAt}
use Rattle.thread_steps.specs.FindRace.{IsFirst, IsLeast, MeetsOne, Meet, IsLeastSecond}
use Rattle.thread_steps.proofs.Least.{same_least}

cases_of : {X : Type 0} (x : X) (xs : List X) (q : X) → Contains (x ∷ xs) q → (x ≡ q) ⊎ Contains xs q
cases_of x xs q (zero, inside, is) = inl is
cases_of x xs q (suc k, inside, is) = inr (k, omega arith, is)

one_from : (memory : Memory) (one : Access) (xs : List Access) (against : Access) (c o : ℕ) → Contains xs against →
    ConflictsAt memory one against c o → MeetsOne memory one xs c o
one_from memory one [] against c o (k, inside, is) h = absurd (omega arith)
one_from memory one (x ∷ xs) against c o among h = elim (cases_of x xs against among) [
  | inl same ↦ inl (subst (λ a. ConflictsAt memory one a c o) (sym same) h)
  | inr more ↦ inr (one_from memory one xs against c o more h)
]

all_from : (memory : Memory) (xs others : List Access) (access against : Access) (c o : ℕ) → Contains xs access →
    Contains others against → ConflictsAt memory access against c o → Meet memory xs others c o
all_from memory [] others access against c o (k, inside, is) also h = absurd (omega arith)
all_from memory (x ∷ xs) others access against c o among also h = elim (cases_of x xs access among) [
  | inl same ↦ inl (one_from memory x others against c o also (subst (λ a. ConflictsAt memory a against c o) (sym same) h))
  | inr more ↦ inr (all_from memory xs others access against c o more also h)
]

later : {X : Type 0} (x : X) (xs : List X) (q : X) → Contains xs q → Contains (x ∷ xs) q
later x xs q (k, inside, is) = (suc k, omega arith, is)

one_back : (memory : Memory) (one : Access) (xs : List Access) (c o : ℕ) → MeetsOne memory one xs c o →
    (against : Access) × Contains xs against × ConflictsAt memory one against c o
one_back memory one [] c o h = absurd h
one_back memory one (x ∷ xs) c o (inl h) = (x, (0, omega arith, refl), h)
one_back memory one (x ∷ xs) c o (inr h) =
    let (against, among, found) = one_back memory one xs c o h in (against, later x xs against among, found)

pub record Clash (memory : Memory) (xs others : List Access) (c o : ℕ) : Type 0 where
  pub access : Access
  pub against : Access
  pub touches : Contains xs access
  pub touched : Contains others against
  pub at : ConflictsAt memory access against c o

all_back : (memory : Memory) (xs others : List Access) (c o : ℕ) → Meet memory xs others c o →
    Clash memory xs others c o
all_back memory [] others c o h = absurd h
all_back memory (x ∷ xs) others c o (inl h) =
    let (against, among, found) = one_back memory x others c o h in
    record { access = x; against = against; touches = (0, omega arith, refl); touched = among; at = found }
all_back memory (x ∷ xs) others c o (inr h) =
    let clash = all_back memory xs others c o h in
    record {
      access = clash.access;
      against = clash.against;
      touches = later x xs clash.access clash.touches;
      touched = clash.touched;
      at = clash.at;
    }

race_meets : (program : Program) (config : Configuration) (i j : ℕ) (one other : Thread) →
    slice_get config.threads i ≡ Some one → slice_get config.threads j ≡ Some other → (c o : ℕ) →
    IsRace program config i j c o → Meet config.memory (accesses_of program one) (accesses_of program other) c o
race_meets program config i j one other is also c o race =
    let first : race.one ≡ one = cc (race.one_is, is) in
    let second : race.other ≡ other = cc (race.other_is, also) in
    let touches = subst (λ t. Contains (accesses_of program t) race.access) first race.touches in
    let touched = subst (λ t. Contains (accesses_of program t) race.against) second race.touched in
    all_from config.memory (accesses_of program one) (accesses_of program other) race.access race.against c o touches
    touched (record { conflict = race.conflict; touches = race.covers; touched = race.covered })

meets_race : (program : Program) (config : Configuration) (i j : ℕ) (one other : Thread) → i ≢ j →
    slice_get config.threads i ≡ Some one → slice_get config.threads j ≡ Some other → (c o : ℕ) →
    Meet config.memory (accesses_of program one) (accesses_of program other) c o → IsRace program config i j c o
meets_race program config i j one other different is also c o meets =
    let clash = all_back config.memory (accesses_of program one) (accesses_of program other) c o meets in
    record {
      different = different;
      one = one;
      other = other;
      one_is = is;
      other_is = also;
      access = clash.access;
      against = clash.against;
      touches = clash.touches;
      touched = clash.touched;
      covers = clash.at.touches;
      covered = clash.at.touched;
      conflict = clash.at.conflict;
    }

-- the least byte for which two threads race
pub race_least : (program : Program) (config : Configuration) (i j : ℕ) (one other : Thread) (x : Option ByteAt) →
    i ≢ j → slice_get config.threads i ≡ Some one → slice_get config.threads j ≡ Some other →
    IsLeast (Meet config.memory (accesses_of program one) (accesses_of program other)) x →
    IsLeast (IsRace program config i j) x
race_least program config i j one other x different is also least =
    same_least (Meet config.memory (accesses_of program one) (accesses_of program other)) (IsRace program config i j) x
    (meets_race program config i j one other different is also) (race_meets program config i j one other is also) least

compared : (a b : ℕ) → (a < b) ⊎ ((a ≡ b) ⊎ (b < a))
compared zero zero = inr (inl refl)
compared zero (suc b) = inl (omega arith)
compared (suc a) zero = inr (inr (omega arith))
compared (suc a) (suc b) = elim (compared a b) [
  | inl h ↦ inl (omega arith)
  | inr h ↦ elim h [
    | inl g ↦ inr (inl (ap suc g))
    | inr g ↦ inr (inr (omega arith))
  ]
]

-- the least second thread of the least first one, and the least byte
least_of : (program : Program) (config : Configuration) (i j : ℕ) (at : ByteAt) →
    IsFirst (IsRace program config i j) at →
    ((k c o : ℕ) → k < j → IsRace program config i k c o → ⊥) →
    ((h k c o : ℕ) → h < i → IsRace program config h k c o → ⊥) → (n : ℕ) → IsRace program config i j at.block n →
    ((c o : ℕ) → IsRace program config i j c o → IsRaceUpTo i j at.block n i j c o) →
    IsLeastRace program config i j at.block n
least_of program config i j at first seconds firsts n race up = record {
  race = race;
  least = λ k l c o other. elim (compared i k) [
    | inl h ↦ inl h
    | inr h ↦ elim h [
      | inl same ↦ elim (compared j l) [
        | inl g ↦ inr (same, inl g)
        | inr g ↦ elim g [
          | inl also ↦ subst (λ a. IsRaceUpTo i j at.block n a l c o) same
              (subst (λ b. IsRaceUpTo i j at.block n i b c o) also
              (up c o (subst (λ b. IsRace program config i b c o) (sym also)
              (subst (λ a. IsRace program config a l c o) (sym same) other))))
          | inr before ↦ absurd (seconds l c o before (subst (λ a. IsRace program config a l c o) (sym same) other))
        ]
      ]
      | inr before ↦ absurd (firsts k l c o before other)
    ]
  ];
}

pub least_race : (program : Program) (config : Configuration) (i j : ℕ) (at : ByteAt) →
    IsFirst (IsRace program config i j) at →
    ((k c o : ℕ) → k < j → IsRace program config i k c o → ⊥) →
    ((h k c o : ℕ) → h < i → IsRace program config h k c o → ⊥) →
    IsLeastRaceAt program config i j (At at.block at.offset)
least_race program config i j at first seconds firsts =
    let up = λ (c o : ℕ) (race : IsRace program config i j c o). inr (refl, inr (refl, first.first c o race)) in
    let least = least_of program config i j at first seconds firsts first.offset first.holds up in
    subst (λ z. IsLeastRaceAt program config i j (At at.block z)) (sym first.is) least

-- what is found at a number stands within the list
pub found_inside : {X : Type 0} (xs : List X) (i : ℕ) (x : X) → slice_get xs i ≡ Some x → i < length xs
found_inside [] i x at = cc
found_inside (y ∷ xs) zero x at = omega arith
found_inside (y ∷ xs) (suc i) x at = let more = found_inside xs i x at in omega arith

-- what holds below a number and at it
pub below_more : (Q : ℕ → Type 0) (n : ℕ) → ((k : ℕ) → k < n → Q k) → Q n → (k : ℕ) → k < n + 1 → Q k
below_more Q n below here k under = elim (compared k n) [
  | inl h ↦ below k h
  | inr h ↦ elim h [
    | inl same ↦ subst Q (sym same) here
    | inr far ↦ absurd (omega arith)
  ]
]

-- the least byte for which two threads race, from what the code reads
pub race_found : (program : Program) (config : Configuration) (threads : List Thread) (memory : Memory) (i j : ℕ)
    (one other : Thread) (x : Option ByteAt) → threads ≡ config.threads → memory ≡ config.memory → i ≢ j →
    i < length config.threads → j < length config.threads → one ≡ get_or threads i one → other ≡ get_or threads j other →
    IsLeast (Meet memory (accesses_of program one) (accesses_of program other)) x → IsLeast (IsRace program config i j) x
race_found program config threads memory i j one other x all same different first second is also least =
    let one_is = subst (λ ts. one ≡ get_or ts i one) all is in
    let other_is = subst (λ ts. other ≡ get_or ts j other) all also in
    let here = slice_get_read config.threads (length config.threads) i one refl first one_is in
    let there = slice_get_read config.threads (length config.threads) j other refl second other_is in
    race_least program config i j one other x different here there
    (subst (λ m. IsLeast (Meet m (accesses_of program one) (accesses_of program other)) x) same least)
