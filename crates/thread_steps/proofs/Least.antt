-- The least byte for which accesses conflict.
use Rattle.std.proofs.Common.{◌≡◌, ◌≢◌, ℕ, zero, suc, ◌+◌, ◌<◌, ◌≤◌, ◌⊎◌, inl, inr, Bool, true, false, max, min, List, [], ◌∷◌, ◌++◌, length, refl, ap, sym, ◌∙◌, subst, map, take, get_or, arith}
use Rattle.std.proofs.Common.{ℤ, pos, negsuc, ◌≤ℤ◌, ◌<ℤ◌, ◌+ℤ◌}
use Rattle.std.specs.Prelude.{Option, Some, None, IsTrue, if◌then◌else◌, ◌==◌, nat_lt, not, ◌&&◌, ◌||◌, int_lt, Contains, slice_get}
use Rattle.std.proofs.lemmas.Int.{ints}
use Rattle.std.proofs.lemmas.Bool.Decides.{Decides-eqb, Decides-ltb, eqb_tells}
use Rattle.rc_terms.specs.declared.location.Loc.TheVariants.{Null, At}
use Rattle.byte_memory.specs.declared.memory.Memory.{Memory}
use Rattle.byte_memory.specs.Memory.{length_at}
use Rattle.thread_steps.specs.declared.access.Access.{Access}
use Rattle.thread_steps.specs.declared.access.Touched.{Touched}
use Rattle.thread_steps.specs.declared.access.Touched.TheVariants.{Range, Block}
use Rattle.thread_steps.specs.declared.races.ByteAt.{ByteAt}
use Rattle.thread_steps.specs.declared.races.Interval.{Interval}
use Rattle.thread_steps.specs.Access.{IsIn, closes}
use Rattle.thread_steps.specs.Accesses.{one_or_none}
use Rattle.thread_steps.specs.Race.{Conflicts, ConflictsAt, IsByteUpTo}
use Rattle.thread_steps.specs.FindRace.{from_zero, interval, conflict, meet, common, is_before, earlier, IsFirst, IsLeast, MeetsOne, Meet}

-- the order of bytes
up_to_trans : (a i b j c k : ℕ) → IsByteUpTo a i b j → IsByteUpTo b j c k → IsByteUpTo a i c k
up_to_trans a i b j c k (inl h) (inl g) = inl (omega arith)
up_to_trans a i b j c k (inl h) (inr g) = let same : b ≡ c = g.0 in inl (omega arith)
up_to_trans a i b j c k (inr h) (inl g) = let same : a ≡ b = h.0 in inl (omega arith)
up_to_trans a i b j c k (inr h) (inr g) =
    let low : i ≤ j = h.1 in let high : j ≤ k = g.1 in inr (h.0 ∙ g.0, omega arith)

split_or : (a b : Bool) → (a || b) ≡ true → (a ≡ true) ⊎ (b ≡ true)
split_or true b h = inl refl
split_or false b h = inr h

pub split_and : (a b : Bool) → (a && b) ≡ true → (a ≡ true) × (b ≡ true)
split_and true b h = (refl, h)
split_and false b h = cc

pub join_and : (a b : Bool) → a ≡ true → b ≡ true → (a && b) ≡ true
join_and true b h k = k
join_and false b h k = cc

int_before : (m n : ℕ) → int_lt (pos m) (pos n) ≡ true → m < n
int_before m n h = grind (arith, ints)

int_not_before : (m n : ℕ) → int_lt (pos m) (pos n) ≡ false → n ≤ m
int_not_before m n h = grind (arith, ints)

neither : (a b : Bool) → (a || b) ≡ false → (a ≡ false) × (b ≡ false)
neither true b h = cc
neither false b h = (refl, h)

second_false : (a b : Bool) → a ≡ true → (a && b) ≡ false → b ≡ false
second_false true b h g = g
second_false false b h g = cc

true_false : true ≡ false → ⊥
true_false h = cc

below_or_not : (a b : ℕ) → (a < b) ⊎ (b ≤ a)
below_or_not a zero = inr (omega arith)
below_or_not zero (suc b) = inl (omega arith)
below_or_not (suc a) (suc b) = elim (below_or_not a b) [
  | inl h ↦ inl (omega arith)
  | inr h ↦ inr (omega arith)
]

not_below : (a b : ℕ) → nat_lt a b ≡ false → b ≤ a
not_below a b h = elim (below_or_not a b) [
  | inl g ↦ absurd (true_false (sym ((Decides-ltb a b).1 g) ∙ h))
  | inr g ↦ g
]

strictly : (a b : ℕ) → b ≤ a → a ≢ b → b < a
strictly a b h other = omega (arith, other)

-- what the test of two bytes says
tested_true : (one other : ByteAt) (m n : ℕ) → one.offset ≡ pos m → other.offset ≡ pos n →
    is_before one other ≡ true → IsByteUpTo one.block m other.block n
tested_true one other m n is also h =
    elim (split_or (nat_lt one.block other.block) _ h) [
      | inl g ↦ inl ((Decides-ltb one.block other.block).0 g)
      | inr g ↦ (let parts = split_and (one.block == other.block) (int_lt one.offset other.offset) g in
          let same : one.block ≡ other.block = (Decides-eqb one.block other.block).0 parts.0 in
          let least = int_before m n (subst (λ z. int_lt (pos m) z ≡ true) also
          (subst (λ z. int_lt z other.offset ≡ true) is parts.1)) in
          inr (same, omega arith))
    ]

tested_false : (one other : ByteAt) (m n : ℕ) → one.offset ≡ pos m → other.offset ≡ pos n →
    is_before one other ≡ false → IsByteUpTo other.block n one.block m
tested_false one other m n is also h =
    let blocks = neither (nat_lt one.block other.block) _ h in
    let far : other.block ≤ one.block = not_below one.block other.block blocks.0 in
    elim (eqb_tells one.block other.block) [
      | inl g ↦ (let offsets : int_lt one.offset other.offset ≡ false =
          second_false (one.block == other.block) _ g.0 blocks.1 in
          let least = int_not_before m n (subst (λ z. int_lt (pos m) z ≡ false) also
          (subst (λ z. int_lt z other.offset ≡ false) is offsets)) in
          inr (sym g.1, least))
      | inr g ↦ inl (strictly one.block other.block far g.1)
    ]

-- the earlier of the least bytes of two properties is the least of both
chosen : (P Q : ℕ → ℕ → Type 0) (one other : ByteAt) → IsFirst P one → IsFirst Q other → (b : Bool) →
    is_before other one ≡ b → IsLeast (λ c o. P c o ⊎ Q c o) (if b then Some other else Some one)
chosen P Q one other p q true h = record {
  offset = q.offset;
  is = q.is;
  holds = inr q.holds;
  first = λ c o found. elim found [
    | inl g ↦ up_to_trans other.block q.offset one.block p.offset c o (tested_true other one q.offset p.offset q.is p.is h)
        (p.first c o g)
    | inr g ↦ q.first c o g
  ];
}
chosen P Q one other p q false h = record {
  offset = p.offset;
  is = p.is;
  holds = inl p.holds;
  first = λ c o found. elim found [
    | inl g ↦ p.first c o g
    | inr g ↦ up_to_trans one.block p.offset other.block q.offset c o (tested_false other one q.offset p.offset q.is p.is h)
        (q.first c o g)
  ];
}

pub combined : (P Q : ℕ → ℕ → Type 0) (x y : Option ByteAt) → IsLeast P x → IsLeast Q y →
    IsLeast (λ c o. P c o ⊎ Q c o) (earlier x y)
combined P Q None None p q = λ c o found. elim found [
  | inl g ↦ p c o g
  | inr g ↦ q c o g
]
combined P Q None (Some other) p q = record {
  offset = q.offset;
  is = q.is;
  holds = inr q.holds;
  first = λ c o found. elim found [
    | inl g ↦ absurd (p c o g)
    | inr g ↦ q.first c o g
  ];
}
combined P Q (Some one) None p q = record {
  offset = p.offset;
  is = p.is;
  holds = inl p.holds;
  first = λ c o found. elim found [
    | inl g ↦ p.first c o g
    | inr g ↦ absurd (q c o g)
  ];
}
combined P Q (Some one) (Some other) p q = chosen P Q one other p q (is_before other one) refl

-- the least byte of a property is that of another that says the same
pub same_least : (P Q : ℕ → ℕ → Type 0) (x : Option ByteAt) → ((c o : ℕ) → P c o → Q c o) →
    ((c o : ℕ) → Q c o → P c o) → IsLeast P x → IsLeast Q x
same_least P Q None there back p = λ c o h. p c o (back c o h)
same_least P Q (Some at) there back p = record {
  offset = p.offset;
  is = p.is;
  holds = there at.block p.offset p.holds;
  first = λ c o h. p.first c o (back c o h);
}

-- lists that are joined
pub one_joined : (memory : Memory) (one : Access) (xs ys : List Access) (c o : ℕ) →
    MeetsOne memory one (xs ++ ys) c o → MeetsOne memory one xs c o ⊎ MeetsOne memory one ys c o
one_joined memory one [] ys c o h = inr h
one_joined memory one (x ∷ xs) ys c o (inl h) = inl (inl h)
one_joined memory one (x ∷ xs) ys c o (inr h) = elim (one_joined memory one xs ys c o h) [
  | inl g ↦ inl (inr g)
  | inr g ↦ inr g
]

pub one_split : (memory : Memory) (one : Access) (xs ys : List Access) (c o : ℕ) →
    MeetsOne memory one xs c o ⊎ MeetsOne memory one ys c o → MeetsOne memory one (xs ++ ys) c o
one_split memory one [] ys c o (inl h) = absurd h
one_split memory one [] ys c o (inr h) = h
one_split memory one (x ∷ xs) ys c o (inl (inl h)) = inl h
one_split memory one (x ∷ xs) ys c o (inl (inr h)) = inr (one_split memory one xs ys c o (inl h))
one_split memory one (x ∷ xs) ys c o (inr h) = inr (one_split memory one xs ys c o (inr h))

pub all_joined : (memory : Memory) (xs ys others : List Access) (c o : ℕ) →
    Meet memory (xs ++ ys) others c o → Meet memory xs others c o ⊎ Meet memory ys others c o
all_joined memory [] ys others c o h = inr h
all_joined memory (x ∷ xs) ys others c o (inl h) = inl (inl h)
all_joined memory (x ∷ xs) ys others c o (inr h) = elim (all_joined memory xs ys others c o h) [
  | inl g ↦ inl (inr g)
  | inr g ↦ inr g
]

pub all_split : (memory : Memory) (xs ys others : List Access) (c o : ℕ) →
    Meet memory xs others c o ⊎ Meet memory ys others c o → Meet memory (xs ++ ys) others c o
all_split memory [] ys others c o (inl h) = absurd h
all_split memory [] ys others c o (inr h) = h
all_split memory (x ∷ xs) ys others c o (inl (inl h)) = inl h
all_split memory (x ∷ xs) ys others c o (inl (inr h)) = inr (all_split memory xs ys others c o (inl h))
all_split memory (x ∷ xs) ys others c o (inr h) = inr (all_split memory xs ys others c o (inr h))

pub one_least_joined : (memory : Memory) (one : Access) (xs ys : List Access) (x y : Option ByteAt) →
    IsLeast (MeetsOne memory one xs) x → IsLeast (MeetsOne memory one ys) y →
    IsLeast (MeetsOne memory one (xs ++ ys)) (earlier x y)
one_least_joined memory one xs ys x y p q =
    same_least (λ c o. MeetsOne memory one xs c o ⊎ MeetsOne memory one ys c o) (MeetsOne memory one (xs ++ ys))
    (earlier x y) (one_split memory one xs ys) (one_joined memory one xs ys)
    (combined (MeetsOne memory one xs) (MeetsOne memory one ys) x y p q)

pub all_least_joined : (memory : Memory) (xs ys others : List Access) (x y : Option ByteAt) →
    IsLeast (Meet memory xs others) x → IsLeast (Meet memory ys others) y →
    IsLeast (Meet memory (xs ++ ys) others) (earlier x y)
all_least_joined memory xs ys others x y p q =
    same_least (λ c o. Meet memory xs others c o ⊎ Meet memory ys others c o) (Meet memory (xs ++ ys) others)
    (earlier x y) (all_split memory xs ys others) (all_joined memory xs ys others)
    (combined (Meet memory xs others) (Meet memory ys others) x y p q)

only : (A : Type 0) → A ⊎ ⊥ → A
only A (inl a) = a
only A (inr h) = absurd h

-- one access alone
pub only_one : (memory : Memory) (one other : Access) (x : Option ByteAt) → IsLeast (ConflictsAt memory one other) x →
    IsLeast (MeetsOne memory one (other ∷ [])) x
only_one memory one other x p =
    same_least (ConflictsAt memory one other) (MeetsOne memory one (other ∷ [])) x (λ c o h. inl h)
    (λ c o h. only (ConflictsAt memory one other c o) h) p

pub only_all : (memory : Memory) (one : Access) (others : List Access) (x : Option ByteAt) →
    IsLeast (MeetsOne memory one others) x → IsLeast (Meet memory (one ∷ []) others) x
only_all memory one others x p =
    same_least (MeetsOne memory one others) (Meet memory (one ∷ []) others) x (λ c o h. inl h)
    (λ c o h. only (MeetsOne memory one others c o) h) p

-- a byte of an access lies in its interval
zero_le : (z : ℤ) (o : ℕ) → z ≤ℤ pos o → from_zero z ≤ o
zero_le (pos n) o h = omega (arith, ints)
zero_le (negsuc n) o h = omega arith

zero_ge : (z : ℤ) (o : ℕ) → from_zero z ≤ o → z ≤ℤ pos o
zero_ge (pos n) o h = omega (arith, ints)
zero_ge (negsuc n) o h = omega (arith, ints)

zero_lt : (z : ℤ) (o : ℕ) → pos o <ℤ z → o < from_zero z
zero_lt (pos n) o h = omega (arith, ints)
zero_lt (negsuc n) o h = absurd (omega (arith, ints))

zero_gt : (z : ℤ) (o : ℕ) → o < from_zero z → pos o <ℤ z
zero_gt (pos n) o h = omega (arith, ints)
zero_gt (negsuc n) o h = absurd (omega arith)

pub record Within (i : Interval) (c o : ℕ) : Type 0 where
  pub block : i.block ≡ c
  pub low : i.low ≤ o
  pub high : o < i.high

within : (memory : Memory) (bytes : Touched) (c o : ℕ) → IsIn memory bytes c o → Within (interval memory bytes) c o
within memory (Range Null size) c o h = absurd h
within memory (Range (At block offset) size) c o h = record {
  block = h.0;
  low = zero_le offset o h.1;
  high = zero_lt (offset +ℤ pos size) o h.2;
}
within memory (Block block) c o h =
    record { block = h.0; low = omega arith; high = subst (λ n. o < length_at memory n) (sym h.0) h.1 }

is_in : (memory : Memory) (bytes : Touched) (c o : ℕ) → Within (interval memory bytes) c o → IsIn memory bytes c o
is_in memory (Range Null size) c o h = let high : o < 0 = h.high in absurd (omega arith)
is_in memory (Range (At block offset) size) c o h =
    (h.block, zero_ge offset o h.low, zero_gt (offset +ℤ pos size) o h.high)
is_in memory (Block block) c o h = (h.block, subst (λ n. o < length_at memory n) h.block h.high)

-- two intervals with a byte in common
meet_at : (one other : Interval) (c o : ℕ) → Within one c o → Within other c o → meet one other ≡ true
meet_at one other c o h g =
    let same : one.block ≡ other.block = h.block ∙ sym g.block in
    let low : one.low ≤ o = h.low in let high : o < one.high = h.high in
    let low_other : other.low ≤ o = g.low in let high_other : o < other.high = g.high in
    join_and (one.block == other.block) _ ((Decides-eqb one.block other.block).1 same)
    ((Decides-ltb (max one.low other.low) (min one.high other.high)).1 (omega arith))

first_of : (one other : Interval) → meet one other ≡ true →
    Within one one.block (max one.low other.low) × Within other one.block (max one.low other.low)
first_of one other h =
    let parts = split_and (one.block == other.block) _ h in
    let same : one.block ≡ other.block = (Decides-eqb one.block other.block).0 parts.0 in
    let below : max one.low other.low < min one.high other.high =
    (Decides-ltb (max one.low other.low) (min one.high other.high)).0 parts.1 in (
      record { block = refl; low = omega arith; high = omega arith },
      record { block = sym same; low = omega arith; high = omega arith },
    )

conflicts : (one other : Access) → conflict one other ≡ true → Conflicts one other
conflicts one other h =
    let parts = split_and (one.writes || other.writes) (not (one.atomic && other.atomic)) h in
    record { written = parts.0; plain = parts.1 }

found_if : (memory : Memory) (one other : Access) (b : Bool) →
    (conflict one other && meet (interval memory one.bytes) (interval memory other.bytes)) ≡ b →
    IsLeast (ConflictsAt memory one other) (if b then Some (record {
      block = (interval memory one.bytes).block;
      offset = pos (max (interval memory one.bytes).low (interval memory other.bytes).low);
    }) else None)
found_if memory one other true h =
    let here = interval memory one.bytes in
    let there = interval memory other.bytes in
    let parts = split_and (conflict one other) (meet here there) h in
    let both = first_of here there parts.1 in
    record {
      offset = max here.low there.low;
      is = refl;
      holds = record {
        conflict = conflicts one other parts.0;
        touches = is_in memory one.bytes here.block (max here.low there.low) both.0;
        touched = is_in memory other.bytes here.block (max here.low there.low) both.1;
      };
      first = λ c o at.
          let a = within memory one.bytes c o at.touches in
          let b = within memory other.bytes c o at.touched in
          let low : here.low ≤ o = a.low in let low_other : there.low ≤ o = b.low in
          inr (a.block, omega arith);
    }
found_if memory one other false h = λ c o at.
    let a = within memory one.bytes c o at.touches in
    let b = within memory other.bytes c o at.touched in
    let both = meet_at (interval memory one.bytes) (interval memory other.bytes) c o a b in
    let clash = join_and (one.writes || other.writes) _ at.conflict.written at.conflict.plain in
    true_false (sym (join_and (conflict one other) _ clash both) ∙ h)

pub common_least : (memory : Memory) (one other : Access) →
    IsLeast (ConflictsAt memory one other) (common memory one other)
common_least memory one other =
    found_if memory one other (conflict one other && meet (interval memory one.bytes) (interval memory other.bytes)) refl

-- the same of what was found
pub common_found : (memory : Memory) (one other : Access) (x : Option ByteAt) → x ≡ common memory one other →
    IsLeast (ConflictsAt memory one other) x
common_found memory one other x is =
    subst (λ y. IsLeast (ConflictsAt memory one other) y) (sym is) (common_least memory one other)

pub common_one : (memory : Memory) (one other : Access) (o : Option Access) (x : Option ByteAt) → o ≡ Some other →
    x ≡ common memory one other → IsLeast (MeetsOne memory one (one_or_none o)) x
common_one memory one other o x some is =
    subst (λ p. IsLeast (MeetsOne memory one (one_or_none p)) x) (sym some)
    (only_one memory one other x (common_found memory one other x is))

-- the next block's access
pub one_more : (memory : Memory) (one other : Access) (xs all : List Access) (x y z : Option ByteAt) →
    all ≡ xs ++ other ∷ [] → IsLeast (MeetsOne memory one xs) x → IsLeast (MeetsOne memory one (other ∷ [])) y →
    z ≡ earlier x y → IsLeast (MeetsOne memory one all) z
one_more memory one other xs all x y z is p q both =
    subst (λ l. IsLeast (MeetsOne memory one l) z) (sym is)
    (subst (λ w. IsLeast (MeetsOne memory one (xs ++ other ∷ [])) w) (sym both)
    (one_least_joined memory one xs (other ∷ []) x y p q))

pub all_more : (memory : Memory) (one : Access) (xs all others : List Access) (x y z : Option ByteAt) →
    all ≡ xs ++ one ∷ [] → IsLeast (Meet memory xs others) x → IsLeast (MeetsOne memory one others) y →
    z ≡ earlier x y → IsLeast (Meet memory all others) z
all_more memory one xs all others x y z is p q both =
    subst (λ l. IsLeast (Meet memory l others) z) (sym is)
    (subst (λ w. IsLeast (Meet memory (xs ++ one ∷ []) others) w) (sym both)
    (all_least_joined memory xs (one ∷ []) others x y p (only_all memory one others y q)))

-- the blocks so far, and one more
more_closed : (blocks : List ℕ) (i k : ℕ) → k ≡ i + 1 → i < length blocks →
    map closes (take k blocks) ≡ map closes (take i blocks) ++ closes (get_or blocks i 0) ∷ []
more_closed [] i k e h = absurd (omega arith)
more_closed (b ∷ blocks) zero zero e h = absurd (omega arith)
more_closed (b ∷ blocks) zero (suc k) e h =
    let none : 0 ≡ k = omega arith in
    subst (λ n. closes b ∷ map closes (take n blocks) ≡ closes b ∷ []) none refl
more_closed (b ∷ blocks) (suc i) zero e h = absurd (omega arith)
more_closed (b ∷ blocks) (suc i) (suc k) e h =
    ap (λ xs. closes b ∷ xs) (more_closed blocks i k (omega arith) (omega arith))

pub closed_more : (blocks : List ℕ) (i : ℕ) → i < length blocks →
    map closes (take (i + 1) blocks) ≡ map closes (take i blocks) ++ closes (get_or blocks i 0) ∷ []
closed_more blocks i h = more_closed blocks i (i + 1) refl h

pub closed_all : (blocks : List ℕ) (i : ℕ) → length blocks ≤ i → take i blocks ≡ blocks
closed_all [] zero h = refl
closed_all [] (suc i) h = refl
closed_all (b ∷ blocks) zero h = absurd (omega arith)
closed_all (b ∷ blocks) (suc i) h = ap (λ xs. b ∷ xs) (closed_all blocks i (omega arith))
