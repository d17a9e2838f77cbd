-- The threads of a one-literal program: each is in one of four states, whatever order the steps come in.
use Rattle.std.proofs.Common.{◌≡◌, ℕ, zero, suc, Bool, true, inl, inr, List, [], ◌∷◌, ◌++◌, length, refl, ap}
use Rattle.std.proofs.Common.{◌∙◌, ◌<◌, pos, sym, subst, arith}
use Rattle.std.specs.Prelude.{codes, ◌==◌, Option, Some, None, Result, Ok, Err, if◌then◌else◌, option_and_then, Contains}
use Rattle.std.specs.Prelude.{slice_get, slice_set}
use Rattle.std.specs.List.{AllByRecursion}
use Rattle.std.specs.Str.{bytes_eq}
use Rattle.std.proofs.lemmas.List.{append-nil}
use Rattle.std.proofs.lemmas.Slice.Eq.{bytes_eq-Decides}
use Rattle.caesium_ir.specs.declared.literal_places.LiteralPlaces.{LiteralPlaces}
use Rattle.layouts.specs.declared.int_type.IntType.TheVariants.{Int}
use Rattle.rc_terms.specs.declared.byte.MByte.{MByte}
use Rattle.byte_memory.specs.declared.memory.Memory.{Memory}
use Rattle.byte_memory.specs.Encoding.{int_bytes, enc}
use Rattle.caesium_ir.specs.declared.function.Function.{Function}
use Rattle.caesium_ir.specs.declared.program.Program.{Program}
use Rattle.caesium_ir.specs.Literal.{literal_function, literal_program}
use Rattle.thread_steps.specs.declared.answer.Ub.{Ub}
use Rattle.thread_steps.specs.declared.answer.Ub.TheVariants.{PoisonUsed}
use Rattle.thread_steps.specs.declared.frame.Frame.{Frame}
use Rattle.thread_steps.specs.declared.thread.Thread.{Thread}
use Rattle.thread_steps.specs.declared.thread.Thread.TheVariants.{Running, Finished}
use Rattle.thread_steps.specs.Next.{next_of, next_in_function}
use Rattle.thread_steps.specs.Step.{After, becomes, step_next, step_of, Step}
use Rattle.thread_steps.specs.Thread.{starting_thread, returned}
use Rattle.thread_steps.specs.Configuration.{Configuration, StepsTo, starting}
use Rattle.thread_steps.specs.Undefined.{IsStuck, IsStuckAt, IsUndefinedBy, Reason, Stuck, Race}
use Rattle.thread_steps.specs.Run.{Run}
use Rattle.thread_steps.specs.Start.{Start, functions_of}
use Rattle.thread_steps.specs.LiteralStart.{IsLiteralStart}
use Rattle.thread_steps.specs.Soundness.{IsSound, AreSound}
use Rattle.thread_steps.specs.Operands.{and_then}
use Rattle.thread_steps.specs.Access.{next_accesses, accesses_of}
use Rattle.thread_steps.specs.Race.{IsRace}
use Rattle.thread_steps.proofs.Threads.{get_of_set}

-- at the block `.`, at the constant, at the return, and finished
pub data State : Type 0 where
  Begun : State
  Inside : State
  Loaded : State
  Done : State

-- the one frame of a thread that is not finished
abbrev pub frame_at : List ℕ → List ℕ → ℕ → List (List MByte) → Frame
frame_at name label operation row =
    record { function = name; label = label; operation = operation; locals = []; row = row }

-- the thread in each state
abbrev pub thread_at : List ℕ → ℕ → State → Thread
thread_at name literal Begun = Running (frame_at name (codes ".") 0 []) []
thread_at name literal Inside = Running (frame_at name (codes ".0") 0 []) []
thread_at name literal Loaded = Running (frame_at name (codes ".0") 1 (enc Int (pos literal) ∷ [])) []
thread_at name literal Done = Finished (Some (enc Int (pos literal)))

-- the thread is in one of the states
abbrev pub IsKnown : List ℕ → ℕ → Thread → Type 0
IsKnown name literal thread = (state : State) × (thread_at name literal state ≡ thread)

-- each thread of the configuration is
abbrev pub AreKnown : List ℕ → ℕ → Configuration → Type 0
AreKnown name literal config =
    (i : ℕ) (thread : Thread) → slice_get config.threads i ≡ Some thread → IsKnown name literal thread

length-enc : (literal : ℕ) → length (enc Int (pos literal)) ≡ 4
unfolding enc int_bytes
length-enc literal = refl

bytes_eq-same : (name : List ℕ) → bytes_eq name name ≡ true
bytes_eq-same name = (bytes_eq-Decides name name).1 refl

-- what a step leaves, where it is known
left_by : {A E : Type 0} (r : Result A E) (known after : A) → r ≡ Ok known → r ≡ Ok after → known ≡ after
left_by r known after is found = cc

never_both : {A E : Type 0} (r : Result A E) (known : A) (e : E) → r ≡ Ok known → r ≡ Err e → ⊥
never_both r known e is found = cc

none_in : {X : Type 0} (xs : List X) (x : X) → xs ≡ [] → Contains xs x → ⊥
none_in xs x e h =
    let among : Contains [] x = subst (λ ys. Contains ys x) e h in
    let below : among.0 < 0 = among.1 in
    omega arith

-- the starts that answer the literal, one by one
start_at : (name : List ℕ) (literal : ℕ) (starts : List Start) (i : ℕ) (start : Start) →
    AllByRecursion (IsLiteralStart name literal) starts → slice_get starts i ≡ Some start →
    IsLiteralStart name literal start
start_at name literal [] i start all at = cc
start_at name literal (s ∷ starts) zero start all at = subst (IsLiteralStart name literal) (cc) all.0
start_at name literal (s ∷ starts) (suc i) start all at = start_at name literal starts i start all.1 at

module _ (name : List ℕ) (literal : ℕ) (places : LiteralPlaces) where
  abbrev program : Program
  program = literal_program name literal places

  abbrev function : Function
  function = literal_function name literal places

  abbrev value : List MByte
  value = enc Int (pos literal)

  -- a frame of the function finds it
  next_is : (label : List ℕ) (operation : ℕ) (row : List (List MByte)) →
      let frame = frame_at name label operation row in next_of program frame ≡ next_in_function frame function
  next_is label operation row =
      let frame = frame_at name label operation row in
      let next_if = λ (same : Bool). option_and_then (next_in_function frame) (if same then Some function else None) in
      ap next_if (bytes_eq-same name)

  step_is : (label : List ℕ) (operation : ℕ) (row : List (List MByte)) (memory : Memory) →
      let frame = frame_at name label operation row in
      step_of program frame [] memory ≡ step_next program (next_in_function frame function) frame [] memory
  step_is label operation row memory =
      let frame = frame_at name label operation row in
      ap (λ next. step_next program next frame [] memory) (next_is label operation row)

  begun : (memory : Memory) →
      step_of program (frame_at name (codes ".") 0 []) [] memory ≡ Ok (becomes (thread_at name literal Inside) memory)
  begun memory = step_is (codes ".") 0 [] memory

  inside : (memory : Memory) →
      step_of program (frame_at name (codes ".0") 0 []) [] memory ≡ Ok (becomes (thread_at name literal Loaded) memory)
  inside memory = step_is (codes ".0") 0 [] memory

  -- the return of the literal, which is as long as an `int`
  loaded : (memory : Memory) →
      step_of program (frame_at name (codes ".0") 1 (value ∷ [])) [] memory
      ≡ Ok (becomes (thread_at name literal Done) memory)
  loaded memory =
      let sized_if = λ (n : ℕ). and_then (if n == 4 then Ok value else Err PoisonUsed) (λ found. Ok (Some found)) in
      let left_if = λ (n : ℕ). and_then (sized_if n) (λ found. Ok (becomes (returned found []) memory)) in
      step_is (codes ".0") 1 (value ∷ []) memory ∙ ap left_if (length-enc literal)

  -- each step leads to a known thread, and starts none
  moves : (state : State) (memory : Memory) (after : After) → Step program (thread_at name literal state) memory after →
      IsKnown name literal after.thread × (after.started ≡ [])
  moves Begun memory after step =
      let is = left_by _ _ after (begun memory) step in
      ((Inside, ap (λ (a : After). a.thread) is), sym (ap (λ (a : After). a.started) is))
  moves Inside memory after step =
      let is = left_by _ _ after (inside memory) step in
      ((Loaded, ap (λ (a : After). a.thread) is), sym (ap (λ (a : After). a.started) is))
  moves Loaded memory after step =
      let is = left_by _ _ after (loaded memory) step in
      ((Done, ap (λ (a : After). a.thread) is), sym (ap (λ (a : After). a.started) is))
  moves Done memory after step = absurd step

  -- no state is stuck
  goes_on : (state : State) (memory : Memory) (ub : Ub) → IsStuck program (thread_at name literal state) memory ub → ⊥
  goes_on Begun memory ub stuck = never_both _ _ ub (begun memory) stuck
  goes_on Inside memory ub stuck = never_both _ _ ub (inside memory) stuck
  goes_on Loaded memory ub stuck = never_both _ _ ub (loaded memory) stuck
  goes_on Done memory ub stuck = stuck

  -- the finished state has returned the literal
  answers : (state : State) (found : Option (List MByte)) →
      thread_at name literal state ≡ Finished found → found ≡ Some value
  answers Begun found finished = cc
  answers Inside found finished = cc
  answers Loaded found finished = cc
  answers Done found finished = cc

  -- the states are kept from the first configuration on
  known_first : (starts : List Start) → AllByRecursion (IsLiteralStart name literal) starts →
      AreKnown name literal (starting (functions_of starts))
  known_first [] all i thread at = cc
  known_first (start ∷ starts) all zero thread at = (Begun, ap starting_thread (sym all.0.calls) ∙ cc)
  known_first (start ∷ starts) all (suc i) thread at = known_first starts all.1 i thread at

  known_after : (old new : Configuration) → AreKnown name literal old → StepsTo program old new →
      AreKnown name literal new
  known_after old new known (i, step) j thread at =
      let (state, state_is) = known i step.thread step.is in
      let of_state = subst (λ t. Step program t old.memory step.after) (sym state_is) step.step in
      let moved = moves state old.memory step.after of_state in
      let set = slice_set old.threads i step.after.thread in
      let threads : new.threads ≡ set = step.threads ∙ ap (λ started. set ++ started) moved.1 ∙ append-nil set in
      let read = subst (λ (ts : List Thread). slice_get ts j ≡ Some thread) threads at in
      elim (get_of_set old.threads i j step.after.thread thread read) [
        | inl same ↦ subst (λ t. IsKnown name literal t) same moved.0
        | inr before ↦ known j thread before
      ]

  -- and make it sound
  not_stuck : (config : Configuration) → AreKnown name literal config → (i : ℕ) (ub : Ub) →
      IsStuckAt program i config ub → ⊥
  not_stuck config known i ub stuck =
      let (state, state_is) = known i stuck.thread stuck.is in
      let of_state = subst (λ t. IsStuck program t config.memory ub) (sym state_is) stuck.stuck in
      goes_on state config.memory ub of_state

  -- no state touches memory, so no two of them race
  untouched : (state : State) → accesses_of program (thread_at name literal state) ≡ []
  untouched Begun =
      let frame = frame_at name (codes ".") 0 [] in
      ap (λ next. next_accesses [] next frame) (next_is (codes ".") 0 [])
  untouched Inside =
      let frame = frame_at name (codes ".0") 0 [] in
      ap (λ next. next_accesses [] next frame) (next_is (codes ".0") 0 [])
  untouched Loaded =
      let frame = frame_at name (codes ".0") 1 (value ∷ []) in
      ap (λ next. next_accesses [] next frame) (next_is (codes ".0") 1 (value ∷ []))
  untouched Done = refl

  no_race : (config : Configuration) → AreKnown name literal config → (i j block offset : ℕ) →
      IsRace program config i j block offset → ⊥
  no_race config known i j block offset race =
      let (state, state_is) = known i race.one race.one_is in
      let none : accesses_of program race.one ≡ [] =
      subst (λ t. accesses_of program t ≡ []) state_is (untouched state) in
      none_in (accesses_of program race.one) race.access none race.touches

  defined : (config : Configuration) → AreKnown name literal config → (reason : Reason) →
      IsUndefinedBy program config reason → ⊥
  defined config known (Stuck i ub) stuck = not_stuck config known i ub stuck
  defined config known (Race i j block offset) race = no_race config known i j block offset race

  sound : (starts : List Start) (config : Configuration) → AllByRecursion (IsLiteralStart name literal) starts →
      AreKnown name literal config → IsSound program starts config
  sound starts config all known = record {
    defined = λ (reason, undefined). defined config known reason undefined;
    returned = λ i start found start_is finished.
        let (state, state_is) = known i (Finished found) finished in
        answers state found state_is ∙ sym (start_at name literal starts i start all start_is).answers;
  }

  all_sound : (starts : List Start) (first : Configuration) (configs : List Configuration) →
      AllByRecursion (IsLiteralStart name literal) starts → AreKnown name literal first → Run program first configs →
      AreSound program starts first configs
  all_sound starts first [] all known run = (sound starts first all known, tt)
  all_sound starts first (second ∷ configs) all known (step, run) =
      (sound starts first all known, all_sound starts second configs all (known_after first second known step) run)

  pub runs_are_sound : (starts : List Start) (configs : List Configuration) →
      AllByRecursion (IsLiteralStart name literal) starts → Run program (starting (functions_of starts)) configs →
      AreSound program starts (starting (functions_of starts)) configs
  runs_are_sound starts configs all run =
      all_sound starts (starting (functions_of starts)) configs all (known_first starts all) run
