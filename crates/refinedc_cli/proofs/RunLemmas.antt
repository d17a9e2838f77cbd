-- What the clauses of a run say, from what it comes to.
use Rattle.std.proofs.Common.{◌≡◌, ◌≢◌, ℕ, zero, ◌<◌, inl, inr, List, [], ◌∷◌, length, Option, Some, None, refl, sym, ap, subst, arith}
use Rattle.std.specs.Prelude.{◌↔◌, ◌^◌, IfSome}
use Rattle.std.specs.List.{AllByRecursion}
use Rattle.c_lexer.specs.TokenLists.{TokenLists}
use Rattle.caesium_ir.specs.declared.literal_places.LiteralPlaces.{LiteralPlaces}
use Rattle.caesium_ir.specs.Literal.{literal_program}
use Rattle.thread_steps.specs.Configuration.{Configuration, starting}
use Rattle.thread_steps.specs.LiteralStart.{IsLiteralStart}
use Rattle.thread_steps.specs.Run.{Run}
use Rattle.thread_steps.specs.Soundness.{AreSound}
use Rattle.thread_steps.specs.Start.{Start, functions_of}
use Rattle.refinedc_cli.specs.declared.one_literal.OneLiteral.{OneLiteral}
use Rattle.refinedc_cli.specs.OneLiteral.{IsOneLiteral}
use Rattle.refinedc_cli.specs.Soundness.{IsSoundFile}
use Rattle.refinedc_cli.proofs.FormLemmas.{name_of_form}
use Rattle.rc_text.specs.Faults.{one_more, last_fault, Rose}
use Rattle.std.proofs.lemmas.List.{append-nil}
use Rattle.rc_text.specs.Sink.{front_appended, WrotePrefix}
use Rattle.refinedc_cli.specs.declared.command.Command.{Command}
use Rattle.refinedc_cli.specs.declared.command.Command.TheVariants.{Check}
use Rattle.refinedc_cli.specs.declared.outcome.Outcome.{Outcome}
use Rattle.refinedc_cli.specs.declared.outcome.Outcome.TheVariants as outcomes
use Rattle.refinedc_cli.specs.declared.rendering.Rendering.{Rendering}
use Rattle.refinedc_cli.specs.declared.status.Status.{Status}
use Rattle.refinedc_cli.specs.declared.status.Status.TheVariants.{Accepted, Usage, ReadFault, WriteFault}
use Rattle.refinedc_cli.specs.Command.{Means, MeanNothing, files_of}
use Rattle.refinedc_cli.specs.Delivery.{WritesFront, IsDelivered, whole, failed}
use Rattle.refinedc_cli.specs.FrontEnd.{HasTokens}
use Rattle.refinedc_cli.specs.Outcome.{IsCheckOutcome, IsOutcome, AreAlike}
use Rattle.refinedc_cli.specs.Outside.{Files, Stream, Outside, MayHold, Holds, IsQuiet}
use Rattle.refinedc_cli.specs.Rendering.{rendering}
use Rattle.refinedc_cli.specs.Run.{ComesTo, found, unread, IsAnswer, usage, outcome, Runs, delivered, no_memory, UnlessNoMemory, DeliversWhatIsTold}
use Rattle.refinedc_cli.proofs.OutcomeLemmas.{ReadingsAreDetermined, same_check_outcome}

-- a failure shows where the count can rise
rises : (count : ℕ) → count < last_fault → count < one_more count
rises count below = omega arith

-- words mean one command at most
pub same_command : (words : List (List ℕ)) (one two : Command) → Means words one → Means words two → one ≡ two
same_command words (Check file) (Check other) is also = cc (is.0, also.0)

-- what the shelf tells are the contents
same_contents : (holds : List ℕ → Option (List ℕ)) (names told contents : List (List ℕ)) → Holds holds names told → MayHold holds names contents → told ≡ contents
same_contents holds [] [] [] tells may = refl
same_contents holds [] [] (content ∷ contents) tells may = absurd may
same_contents holds [] (first ∷ told) contents tells may = absurd tells
same_contents holds (name ∷ names) [] contents tells may = absurd tells
same_contents holds (name ∷ names) (first ∷ told) [] tells may = absurd may
same_contents holds (name ∷ names) (first ∷ told) (content ∷ contents) tells may =
    let here : first ≡ content = subst (λ (t : Option (List ℕ)). IfSome t (λ c. c ≡ content)) tells.0 may.0 in
    let there : told ≡ contents = same_contents holds names told contents tells.1 may.1 in
    λ i. here i ∷ there i

same_outcome : ReadingsAreDetermined → (command : Command) (contents : List (List ℕ)) (one two : Outcome) → IsOutcome command contents one → IsOutcome command contents two → AreAlike one two
same_outcome law (Check file) [] one two is also = absurd is
same_outcome law (Check file) (content ∷ []) one two is also = same_check_outcome law content one two is also
same_outcome law (Check file) (content ∷ second ∷ more) one two is also = absurd is

-- no content comes to a file that can't be read
no_unread : (command : Command) (contents : List (List ℕ)) (name : List ℕ) → IsOutcome command contents (outcomes.Unread name) → ⊥
no_unread (Check file) [] name is = is
no_unread (Check file) (content ∷ []) name is = is
no_unread (Check file) (content ∷ second ∷ more) name is = is

-- the status of an outcome is never one of these two
outcome_no_usage : (command : Command) (come : Outcome) → (rendering command come).status ≢ Usage
outcome_no_usage command (outcomes.Accepted lines) is = cc is
outcome_no_usage command (outcomes.Refused place goal) is = cc is
outcome_no_usage command (outcomes.Faulty place fault) is = cc is
outcome_no_usage command (outcomes.Unread name) is = cc is
outcome_no_usage command (outcomes.Passed limit) is = cc is

outcome_no_write_fault : (command : Command) (come : Outcome) → (rendering command come).status ≢ WriteFault
outcome_no_write_fault command (outcomes.Accepted lines) is = cc is
outcome_no_write_fault command (outcomes.Refused place goal) is = cc is
outcome_no_write_fault command (outcomes.Faulty place fault) is = cc is
outcome_no_write_fault command (outcomes.Unread name) is = cc is
outcome_no_write_fault command (outcomes.Passed limit) is = cc is

-- a read fault is the status of a file that can't be read alone
no_read_fault : (command : Command) (contents : List (List ℕ)) (come : Outcome) → IsOutcome command contents come → (rendering command come).status ≢ ReadFault
no_read_fault command contents (outcomes.Accepted lines) come is = cc is
no_read_fault command contents (outcomes.Refused place goal) come is = cc is
no_read_fault command contents (outcomes.Faulty place fault) come is = cc is
no_read_fault command contents (outcomes.Unread name) come is = no_unread command contents name come
no_read_fault command contents (outcomes.Passed limit) come is = cc is

written_nothing : (written : Option (List ℕ)) (text : List ℕ) → written ≡ front_appended written 0 text
written_nothing None text = refl
written_nothing (Some bytes) text = ap (λ b. Some b) (sym (append-nil bytes))

module _ (words : List (List ℕ)) (before after : Files) where
  -- where the contents are told and the shelf didn't fail, the answer is that of what they come to
  told_outcome : ReadingsAreDetermined → (command : Command) (contents : List (List ℕ)) (come other : Outcome) → Holds before.holds (files_of command) contents
      → IsOutcome command contents come → IsQuiet before.faults after.faults → ComesTo command before after other
      → IsOutcome command contents other × AreAlike come other
  told_outcome law command contents come other tells is quiet (found read may reads asked same) =
      let all = same_contents before.holds (files_of command) contents read tells may in
      let here : IsOutcome command contents other = subst (λ (c : List (List ℕ)). IsOutcome command c other) (sym all) reads in
      (here, same_outcome law command contents come other is here)
  told_outcome law command contents come other tells is quiet (unread earlier later name files asked rose) = absurd (omega (arith, rises before.faults quiet.0, quiet.1, rose))

  told_answer : ReadingsAreDetermined → (command : Command) (contents : List (List ℕ)) (come : Outcome) (answer : Rendering) → Means words command → Holds before.holds (files_of command) contents
      → IsOutcome command contents come → IsQuiet before.faults after.faults → IsAnswer words before after answer
      → (answered : Outcome) × IsOutcome command contents answered × AreAlike come answered × (answer ≡ rendering command answered)
  told_answer law command contents come answer means tells is quiet (usage none same) = absurd (none command means)
  told_answer law command contents come answer means tells is quiet (outcome other {outcome = other_come} also comes) =
      let same : other ≡ command = same_command words other command also means in
      let here : ComesTo command before after other_come = subst (λ (c : Command). ComesTo c before after other_come) same comes in
      let told = told_outcome law command contents come other_come tells is quiet here in
      (other_come, told.0, told.1, ap (λ (c : Command). rendering c other_come) same)

  answer_usage : (answer : Rendering) → IsAnswer words before after answer → (answer.status ≡ Usage) ↔ MeanNothing words
  answer_usage answer (usage none same) = (λ _. none, λ _. refl)
  answer_usage answer (outcome command {outcome = come} means comes) = (λ is. absurd (outcome_no_usage command come is), λ none. absurd (none command means))

  usage_writes_nothing : (answer : Rendering) → IsAnswer words before after answer → MeanNothing words → answer.out ≡ []
  usage_writes_nothing answer (usage none same) nothing = refl
  usage_writes_nothing answer (outcome command means comes) nothing = absurd (nothing command means)

  answer_no_write_fault : (answer : Rendering) → IsAnswer words before after answer → answer.status ≢ WriteFault
  answer_no_write_fault answer (usage none same) is = cc is
  answer_no_write_fault answer (outcome command {outcome = come} means comes) is = outcome_no_write_fault command come is

  come_read_fault : (command : Command) (come : Outcome) → ComesTo command before after come → Rose before.faults after.faults → ((rendering command come).status ≡ ReadFault) × ((rendering command come).out ≡ [])
  come_read_fault command come (found contents may is asked same) rose = absurd (omega (arith, rose, same))
  come_read_fault command come (unread earlier later name files asked lost) rose = (refl, refl)

  answer_read_fault : (answer : Rendering) → IsAnswer words before after answer → Rose before.faults after.faults → (answer.status ≡ ReadFault) × (answer.out ≡ [])
  answer_read_fault answer (usage none same) rose = absurd (omega (arith, rose, same))
  answer_read_fault answer (outcome command {outcome = come} means comes) rose = come_read_fault command come comes rose

  come_read_cause : (command : Command) (come : Outcome) → ComesTo command before after come → (rendering command come).status ≡ ReadFault → after.faults ≡ one_more before.faults
  come_read_cause command come (found contents may is asked same) status = absurd (no_read_fault command contents come is status)
  come_read_cause command come (unread earlier later name files asked lost) status = lost

  answer_read_cause : (answer : Rendering) → IsAnswer words before after answer → answer.status ≡ ReadFault → after.faults ≡ one_more before.faults
  answer_read_cause answer (usage none same) is = absurd (cc is)
  answer_read_cause answer (outcome command {outcome = come} means comes) is = come_read_cause command come comes is

-- where nothing was written, a front of any text was
pub nothing_written : (stream : Stream) (text : List ℕ) → WritesFront stream stream text
nothing_written stream text = (zero, omega arith, written_nothing stream.written text)

-- nothing has no proper prefix
no_prefix_of_nothing : (old new : Option (List ℕ)) (text : List ℕ) → text ≡ [] → WrotePrefix old new text → ⊥
no_prefix_of_nothing old new text empty wrote = omega (arith, wrote.1, ap length empty)

module _ (words : List (List ℕ)) (before after : Outside) where
  pub run_told : ReadingsAreDetermined → (status : Status) → Runs words before after status → DeliversWhatIsTold words before after status
  run_told law status (no_memory front err) command contents come means tells is undisturbed = inl refl
  run_told law status (delivered answer is_answer out) command contents come means tells is undisturbed =
      let told = told_answer words before.files after.files law command contents come answer means tells is undisturbed.files is_answer in
      inr (told.0, told.1, told.2, subst (λ (r : Rendering). IsDelivered r before after status) told.3 out)

  usage_delivered : (answer : Rendering) (status : Status) → IsAnswer words before.files after.files answer → IsDelivered answer before after status → (status ≡ Usage) ↔ MeanNothing words
  usage_delivered answer status is_answer (whole out err) = answer_usage words before.files after.files answer is_answer
  usage_delivered answer status is_answer (failed out err) =
      (λ is. absurd (cc is), λ none. absurd (no_prefix_of_nothing _ _ answer.out (usage_writes_nothing words before.files after.files answer is_answer none) out.0))

  pub run_usage : (status : Status) → Runs words before after status → UnlessNoMemory status ((status ≡ Usage) ↔ MeanNothing words)
  run_usage status (no_memory front err) = inl refl
  run_usage status (delivered answer is_answer out) = inr (usage_delivered answer status is_answer out)

  write_fault_delivered : (answer : Rendering) (status : Status) → IsDelivered answer before after status → Rose before.out.faults after.out.faults → status ≡ WriteFault
  write_fault_delivered answer status (whole out err) rose = absurd (omega (arith, rose, out.1))
  write_fault_delivered answer status (failed out err) rose = refl

  pub run_write_fault : (status : Status) → Runs words before after status → Rose before.out.faults after.out.faults → UnlessNoMemory status (status ≡ WriteFault)
  run_write_fault status (no_memory front err) rose = inl refl
  run_write_fault status (delivered answer is_answer out) rose = inr (write_fault_delivered answer status out rose)

  write_cause_delivered : (answer : Rendering) (status : Status) → IsAnswer words before.files after.files answer → IsDelivered answer before after status → status ≡ WriteFault
      → after.out.faults ≡ one_more before.out.faults
  write_cause_delivered answer status is_answer (whole out err) is = absurd (answer_no_write_fault words before.files after.files answer is_answer is)
  write_cause_delivered answer status is_answer (failed out err) is = out.1

  pub run_write_cause : (status : Status) → Runs words before after status → status ≡ WriteFault → after.out.faults ≡ one_more before.out.faults
  run_write_cause status (no_memory front err) is = absurd (cc is)
  run_write_cause status (delivered answer is_answer out) is = write_cause_delivered answer status is_answer out is

  read_fault_delivered : (answer : Rendering) (status : Status) → answer.status ≡ ReadFault → answer.out ≡ [] → IsDelivered answer before after status → status ≡ ReadFault
  read_fault_delivered answer status is nothing (whole out err) = is
  read_fault_delivered answer status is nothing (failed out err) = absurd (no_prefix_of_nothing _ _ answer.out nothing out.0)

  pub run_read_fault : (status : Status) → Runs words before after status → Rose before.files.faults after.files.faults → UnlessNoMemory status (status ≡ ReadFault)
  run_read_fault status (no_memory front err) rose = inl refl
  run_read_fault status (delivered answer is_answer out) rose =
      let come = answer_read_fault words before.files after.files answer is_answer rose in
      inr (read_fault_delivered answer status come.0 come.1 out)

  read_cause_delivered : (answer : Rendering) (status : Status) → IsAnswer words before.files after.files answer → IsDelivered answer before after status → status ≡ ReadFault
      → after.files.faults ≡ one_more before.files.faults
  read_cause_delivered answer status is_answer (whole out err) is = answer_read_cause words before.files after.files answer is_answer is
  read_cause_delivered answer status is_answer (failed out err) is = absurd (cc is)

  pub run_read_cause : (status : Status) → Runs words before after status → status ≡ ReadFault → after.files.faults ≡ one_more before.files.faults
  run_read_cause status (no_memory front err) is = absurd (cc is)
  run_read_cause status (delivered answer is_answer out) is = read_cause_delivered answer status is_answer out is

-- the law of one-literal programs, as `literal_runs_are_sound` ensures it
abbrev pub LiteralRunsAreSound : Type 0
LiteralRunsAreSound = (name : List ℕ) (literal : ℕ) (places : LiteralPlaces) (starts : List Start) (configs : List Configuration) → literal < 2 ^ 31
    → AllByRecursion (IsLiteralStart name literal) starts → Run (literal_program name literal places) (starting (functions_of starts)) configs
    → AreSound (literal_program name literal places) starts (starting (functions_of starts)) configs

-- a file whose literal is the declared value is sound
sound_form : LiteralRunsAreSound → (content : List ℕ) (lists : TokenLists) (form : OneLiteral) → HasTokens content lists → IsOneLiteral lists.tokens form
    → form.returned ≡ form.declared → IsSoundFile content
sound_form law content lists form has is equal =
    let named = name_of_form lists.tokens form is in
    let name = named.0.text in
    let program = literal_program name form.returned form.places in
    record {
      form = form;
      name = name;
      program = program;
      is = record { lists = lists; has = has; is = is; named = (named.0, named.1, refl); built = (name, (named.0, named.1, refl), refl) };
      sound = λ starts configs are run.
          law name form.returned form.places starts configs is.returned_in_range
          (subst (λ (k : ℕ). AllByRecursion (IsLiteralStart name k) starts) (sym equal) are) run;
    }

-- an accepted outcome is sound
sound_outcome : LiteralRunsAreSound → (content : List ℕ) (command : Command) (come : Outcome) → IsCheckOutcome content come → (rendering command come).status ≡ Accepted → IsSoundFile content
sound_outcome law content command (outcomes.Accepted lines) come is =
    sound_form law content come.0 come.2.0 come.1 come.2.1 come.2.2.0
sound_outcome law content command (outcomes.Refused place goal) come is = absurd (cc is)
sound_outcome law content command (outcomes.Faulty place fault) come is = absurd (cc is)
sound_outcome law content command (outcomes.Unread name) come is = absurd come
sound_outcome law content command (outcomes.Passed limit) come is = absurd (cc is)

module _ (law : LiteralRunsAreSound) (file content : List ℕ) (before after : Files) where
  sound_contents : (contents : List (List ℕ)) (come : Outcome) → before.holds file ≡ Some content → MayHold before.holds (file ∷ []) contents
      → IsOutcome (Check file) contents come → (rendering (Check file) come).status ≡ Accepted → IsSoundFile content
  sound_contents contents come told may reads is =
      let same = same_contents before.holds (file ∷ []) (content ∷ []) contents (told, tt) may in
      sound_outcome law content (Check file) come (subst (λ (c : List (List ℕ)). IsOutcome (Check file) c come) (sym same) reads) is

  sound_come : (come : Outcome) → before.holds file ≡ Some content → ComesTo (Check file) before after come → (rendering (Check file) come).status ≡ Accepted → IsSoundFile content
  sound_come come told (found contents may reads asked same) is = sound_contents contents come told may reads is
  sound_come come told (unread earlier later name files asked lost) is = absurd (cc is)

  sound_answer : (words : List (List ℕ)) (answer : Rendering) → Means words (Check file) → before.holds file ≡ Some content → IsAnswer words before after answer
      → answer.status ≡ Accepted → IsSoundFile content
  sound_answer words answer means told (usage none same) is = absurd (none (Check file) means)
  sound_answer words answer means told (outcome command {outcome = come} also comes) is =
      let same : command ≡ Check file = same_command words command (Check file) also means in
      sound_come come told (subst (λ (c : Command). ComesTo c before after come) same comes)
      (subst (λ (c : Command). (rendering c come).status ≡ Accepted) same is)

sound_delivered : LiteralRunsAreSound → (words : List (List ℕ)) (before after : Outside) (file content : List ℕ) (answer : Rendering) (status : Status) → Means words (Check file)
    → before.files.holds file ≡ Some content → IsAnswer words before.files after.files answer → IsDelivered answer before after status → status ≡ Accepted → IsSoundFile content
sound_delivered law words before after file content answer status means told is_answer (whole out err) is =
    sound_answer law file content before.files after.files words answer means told is_answer is
sound_delivered law words before after file content answer status means told is_answer (failed out err) is = absurd (cc is)

-- what is accepted is sound
pub run_headline : LiteralRunsAreSound → (words : List (List ℕ)) (before after : Outside) (status : Status) → Runs words before after status → (file content : List ℕ)
    → Means words (Check file) → before.files.holds file ≡ Some content → status ≡ Accepted → IsSoundFile content
run_headline law words before after status (no_memory front err) file content means told is = absurd (cc is)
run_headline law words before after status (delivered answer is_answer out) file content means told is =
    sound_delivered law words before after file content answer status means told is_answer out is
