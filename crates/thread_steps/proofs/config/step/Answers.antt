use Rattle.std.proofs.Common.{◌≡◌, ◌++◌, [], ◌∷◌, ap, sym, ◌∙◌}
use Rattle.std.specs.Prelude.{Some, slice_set}
use Rattle.std.proofs.lemmas.List.{append-nil}
use Rattle.thread_steps.specs.declared.answer.Stepped.TheVariants as answers
use Rattle.thread_steps.specs.declared.thread.Taken.{Taken}
use Rattle.thread_steps.specs.declared.thread.Taken.TheVariants as taken
use Rattle.thread_steps.proofs.Threads.{config_of, told, started_in, lifted_at}
use Rattle.thread_steps.proofs.config.step.Goals as goal

pub returns-in-Stepped-None : goal.returns-in-Stepped-None
returns-in-Stepped-None c =
    let inside = c.config.inside in
    let thread = c.index_mut-thread in
    let set = slice_set inside.threads.items c.args.i c.step.new.self in
    let is = c.in-Stepped-None.is ∙ ap taken.Stepped c.in-Stepped-None.field-0-is in
    let reached = ap (λ (a : Taken). config_of (set ++ started_in a) c.step.new.memory) is
    ∙ ap (λ ts. config_of ts c.step.new.memory) (append-nil set) in
    lifted_at c.args.program.now c.args.i inside.threads.items inside.memory c.step.new.memory c.args.config.now
    (config_of set c.step.new.memory) thread.result.now c.step.new.self c.in_ok-step.field-0 answers.Stepped
    c.config.view_is c.requires.thread thread.ensures.value c.in_ok-step.ensures reached (ap told is)

pub returns-in_ok-push-in-Stepped-Some : goal.returns-in_ok-push-in-Stepped-Some
returns-in_ok-push-in-Stepped-Some c =
    let inside = c.config.inside in
    let thread = c.index_mut-thread in
    let set = slice_set inside.threads.items c.args.i c.step.new.self in
    let is = c.in-Stepped-Some.is ∙ ap taken.Stepped (c.in-Stepped-Some.field-0-is ∙ ap Some c.in-Stepped-Some.started-is) in
    let reached = ap (λ (a : Taken). config_of (set ++ started_in a) c.step.new.memory) is
    ∙ ap (λ ts. config_of ts c.step.new.memory) (sym c.in_ok-push-in-Stepped-Some.ensures.items) in
    lifted_at c.args.program.now c.args.i inside.threads.items inside.memory c.step.new.memory c.args.config.now
    (config_of c.push.new.self.items c.step.new.memory) thread.result.now c.step.new.self c.in_ok-step.field-0
    answers.Stepped c.config.view_is c.requires.thread thread.ensures.value c.in_ok-step.ensures reached (ap told is)

pub returns-in-Finished : goal.returns-in-Finished
returns-in-Finished c =
    let inside = c.config.inside in
    let thread = c.index_mut-thread in
    let set = slice_set inside.threads.items c.args.i c.step.new.self in
    let reached = ap (λ (a : Taken). config_of (set ++ started_in a) c.step.new.memory) c.in-Finished.is
    ∙ ap (λ ts. config_of ts c.step.new.memory) (append-nil set) in
    lifted_at c.args.program.now c.args.i inside.threads.items inside.memory c.step.new.memory c.args.config.now
    (config_of set c.step.new.memory) thread.result.now c.step.new.self c.in_ok-step.field-0 answers.Finished
    c.config.view_is c.requires.thread thread.ensures.value c.in_ok-step.ensures reached (ap told c.in-Finished.is)

pub returns-in-Undefined : goal.returns-in-Undefined
returns-in-Undefined c =
    let inside = c.config.inside in
    let thread = c.index_mut-thread in
    let set = slice_set inside.threads.items c.args.i c.step.new.self in
    let reached = ap (λ (a : Taken). config_of (set ++ started_in a) c.step.new.memory) c.in-Undefined.is
    ∙ ap (λ ts. config_of ts c.step.new.memory) (append-nil set) in
    lifted_at c.args.program.now c.args.i inside.threads.items inside.memory c.step.new.memory c.args.config.now
    (config_of set c.step.new.memory) thread.result.now c.step.new.self c.in_ok-step.field-0
    (answers.Undefined c.in-Undefined.ub) c.config.view_is c.requires.thread thread.ensures.value c.in_ok-step.ensures
    reached (ap told c.in-Undefined.is)
