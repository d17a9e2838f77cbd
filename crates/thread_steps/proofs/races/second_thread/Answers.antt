use Rattle.std.proofs.Common.{◌<◌, ◌≤◌, length, ℕ, subst, arith}
use Rattle.thread_steps.specs.Race.{IsRace}
use Rattle.thread_steps.proofs.RaceLemmas.{below_more, found_inside}
use Rattle.thread_steps.proofs.races.second_thread.Goals as goal

pub returns-in-Some : goal.returns-in-Some
returns-in-Some c = (c.in-Some.ensures, λ j block offset before race. c.loop-j.invariant j block offset before race)

pub loop-j-preserved : goal.loop-j-preserved
loop-j-preserved c = λ k block offset under race.
    below_more (λ j. (b o : ℕ) → IsRace c.args.program.now c.args.config.now c.args.i j b o → ⊥) c.loop-j.j
    (λ j below b o found. c.loop-j.invariant j b o below found) c.in_default.ensures k under block offset race

pub returns : goal.returns
returns c = λ j block offset race.
    let inside = found_inside c.args.config.now.threads j race.other race.other_is in
    let same = c.threads-threads.ensures in
    let far = subst (λ ts. length ts ≤ c.loop-j.j) same c.loop-j-test.false in
    c.loop-j.invariant j block offset (omega arith) race
