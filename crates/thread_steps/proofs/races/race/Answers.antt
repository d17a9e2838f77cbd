use Rattle.std.proofs.Common.{◌<◌, ◌≤◌, length, ℕ, subst, arith, rules, FitsSigned}
use Rattle.std.proofs.lemmas.Int.{to_z-of_z}
use Rattle.std.specs.Int.{w128}
use Rattle.thread_steps.specs.Race.{IsRace}
use Rattle.thread_steps.proofs.RaceLemmas.{below_more, found_inside, least_race}
use Rattle.thread_steps.proofs.races.race.Goals as goal

pub returns-in-Some : goal.returns-in-Some
returns-in-Some c =
    let fits : FitsSigned w128 c.in-Some.at.offset = search rules in
    rw (to_z-of_z w128 c.in-Some.at.offset fits)
    (least_race c.args.program.now c.args.config.now c.loop-i.i c.in-Some.j c.in-Some.at c.in-Some.ensures.0
    (λ k block offset before race. c.in-Some.ensures.1 k block offset before race)
    (λ h k block offset before race. c.loop-i.invariant h k block offset before race))

pub loop-i-preserved : goal.loop-i-preserved
loop-i-preserved c = λ h k block offset under race.
    below_more (λ i. (j b o : ℕ) → IsRace c.args.program.now c.args.config.now i j b o → ⊥) c.loop-i.i
    (λ i below j b o found. c.loop-i.invariant i j b o below found) c.in_default.ensures h under k block offset race

pub returns : goal.returns
returns c = λ (i, j, block, offset, race).
    let inside = found_inside c.args.config.now.threads i race.one race.one_is in
    let far = subst (λ ts. length ts ≤ c.loop-i.i) c.threads-threads.ensures c.loop-i-test.false in
    c.loop-i.invariant i j block offset (omega arith) race
