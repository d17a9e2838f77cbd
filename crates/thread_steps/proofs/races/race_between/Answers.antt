use Rattle.thread_steps.proofs.RaceLemmas.{race_found}
use Rattle.thread_steps.proofs.races.race_between.Goals as goal

pub returns-then-i-j : goal.returns-then-i-j
returns-then-i-j c = λ block offset race. race.different c.if-i-j.true

pub returns : goal.returns
returns c =
    race_found c.args.program.now c.args.config.now c.threads-threads.result.now c.memory.result.now c.args.i c.args.j
    c.index-threads-i.result c.index-threads-j.result c.shared_byte.result c.threads-threads.ensures c.memory.ensures
    c.if-i-j.false c.requires.first c.requires.second c.index-threads-i.is c.index-threads-j.is c.shared_byte.ensures
