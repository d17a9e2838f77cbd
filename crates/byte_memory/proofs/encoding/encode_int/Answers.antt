use Rattle.std.proofs.Common.{ap, ◌∙◌, rules, length, FitsSigned}
use Rattle.std.proofs.lemmas.Int.{to_z-of_z}
use Rattle.std.specs.Int.{w128}
use Rattle.byte_memory.specs.Encoding.{int_bytes, bytes_from_low}
use Rattle.byte_memory.proofs.EncodingLemmas.{written_more, written_all}
use Rattle.byte_memory.proofs.encoding.encode_int.Goals as goal

pub loop-byte-preserved : goal.loop-byte-preserved
loop-byte-preserved c =
    let low : FitsSigned w128 c.rem_euclid.result = search rules in
    let up : FitsSigned w128 c.div_euclid-rest.result = search rules in
    rw (to_z-of_z w128 c.rem_euclid.result low, to_z-of_z w128 c.div_euclid-rest.result up)
    (written_more _ _ _ _ _ c.loop-byte.into c.loop-byte.byte-index c.loop-byte-test.true c.loop-byte.auto.into
    c.loop-byte.invariant c.rem_euclid.ensures.value c.div_euclid-rest.ensures)

pub returns : goal.returns
unfolding int_bytes
returns c =
    written_all _ _ _ c.loop-byte.into c.loop-byte.byte-index c.loop-byte-test.false c.loop-byte.auto.into
    c.loop-byte.invariant
    ∙ ap (λ n. bytes_from_low (length c.args.into.now) n) (to_z-of_z w128 c.args.n c.ranges.n) ∙ ap
    (λ k. bytes_from_low k c.args.n) c.requires.size
