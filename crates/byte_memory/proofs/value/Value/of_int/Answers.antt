use Rattle.std.proofs.Common.{ap, ◌∙◌, rules, map, FitsSigned}
use Rattle.std.proofs.lemmas.Int.{to_z-of_z}
use Rattle.std.specs.Int.{w128}
use Rattle.rc_terms.specs.declared.byte.MByte.TheVariants.{Byte}
use Rattle.byte_memory.specs.Encoding.{int_bytes, enc, bytes_from_low}
use Rattle.byte_memory.proofs.EncodingLemmas.{pushed_more, pushed_all}
use Rattle.byte_memory.proofs.value.Value.of_int.Goals as goal

pub loop-preserved : goal.loop-preserved
loop-preserved c =
    let low : FitsSigned w128 c.rem_euclid.result = search rules in
    let up : FitsSigned w128 c.div_euclid-rest.result = search rules in
    rw (to_z-of_z w128 c.div_euclid-rest.result up)
    (pushed_more _ _ _ _ _ c.loop.bytes.items _ c.loop.counter c.loop-test.true c.loop.invariant
    c.rem_euclid.ensures.value
    c.div_euclid-rest.ensures (rw (to_z-of_z w128 c.rem_euclid.result low) at c.in_ok-push.ensures.items))

pub returns : goal.returns
unfolding enc int_bytes
returns c =
    pushed_all _ _ _ c.loop.bytes.items c.loop.counter c.loop-test.false c.loop.invariant
    ∙ ap (λ n. map Byte (bytes_from_low c.size_of_int-end.result n)) (to_z-of_z w128 c.args.n c.ranges.n)
    ∙ ap (λ k. map Byte (bytes_from_low k c.args.n)) c.size_of_int-end.ensures
