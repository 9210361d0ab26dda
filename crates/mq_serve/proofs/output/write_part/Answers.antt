use Rattle.std.proofs.lemmas.List.{take_rest}
use Rattle.mq_serve.proofs.Fronts.{front_more}
use Rattle.mq_serve.proofs.output.write_part.Goals as goal

pub loop-preserved : goal.loop-preserved
loop-preserved g c =
    let wrote = rw (take_rest c.args.bytes.now c.loop.done) at c.in-Ok-Some.ensures.ok in
    let some = rw c.in-Ok-Some.field-0-is at wrote in
    front_more _ _ _ _ _ _ c.loop.invariant some.0 some.1
