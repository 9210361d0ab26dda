use Rattle.std.proofs.lemmas.List.{take_rest}
use Rattle.mq_packet.proofs.Written.{written_more, written_kept}
use Rattle.mq_client.proofs.lines.write_bytes.Goals as goal
use Rattle.mq_client.proofs.lines.write_bytes.Goals.{in-Ok, in-Err+else-ne}

pub loop-preserved : goal.loop-preserved
loop-preserved g c =
    let before = c.loop.invariant in
    elim c.match-write.branch [
      | in-Ok w ↦ rw (w.rest-is, take_rest c.loop.rest.now w.in-Ok.count) (written_more _ _ _ _ _ w.in-Ok.count before w.in-Ok.ensures.bytes)
      | in-Err+else-ne w ↦ rw w.rest-is (written_kept _ _ _ _ _ before w.in-Err.ensures.bytes)
    ]
