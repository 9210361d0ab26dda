use Rattle.std.proofs.Common.{inl, inr, refl}
use Rattle.std.proofs.KnownBytes.{Appends-nil}
use Rattle.std.proofs.lemmas.List.{take_rest}
use Rattle.mq_serve.specs.Pending.{bytes_of}
use Rattle.mq_serve.proofs.Pendings.{First, send_fails, sends_all, sends_rest}
use Rattle.mq_serve.proofs.pending_output.PendingOutput.send.Goals as goal
use Rattle.mq_serve.proofs.pending_output.PendingOutput.send.Goals.{then-is_empty+in_ok-count, else-is_empty}

pub returns-then-is_empty-2-clause-ok : goal.returns-then-is_empty-2-clause-ok
returns-then-is_empty-2-clause-ok g c =
    let first : First (bytes_of c.args.self.now) c.args.bytes.now c.if-is_empty.count (g.W.Write.contents c.args.writer.now) (g.W.Write.contents c.if-is_empty.writer) =
    elim c.if-is_empty.branch [
      | then-is_empty+in_ok-count w ↦ rw (w.writer-is, w.count-is) (record { appended = w.in_ok-count.ensures.ok; waits = inl (c.is_empty.ensures.0 w.if-is_empty.true) })
      | else-is_empty w ↦ rw (w.writer-is, w.count-is) (record { appended = Appends-nil _; waits = inr refl })
    ] in
    sends_all _ _ _ _ _ _ first (take_rest c.args.bytes.now c.if-is_empty.count) c.if-is_empty-2.ensures

pub returns-in-Ok-clause-ok : goal.returns-in-Ok-clause-ok
returns-in-Ok-clause-ok g c =
    let first : First (bytes_of c.args.self.now) c.args.bytes.now c.if-is_empty.count (g.W.Write.contents c.args.writer.now) (g.W.Write.contents c.if-is_empty.writer) =
    elim c.if-is_empty.branch [
      | then-is_empty+in_ok-count w ↦ rw (w.writer-is, w.count-is) (record { appended = w.in_ok-count.ensures.ok; waits = inl (c.is_empty.ensures.0 w.if-is_empty.true) })
      | else-is_empty w ↦ rw (w.writer-is, w.count-is) (record { appended = Appends-nil _; waits = inr refl })
    ] in
    sends_rest _ _ _ _ _ _ _ first (take_rest c.args.bytes.now c.if-is_empty.count) c.in-Ok.ensures.ok

pub returns-in-Err-clause-err : goal.returns-in-Err-clause-err
returns-in-Err-clause-err g c =
    let first : First (bytes_of c.args.self.now) c.args.bytes.now c.if-is_empty.count (g.W.Write.contents c.args.writer.now) (g.W.Write.contents c.if-is_empty.writer) =
    elim c.if-is_empty.branch [
      | then-is_empty+in_ok-count w ↦ rw (w.writer-is, w.count-is) (record { appended = w.in_ok-count.ensures.ok; waits = inl (c.is_empty.ensures.0 w.if-is_empty.true) })
      | else-is_empty w ↦ rw (w.writer-is, w.count-is) (record { appended = Appends-nil _; waits = inr refl })
    ] in
    send_fails _ _ _ _ _ first
