use Rattle.std.proofs.Common.{◌∙◌}
use Rattle.mq_loop.proofs.Sent.{sends_more}
use Rattle.mq_loop.proofs.connection.Connection.flush.Goals as goal

pub loop-preserved : goal.loop-preserved
loop-preserved g c =
    let before = c.loop.invariant in
    let at = c.loop.self-inside in
    let written = rw c.as_slice.ensures at c.in-Bytes.ensures.went.1 in
    record {
      went = rw c.advance.ensures (sends_more (g.S.Socket.went c.self.inside.socket) (g.S.Socket.went at.socket) (g.S.Socket.went c.write.new.self) c.self.inside.kept at.kept c.in-Bytes.count before.went written);
      came = c.write.ensures.came ∙ before.came;
      unread = before.unread;
      broken = before.broken;
      finished = before.finished;
    }
