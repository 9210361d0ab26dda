use Rattle.std.proofs.Common.{refl, subst}
use Rattle.std.specs.Io.KnownBytes.{Appends}
use Rattle.mq_packet.specs.Writing.{AppendsFront}
use Rattle.std.proofs.KnownBytes.{Keeps-refl}
use Rattle.mq_client.proofs.Courses.{wrote, broke, stays}
use Rattle.mq_client.proofs.peer.Peer.write.Goals as goal

pub returns-in-Ok-clause-went : goal.returns-in-Ok-clause-went
returns-in-Ok-clause-went g c = rw (← c.self.view_is) (wrote _ _ _ _ _ _ _ _ _ _ _ _ refl c.take_all_output-bytes.ensures.bytes c.take_all_output-bytes.ensures.left c.in-Ok.ensures.coming (subst (λ z. Appends (g.S.Stream.written c.self.inside.stream) (g.S.Stream.written c.write_all.new.self) z) c.as_slice.ensures c.in-Ok.ensures.ok) c.in_default.ensures.ok)

pub returns-clause-went : goal.returns-clause-went
returns-clause-went g c = rw (← c.self.view_is) (broke _ _ _ _ _ _ _ _ _ _ _ _ _ refl c.take_all_output-bytes.ensures.bytes c.take_all_output-bytes.ensures.left c.in-Err-write_all.ensures.coming (subst (λ z. AppendsFront (g.S.Stream.written c.self.inside.stream) (g.S.Stream.written c.write_all.new.self) z) c.as_slice.ensures c.in-Err-write_all.ensures.err) c.in_default.ensures.ok c.dropped.ensures.end c.dropped.ensures.output c.dropped.ensures.held)

pub returns-in-Err-clause-went : goal.returns-in-Err-clause-went
returns-in-Err-clause-went g c = rw (← c.self.view_is) (stays _ _ _ _ _ _ _ _ _ _ (Keeps-refl _) (Keeps-refl _) c.in-Err.ensures.err refl)
