use Rattle.std.proofs.Common.{[], refl}
use Rattle.std.proofs.KnownBytes.{Appends-nil}
use Rattle.mq_client.specs.Course.{Leave}
use Rattle.mq_client.proofs.Courses.{stepped, went_then, left}
use Rattle.mq_client.proofs.peer.Peer.leave.Goals as goal

pub returns-in-Ok-clause-went : goal.returns-in-Ok-clause-went
returns-in-Ok-clause-went g c = rw (← c.self.view_is) (went_then _ _ _ [] [] [] [] [] [] (stepped Leave _ _ _ _ _ _ _ _ refl refl refl (Appends-nil _) c.in-Ok.ensures.ok) c.write.ensures.went)

pub returns-in-Ok-clause-leaves : goal.returns-in-Ok-clause-leaves
returns-in-Ok-clause-leaves g c = rw (← c.self.view_is) (left c.write.result _ _ _ c.in-Ok.ensures.ok.out c.write.ensures.all)
