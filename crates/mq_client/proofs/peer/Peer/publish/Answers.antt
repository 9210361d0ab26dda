use Rattle.std.proofs.Common.{refl}
use Rattle.std.proofs.KnownBytes.{Appends-nil}
use Rattle.mq_client.specs.Course.{Publish}
use Rattle.mq_client.proofs.Courses.{stepped, went_none}
use Rattle.mq_client.proofs.peer.Peer.publish.Goals as goal

pub returns-clause-went : goal.returns-clause-went
returns-clause-went g c = rw (← c.self.view_is) (stepped (Publish c.args.message) _ _ _ _ _ _ _ _ refl refl refl (Appends-nil _) (record { answer = c.in_default.field-0; accepts = c.in_default.ensures.ok }))

pub returns-in-Err-clause-went : goal.returns-in-Err-clause-went
returns-in-Err-clause-went g c =
    rw (c.waits.ensures.asks c.args.message) (rw c.in-Err.ensures.err (rw (← c.self.view_is) (went_none _)))
