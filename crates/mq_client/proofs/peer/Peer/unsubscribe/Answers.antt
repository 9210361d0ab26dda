use Rattle.std.proofs.Common.{refl}
use Rattle.std.proofs.KnownBytes.{Appends-nil}
use Rattle.mq_client.specs.Course.{Unsubscribe}
use Rattle.mq_client.proofs.Courses.{stepped, went_none}
use Rattle.mq_client.proofs.peer.Peer.unsubscribe.Goals as goal

pub returns-clause-went : goal.returns-clause-went
returns-clause-went g c = rw (← c.self.view_is) (stepped (Unsubscribe c.args.filters) _ _ _ _ _ _ _ _ refl refl refl (Appends-nil _) (record { id = c.in_default.field-0; asks = c.in_default.ensures.ok }))

pub returns-in-Err-clause-refused : goal.returns-in-Err-clause-refused
returns-in-Err-clause-refused g c = rw c.in-Err.ensures.err (rw (← c.self.view_is) (went_none _))
