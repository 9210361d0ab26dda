use Rattle.std.proofs.Common.{refl}
use Rattle.mq_programs.proofs.clients.publish_as.Goals as goal

pub publish_over-status-requires-clause-texts : goal.publish_over-status-requires-clause-texts
publish_over-status-requires-clause-texts g c = record { topic = c.requires.topic; qos = refl; retain = refl; texts = c.as_slice.ensures.value }
