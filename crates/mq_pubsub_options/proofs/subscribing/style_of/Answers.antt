use Rattle.std.proofs.Common.{refl}
use Rattle.mq_pubsub_options.proofs.subscribing.style_of.Goals as goal

pub returns-in-Ok : goal.returns-in-Ok
returns-in-Ok c = rw c.in-Some.is (c.in-Ok.format, refl, c.in-Ok.ensures.ok)
