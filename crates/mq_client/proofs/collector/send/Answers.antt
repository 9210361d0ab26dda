use Rattle.std.proofs.Common.{inl, inr, refl}
use Rattle.mq_client.proofs.Courses.{went_none}
use Rattle.mq_client.proofs.collector.send.Goals as goal

pub returns-then-has_message-clause-went : goal.returns-then-has_message-clause-went
returns-then-has_message-clause-went g c = went_none _

pub returns-then-has_message-clause-sent : goal.returns-then-has_message-clause-sent
returns-then-has_message-clause-sent g c = inr refl

pub returns-clause-sent : goal.returns-clause-sent
returns-clause-sent g c = inl (c.if-has_message.ensures refl)
