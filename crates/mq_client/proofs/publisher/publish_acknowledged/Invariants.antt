use Rattle.std.proofs.Common.{[]}
use Rattle.mq_client.specs.Publishing.{asks_of}
use Rattle.mq_client.specs.Inside.Publishing.{AskedFirst}
use Rattle.mq_client.proofs.publisher.publish_acknowledged.Given as goal

abbrev pub invariant-loop : goal.invariant-loop
invariant-loop g l = AskedFirst l.initial.peer l.peer (asks_of l.texts) l.next []
