use Rattle.std.proofs.Common.{[]}
use Rattle.mq_client.specs.Inside.Publishing.{AskedFirst}
use Rattle.mq_loopback.specs.Clients.{asks_of}
use Rattle.mq_loopback.proofs.client_run.publish_acknowledged.Given as goal

abbrev pub invariant-loop : goal.invariant-loop
invariant-loop g l = AskedFirst l.initial.peer l.peer (asks_of l.publisher) l.next []
