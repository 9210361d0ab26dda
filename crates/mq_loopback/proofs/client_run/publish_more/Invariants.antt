use Rattle.std.proofs.Common.{◌-◌, length}
use Rattle.mq_client.specs.Inside.Publishing.{AskedMore}
use Rattle.mq_loopback.specs.Clients.{asks_of}
use Rattle.mq_loopback.proofs.client_run.publish_more.Given as goal

abbrev pub invariant-loop-next : goal.invariant-loop-next
invariant-loop-next g l = AskedMore l.initial.peer l.peer (asks_of l.publisher) l.initial.next l.next

abbrev pub decreases-loop-next : goal.decreases-loop-next
decreases-loop-next g l = length l.payloads - l.next
