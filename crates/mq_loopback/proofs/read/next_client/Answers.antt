use Rattle.std.proofs.Common.{subst}
use Rattle.mq_schedule.specs.Schedule.{words_of}
use Rattle.mq_loopback.specs.declared.client.Client.{Client}
use Rattle.mq_loopback.specs.File.{IsFresh}
use Rattle.mq_loopback.proofs.Unique.{same_client}
use Rattle.mq_loopback.proofs.read.next_client.Goals as goal

pub returns-then-not-is_fresh : goal.returns-then-not-is_fresh
returns-then-not-is_fresh c = λ other h.
    let said = rw c.in-Some.is at c.in_ok-client.ensures in
    let same = same_client other c.in-Some.client (words_of c.args.line.now) h.says said in
    let fresh = subst (λ (client : Client). IsFresh client.name c.args.clients.now) same h.fresh in
    absurd (cc (c.is_fresh.ensures.1 fresh, c.if-not-is_fresh.true))
