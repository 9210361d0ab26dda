use Rattle.std.proofs.Common.{subst}
use Rattle.mq_embedded.specs.Calls.{Hears, WithEvents}
use Rattle.mq_embedded.specs.Queue.{queued}
use Rattle.mq_embedded.proofs.Heard.{heard}
use Rattle.mq_embedded.proofs.client.Client.hear.Goals as goal

pub returns : goal.returns
returns c =
    let e = c.receive-progress.ensures in
    let new : WithEvents = record { end = c.receive-progress.new.self; events = queued c.refill.new.self } in
    subst (λ (before : WithEvents). Hears c.args.bytes.now before new c.refill.result) c.self.view_is (heard c.args.bytes.now c.self.inside.end c.receive-progress.new.self (queued c.self.inside.queue) (queued c.refill.new.self) c.refill.result c.receive-progress.result e.«open» e.closed e.nothing (e.limit, e.capacity, e.config) c.refill.ensures.events c.refill.ensures.closed)
