use Rattle.std.proofs.Common.{subst}
use Rattle.mq_embedded.specs.Calls.{WithEvents, TakesOutput}
use Rattle.mq_embedded.specs.Queue.{queued}
use Rattle.mq_embedded.proofs.Moved.{moved}
use Rattle.mq_embedded.proofs.client.Client.take_output.Goals as goal

pub returns : goal.returns
returns c =
    let old : WithEvents = record { end = c.self.inside.end; events = queued c.self.inside.queue } in
    let new : WithEvents = record { end = c.take_output.new.self; events = queued c.self.inside.queue } in
    subst (λ (before : WithEvents). TakesOutput c.min-count.result before new c.args.out.now c.put.new.out) c.self.view_is (moved old c.output-output.result.now c.args.out.now c.put.new.out c.min-count.result c.take_output.new.self c.output-output.ensures c.min-count.ensures c.put.ensures.written c.take_output.ensures)
