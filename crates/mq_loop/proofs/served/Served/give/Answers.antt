use Rattle.mq_route.specs.Hub.{waiting_on}
use Rattle.mq_loop.specs.Accounts.{name_at}
use Rattle.mq_loop.specs.Rounds.{output_at}
use Rattle.mq_loop.proofs.Outputs.{given_empty, given_written}
use Rattle.mq_loop.proofs.served.Served.give.Goals as goal

pub returns-clause-given : goal.returns-clause-given
returns-clause-given g c =
    let place = c.args.place in
    let old = output_at place c.args.self.now.lines in
    let flushed = output_at place c.flush.new.self.lines in
    let collected = output_at place c.collect.new.self.lines in
    let hub = c.flush-flushed.new.self.hub in
    given_written (waiting_on (name_at place) hub.connections) c.flush-flushed.result old flushed collected (output_at place c.flush-flushed.new.self.lines)
    c.if-is_finished.ensures c.in-All.ensures.here c.in-Ok.ensures.here c.flush-flushed.ensures.here c.in_default-flushed.not-Failed
    (given_empty place c.flush.new.self.hub c.collect.new.self.hub hub old flushed c.in-Ok.alive c.in-Ok.ensures.step c.in-All.ensures.here c.flush-flushed.ensures.hub)
