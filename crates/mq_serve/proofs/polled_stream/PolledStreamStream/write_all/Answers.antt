use Rattle.mq_serve.proofs.Polleds.{appends_sent, front_sent}
use Rattle.mq_serve.proofs.polled_stream.PolledStreamStream.write_all.Goals as goal

pub returns-clause-ok : goal.returns-clause-ok
returns-clause-ok g c = appends_sent c.send.result c.args.bytes.now c.args.self.now c.send.new.self c.send.ensures.ok

pub returns-clause-err : goal.returns-clause-err
returns-clause-err g c = front_sent c.send.result c.args.bytes.now c.args.self.now c.send.new.self c.send.ensures.err c.send.ensures.same c.send.ensures.waits
