use Rattle.std.proofs.Common.{[]}
use Rattle.mq_tables.proofs.SessionRoom.{ready_now, ready_same}
use Rattle.mq_hub.proofs.unsubscribe.make_bytes.Goals as goal

pub returns-in-Ok-clause-ok : goal.returns-in-Ok-clause-ok
returns-in-Ok-clause-ok c =
    ready_now c.args.key [] c.args.more c.ready.result c.args.sessions.now.list c.ready.new.self.list c.ready.ensures.ascending c.ready.ensures.readies c.in-Ok.is

pub returns-in-Ok-clause-same : goal.returns-in-Ok-clause-same
returns-in-Ok-clause-same c =
    ready_same c.args.key [] c.args.more c.ready.result c.args.sessions.now.list c.ready.new.self.list c.ready.ensures.ascending c.ready.ensures.readies

pub returns-in-Err-clause-same : goal.returns-in-Err-clause-same
returns-in-Err-clause-same c =
    ready_same c.args.key [] c.args.more c.ready.result c.args.sessions.now.list c.ready.new.self.list c.ready.ensures.ascending c.ready.ensures.readies
