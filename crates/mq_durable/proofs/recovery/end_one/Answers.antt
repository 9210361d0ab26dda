use Rattle.mq_durable.proofs.Recoveries.{one_ended}
use Rattle.mq_durable.proofs.recovery.end_one.Goals as goal

pub returns-clause-known : goal.returns-clause-known
returns-clause-known c = λ others all. one_ended c.args.hub.now c.replay_on.new.hub c.args.conn others c.in_ok-replay_on.ensures all
