use Rattle.mq_client.proofs.Wholes.{messages_done}
use Rattle.mq_client.proofs.programs.collect_messages.Goals as goal

pub returns-in-Ok : goal.returns-in-Ok
returns-in-Ok g c = messages_done c.collect-status.result c.args.id.now c.args.clean c.args.goal.now c.in-Ok.peer c.collect-status.new.peer (g.W.Write.contents c.args.output.now) (g.W.Write.contents c.collect-status.new.output) c.in-Ok.ensures c.collect-status.ensures.ok
