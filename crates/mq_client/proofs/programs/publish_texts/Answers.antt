use Rattle.mq_client.proofs.Wholes.{texts_done}
use Rattle.mq_client.proofs.programs.publish_texts.Goals as goal

pub returns-in-Ok : goal.returns-in-Ok
returns-in-Ok g c = texts_done c.publish-status.result c.args.id.now c.args.texts.now c.in-Ok.peer c.publish-status.new.peer (g.W.Write.contents c.args.output.now) (g.W.Write.contents c.publish-status.new.output) c.in-Ok.ensures c.publish-status.ensures
