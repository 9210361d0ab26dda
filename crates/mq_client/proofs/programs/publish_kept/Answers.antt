use Rattle.mq_client.specs.Disk.{stands_of}
use Rattle.mq_client.proofs.Wholes.{kept_done}
use Rattle.mq_client.proofs.programs.publish_kept.Goals as goal

pub returns-after-is_lost : goal.returns-after-is_lost
returns-after-is_lost g c = kept_done c.resume-status.result (stands_of c.args.file) c.args.client c.args.texts.now c.in-Ok.peer c.resume-status.new.peer (g.W.Write.contents c.args.output.now) (g.W.Write.contents c.resume-status.new.output) c.in-Ok.ensures.client c.in-Ok.ensures.kept c.resume-status.ensures
