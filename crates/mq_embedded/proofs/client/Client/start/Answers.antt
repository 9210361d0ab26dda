use Rattle.mq_decode.proofs.Loops.{some_left}
use Rattle.mq_embedded.proofs.Started.{continued, not_loaded}
use Rattle.mq_embedded.proofs.client.Client.start.Goals as goal

pub returns-in-Ok : goal.returns-in-Ok
returns-in-Ok c = continued c.args.config c.args.saved.now c.in-Ok.saved c.resume.result (some_left c.is_empty.result _ c.is_empty.ensures c.if-is_empty.false) c.in-Ok.ensures.ok c.resume.ensures

pub returns-in-Err : goal.returns-in-Err
returns-in-Err c = not_loaded c.args.config c.args.saved.now c.in-Err.fault (some_left c.is_empty.result _ c.is_empty.ensures c.if-is_empty.false) c.in-Err.ensures.refused
