use Rattle.mq_programs.proofs.Runs.{locked_done, unlocked_done}
use Rattle.mq_programs.proofs.clients.publish_locked.Goals as goal

pub returns-in-Ok-Some : goal.returns-in-Ok-Some
returns-in-Ok-Some g c = locked_done _ _ _ c.args.session.name.now c.args.session.is_forgotten c.args.id.now c.args.texts.now c.publish_session-status.ensures

pub returns-in-Err : goal.returns-in-Err
returns-in-Err g c = unlocked_done _ _ _ c.args.session.name.now c.args.session.is_forgotten c.args.id.now c.args.texts.now c.unlocked.result c.write_halt.ensures.printed c.write_halt.ensures.status
