use Rattle.mq_programs.proofs.Runs.{linked_done, unlocked_done}
use Rattle.mq_programs.proofs.clients.publish_linked.Goals as goal

pub returns-in-Ok : goal.returns-in-Ok
returns-in-Ok g c = linked_done _ _ _ c.args.session.name.now c.args.session.is_forgotten c.args.id.now c.args.texts.now c.publish_locked.ensures

pub returns-in-Err : goal.returns-in-Err
returns-in-Err g c =
    let own = unlocked_done _ _ _ c.args.session.name.now c.args.session.is_forgotten c.args.id.now c.args.texts.now c.unlocked.result c.write_halt.ensures.printed c.write_halt.ensures.status in
    linked_done _ _ _ c.args.session.name.now c.args.session.is_forgotten c.args.id.now c.args.texts.now own
