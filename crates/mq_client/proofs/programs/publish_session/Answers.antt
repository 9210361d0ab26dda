use Rattle.std.proofs.Common.{Bool, subst}
use Rattle.mq_client.specs.Programs.{IsClientOf}
use Rattle.mq_client.proofs.Wholes.{lost_done, session_done}
use Rattle.mq_client.proofs.programs.publish_session.Goals as goal

pub returns-then-loaded : goal.returns-then-loaded
returns-then-loaded g c =
    let own = subst (λ (lost : Bool). IsClientOf (g.F.Disk.history c.args.disk) c.args.session.name.now c.args.session.is_forgotten c.args.id.now lost c.in-Ok.loaded.client) c.if-loaded.true c.in-Ok.ensures in
    lost_done c.write_lost.result (g.F.Disk.history c.args.disk) c.args.session.name.now c.args.session.is_forgotten c.args.id.now c.in-Ok.loaded.client c.args.texts.now (g.W.Write.contents c.args.output.now) (g.W.Write.contents c.write_lost.new.output) own c.write_lost.ensures

pub returns-in-Ok : goal.returns-in-Ok
returns-in-Ok g c =
    let own = subst (λ (lost : Bool). IsClientOf (g.F.Disk.history c.args.disk) c.args.session.name.now c.args.session.is_forgotten c.args.id.now lost c.in-Ok.loaded.client) c.if-loaded.false c.in-Ok.ensures in
    session_done c.publish_kept.result (g.F.Disk.history c.args.disk) c.args.session.name.now c.args.session.is_forgotten c.args.id.now c.new-file.result c.in-Ok.loaded.client c.args.texts.now (g.W.Write.contents c.args.output.now) (g.W.Write.contents c.publish_kept.new.output) own c.new-file.ensures c.publish_kept.ensures
