use Rattle.std.proofs.Common.{true, true≢false, ap, sym, ◌∙◌}
use Rattle.mq_end.specs.declared.reason.CloseReason.TheVariants.{Window}
use Rattle.mq_route.specs.declared.close.HubClose.TheVariants.{Own, TargetFull}
use Rattle.mq_route.specs.Hub.{is_open}
use Rattle.mq_hub.proofs.PublishClass.{unfit_goes, up_by}
use Rattle.mq_hub.proofs.KeptState.{goes_shut}
use Rattle.mq_hub.proofs.LastActivity.{on_ok}
use Rattle.mq_hub.proofs.hub.HubOver.on_publish.Goals as goal

pub reception-requires : goal.reception-requires
reception-requires g c = up_by c.args.conn c.args.key c.args.self.now.connections c.requires.up

pub deliver_new-requires-clause-up : goal.deliver_new-requires-clause-up
deliver_new-requires-clause-up g c = up_by c.args.conn c.args.key c.args.self.now.connections c.requires.up

pub take_silent-requires-clause-up : goal.take_silent-requires-clause-up
take_silent-requires-clause-up g c = up_by c.args.conn c.args.key c.args.self.now.connections c.requires.up

pub returns-in-WindowFull-clause-goes : goal.returns-in-WindowFull-clause-goes
returns-in-WindowFull-clause-goes g c = (
  c.close-in-WindowFull.ensures.goes.0,
  unfit_goes c.args.self.now c.args.key c.args.publish c.in-WindowFull.ensures c.args.conn c.close-in-WindowFull.ensures.goes.0
      c.close-in-WindowFull.new.self c.args.log.now.acts c.close-in-WindowFull.new.log.acts c.close-in-WindowFull.ensures.goes.1,
)

pub returns-in-WindowFull-clause-room : goal.returns-in-WindowFull-clause-room
returns-in-WindowFull-clause-room g c = λ stays.
    absurd (true≢false (sym stays ∙ ap is_open (goes_shut c.args.conn (Own Window) c.close-in-WindowFull.ensures.goes.0 c.args.self.now c.close-in-WindowFull.new.self
    c.args.log.now.acts c.close-in-WindowFull.new.log.acts c.close-in-WindowFull.ensures.goes.1)))

pub returns-in-Duplicate-clause-goes : goal.returns-in-Duplicate-clause-goes
returns-in-Duplicate-clause-goes g c =
    on_ok c.take_silent.result (λ each. (true, each c.args.conn true c.args.log.now.acts)) c.take_silent.ensures.goes

pub returns-else-branch-clause-room : goal.returns-else-branch-clause-room
returns-else-branch-clause-room g c = λ stays.
    absurd (true≢false (sym stays ∙ ap is_open (goes_shut c.args.conn TargetFull c.close.ensures.goes.0 c.deliver_new.new.self c.close.new.self
    c.deliver_new.new.log.acts c.close.new.log.acts c.close.ensures.goes.1)))
