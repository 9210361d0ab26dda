use Rattle.std.proofs.Common.{true, true≢false, ap, sym, ◌∙◌}
use Rattle.mq_route.specs.declared.close.HubClose.TheVariants.{Own}
use Rattle.mq_route.specs.Hub.{is_open}
use Rattle.mq_hub.proofs.RequestPackets.{closing_goes, narrow, narrow_goes}
use Rattle.mq_hub.proofs.KeptState.{goes_shut}
use Rattle.mq_hub.proofs.LastActivity.{on_ok}
use Rattle.mq_hub.proofs.hub.HubOver.take_other.Goals as goal

pub returns-in-Some-clause-goes : goal.returns-in-Some-clause-goes
returns-in-Some-clause-goes g c = (
  c.close.ensures.goes.0,
  narrow_goes c.args.conn c.args.key c.args.packet c.close.ensures.goes.0 c.args.self.now c.close.new.self c.args.log.now.acts c.close.new.log.acts (narrow c.args.packet c.args.self.now c.requires.asks)
      (closing_goes c.args.self.now c.args.key c.requires.end c.args.packet c.in-Some.reason c.in-Some.ensures.some c.args.conn c.close.ensures.goes.0
      c.close.new.self c.args.log.now.acts c.close.new.log.acts c.close.ensures.goes.1),
)

pub returns-in-Some-clause-room : goal.returns-in-Some-clause-room
returns-in-Some-clause-room g c = λ stays.
    absurd (true≢false (sym stays ∙ ap is_open (goes_shut c.args.conn (Own c.in-Some.reason) c.close.ensures.goes.0 c.args.self.now c.close.new.self
    c.args.log.now.acts c.close.new.log.acts c.close.ensures.goes.1)))

pub returns-in-None-clause-goes : goal.returns-in-None-clause-goes
returns-in-None-clause-goes g c =
    on_ok c.take_silent.result
    (λ each. (
      true,
      narrow_goes c.args.conn c.args.key c.args.packet true c.args.self.now c.take_silent.new.self c.args.log.now.acts c.args.log.now.acts
          (narrow c.args.packet c.args.self.now c.requires.asks) (each c.args.conn true c.args.log.now.acts),
    )) c.take_silent.ensures.goes
