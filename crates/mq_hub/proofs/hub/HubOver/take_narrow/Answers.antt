use Rattle.std.proofs.Common.{true≢false, ap, sym, ◌∙◌}
use Rattle.mq_route.specs.declared.close.HubClose.TheVariants.{TargetFull}
use Rattle.mq_route.specs.Hub.{is_open}
use Rattle.mq_hub.proofs.KeptState.{goes_shut}
use Rattle.mq_hub.proofs.hub.HubOver.take_narrow.Goals as goal

pub returns-clause-room : goal.returns-clause-room
returns-clause-room g c = λ stays.
    absurd (true≢false (sym stays ∙ ap is_open (goes_shut c.args.conn TargetFull c.close.ensures.goes.0 c.on_subscribe.new.self c.close.new.self
    c.on_subscribe.new.log.acts c.close.new.log.acts c.close.ensures.goes.1)))
