use Rattle.mq_hub.proofs.InputBytes.{all_received}
use Rattle.mq_hub.proofs.hub.HubOver.on_bytes.Goals as goal

pub returns-clause-step : goal.returns-clause-step
returns-clause-step g c =
    all_received c.args.self.now c.step_some.new.self c.args.conn c.args.piece.now 18446744073709551615 _ _ c.in_ok-reply.ensures.step c.in_ok-reply.ensures.few
