use Rattle.std.proofs.Common.{ap, sym, subst, ◌∙◌}
use Rattle.mq_end.specs.declared.reason.CloseReason.TheVariants as reasons
use Rattle.mq_end.specs.End.{Reply}
use Rattle.mq_end.specs.Receiving.{Gives}
use Rattle.mq_end.proofs.Along.{flow_default}
use Rattle.mq_end.proofs.Outcomes.{closed_with, closes_gives}
use Rattle.mq_end.proofs.endpoint.Endpoint.take_flow.Goals as goal

pub returns-in_default-clause-ok : goal.returns-in_default-clause-ok
returns-in_default-clause-ok c =
    let n = c.in_default in
    let same = flow_default c.args.packet c.args.self.now.end n.not-Publish n.not-PubAck n.not-PubRec n.not-PubRel n.not-PubComp in
    subst (λ (r : Reply). Gives r c.closes.result c.args.self.now c.close.new.self) (sym same)
    (closes_gives reasons.Unexpected c.closes.result c.args.self.now c.close.new.self (c.closes.ensures ∙ ap closed_with c.close.ensures.reason) c.close.ensures.state)
