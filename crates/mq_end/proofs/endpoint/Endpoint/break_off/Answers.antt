use Rattle.std.proofs.Common.{Some, ap, inl, inr, refl, sym, ◌∙◌}
use Rattle.mq_packet.specs.declared.connack.RefusalCode.TheVariants.{UnacceptableProtocolVersion}
use Rattle.mq_end.specs.declared.reason.CloseReason.TheVariants as reasons
use Rattle.mq_end.specs.End.{closes}
use Rattle.mq_end.specs.Server.{refuses}
use Rattle.mq_end.proofs.Openings.{answered, not_answered}
use Rattle.mq_end.proofs.Outcomes.{closes_acts, closes_kept}
use Rattle.mq_end.proofs.endpoint.Endpoint.break_off.Goals as goal

pub returns-then-not-is_answered : goal.returns-then-not-is_answered
returns-then-not-is_answered c =
    let e = c.args.self.now.end in
    let no = sym c.is_answered.ensures ∙ c.if-not-is_answered.true in
    (closes (reasons.Fault c.args.fault) e, inl (sym (not_answered c.args.role c.args.fault e no)), ap Some c.close.ensures.reason, closes_acts (reasons.Fault c.args.fault) c.args.self.now c.close.new.self c.close.ensures.state)

pub returns-in-Ok : goal.returns-in-Ok
returns-in-Ok c =
    let e = c.args.self.now.end in
    let yes = sym c.is_answered.ensures ∙ c.if-not-is_answered.false in
    (refuses UnacceptableProtocolVersion e, inl (sym (answered c.args.role c.args.fault e yes)), ap Some c.in-Ok.ensures.reason, c.in-Ok.ensures.ok)

pub returns-in-Err : goal.returns-in-Err
returns-in-Err c =
    (closes reasons.Memory c.args.self.now.end, inr refl, ap Some c.close-in-Err.ensures.reason, closes_kept reasons.Memory c.args.self.now c.refuse.new.self c.close-in-Err.new.self c.in-Err.ensures.err c.close-in-Err.ensures.state)
