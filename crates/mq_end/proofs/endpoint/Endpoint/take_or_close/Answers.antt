use Rattle.std.proofs.Common.{Some, inl, inr, refl, ap}
use Rattle.mq_end.specs.declared.reason.CloseReason.TheVariants as reasons
use Rattle.mq_end.specs.End.{closes}
use Rattle.mq_end.specs.Receiving.{gets_as}
use Rattle.mq_end.proofs.Along.{closes_stays}
use Rattle.mq_end.proofs.endpoint.Endpoint.take_or_close.Goals as goal

pub returns-in-Ok-clause-made : goal.returns-in-Ok-clause-made
returns-in-Ok-clause-made c = (gets_as c.args.role c.args.packet c.args.self.now.end, inl refl, c.in-Ok.ensures.closed, c.in-Ok.ensures.ok)

pub returns-in-Ok-clause-within : goal.returns-in-Ok-clause-within
returns-in-Ok-clause-within c = λ up once fits happenings acknowledged. (c.in-Ok.ensures.closed, c.in-Ok.ensures.ok)

pub returns-in-Err-clause-made : goal.returns-in-Err-clause-made
returns-in-Err-clause-made c =
    let old = c.args.self.now in (
      closes reasons.Memory old.end,
      inr refl,
      ap Some c.close.ensures.reason,
      closes_stays reasons.Memory old c.take.new.self c.close.new.self c.args.told.now c.take.new.told c.in-Err.ensures.err c.close.ensures.state,
    )
