use Rattle.std.proofs.Common.{length, sym, ap, ◌∙◌}
use Rattle.mq_end.specs.declared.happening.Happening.{Happening}
use Rattle.mq_embedded.specs.Calls.{event_bytes}
use Rattle.mq_embedded.proofs.Codes.{codes_size}
use Rattle.mq_embedded.proofs.event.event_of.Goals as goal

pub returns-in-SubAck-clause-size : goal.returns-in-SubAck-clause-size
returns-in-SubAck-clause-size c =
    ap length c.as_slice.ensures.value ∙ sym (codes_size c.in-SubAck.codes) ∙ sym (ap (λ (h : Happening). length (event_bytes h)) c.in-SubAck.is)
