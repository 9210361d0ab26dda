use Rattle.std.proofs.Common.{◌∷◌, ◌++◌, ◌+◌, ◌∙◌, ap, drop, take, arith}
use Rattle.mq_client.specs.Collecting.{grants}
use Rattle.mq_client.proofs.Gathers.{parted}
use Rattle.mq_client.proofs.collector.answer_in.Goals as goal

pub returns-in-SubAck : goal.returns-in-SubAck
returns-in-SubAck c =
    let hs = c.args.happenings.now in
    let i = c.loop-happening.happening-index in
    record {
      before = take i hs;
      id = c.in-SubAck.id;
      given = c.in-SubAck.codes;
      after = drop (i + 1) hs;
      parts = parted hs i c.happening-item.result (omega arith) c.happening-item.is ∙ ap (λ h. take i hs ++ h ∷ drop (i + 1) hs) c.in-SubAck.is;
      answers = c.grants.ensures ∙ ap grants c.as_slice.ensures.value;
    }
