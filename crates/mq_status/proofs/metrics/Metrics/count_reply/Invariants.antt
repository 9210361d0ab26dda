use Rattle.std.proofs.Common.{take}
use Rattle.mq_status.specs.Counting.{Grows, acts_add}
use Rattle.mq_status.proofs.metrics.Metrics.count_reply.Given as goal

abbrev pub invariant-loop-act : goal.invariant-loop-act
invariant-loop-act l = Grows l.initial.self l.self (λ counter. acts_add counter (take l.act-index l.act-items))
