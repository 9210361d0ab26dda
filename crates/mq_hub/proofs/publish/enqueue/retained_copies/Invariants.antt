use Rattle.std.proofs.Common.{◌≡◌, ◌++◌, ℕ, drop}
use Rattle.mq_route.specs.Hub.{for_key}
use Rattle.mq_route.specs.Work.{retained_copies}
use Rattle.mq_hub.proofs.publish.enqueue.retained_copies.Given as goal

abbrev pub invariant-loop-request : goal.invariant-loop-request
invariant-loop-request l =
    (key : ℕ) → for_key key l.messages.items ++ retained_copies key (drop l.request-index l.requests) l.retained.messages
    ≡ retained_copies key l.requests l.retained.messages
