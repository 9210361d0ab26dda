use Rattle.std.proofs.Common.{◌≡◌, map}
use Rattle.mq_serve.proofs.server.worker_starts.Given as goal

abbrev pub invariant-loop-share : goal.invariant-loop-share
invariant-loop-share g l = map (λ s. s.share) l.starts.items ≡ l.yielded
