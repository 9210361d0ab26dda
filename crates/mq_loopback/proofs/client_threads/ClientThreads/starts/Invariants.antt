use Rattle.std.proofs.Common.{◌≡◌, drop, length, map, take}
use Rattle.mq_loopback.proofs.client_threads.ClientThreads.starts.Given as goal

abbrev pub invariant-loop-stream : goal.invariant-loop-stream
invariant-loop-stream l = (map (λ s. s.client.now) l.starts.items ≡ take (length l.yielded) l.self) × (l.rest ≡ drop (length l.yielded) l.self)
