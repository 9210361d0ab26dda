use Rattle.std.proofs.Common.{◌≡◌, map, length}
use Rattle.mq_serve.specs.Ends.{first_stop}
use Rattle.mq_serve.proofs.server.first_stop.Given as goal

abbrev pub invariant-loop-rest : goal.invariant-loop-rest
invariant-loop-rest g l = first_stop (map (λ s. s.end) l.fn.results) ≡ first_stop (map (λ s. s.end) l.rest)

abbrev pub decreases-loop-rest : goal.decreases-loop-rest
decreases-loop-rest g l = length l.rest
