use Rattle.std.proofs.Common.{◌≡◌, ℕ, List, ◌++◌, length, take}
use Rattle.mq_decode.specs.Grammar.{Stream}
use Rattle.mq_cli.proofs.show.size_of.Given as goal

-- The bytes of the packets counted.
abbrev pub invariant-loop-packet : goal.invariant-loop-packet
invariant-loop-packet l = (front rest : List ℕ) → Stream l.fn.limits (take l._packet-index l.packets) front → l.bytes ≡ front ++ rest → length front ≡ l.size
