-- Streams of packets, and the bytes behind them (chapters 2 and 3). Only proofs cite these
-- definitions.
use Rattle.std.specs.Prelude.{◌≡◌, ℕ, ◌+◌, List, [], ◌++◌}
use Rattle.mq_packet.specs.declared.packet.Packet.{Packet}
use Rattle.mq_decode.specs.Limits.{Bounds}
use Rattle.mq_decode.specs.Grammar.{ReadsWithin}

-- If `buffer` begins with a packet, it has no bytes behind it.
abbrev pub IsAlone : Bounds → List ℕ → Type 0
IsAlone limits buffer = (packet : Packet) (first rest : List ℕ) → ReadsWithin limits packet first → buffer ≡ first ++ rest → rest ≡ []
