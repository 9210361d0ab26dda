-- The part of a piece that goes into the decoder's own buffer: all bytes that don't belong to a
-- packet that is complete in the piece.
use Rattle.std.specs.Prelude.{◌≡◌, ℕ, ◌+◌, ◌-◌, ◌^◌, min, List, [], ◌∷◌, ◌++◌, length, None, ◌⊎◌}
use Rattle.mq_packet.specs.declared.packet.Packet.{Packet}
use Rattle.mq_decode.specs.Limits.{Bounds}
use Rattle.mq_decode.specs.Grammar.{ReadsWithin, Pending, Reading}

-- The bytes that a piece adds to the held packet, and the rest of the piece: all of it if the
-- packet is still incomplete, otherwise the end of the packet.
abbrev pub Adds : Bounds → List ℕ → List ℕ → List ℕ → Type 0
Adds limits [] added after = added ≡ []
Adds limits (byte ∷ held) added after = (Pending limits ((byte ∷ held) ++ added) × (after ≡ [])) ⊎ ((packet : Packet) × ReadsWithin limits packet ((byte ∷ held) ++ added))

-- The number of bytes of a piece that belong to a packet that isn't complete in the piece: the
-- bytes that complete the held packet, and the rest behind the packets that are complete in the
-- piece.
pub record LeftOver (limits : Bounds) (held piece : List ℕ) (size : ℕ) : Type 0 where
  pub added : List ℕ
  pub after : List ℕ
  pub parts : piece ≡ added ++ after
  pub adds : Adds limits held added after
  pub packets : List Packet
  pub left : List ℕ
  pub reading : Reading limits after packets left None
  pub count : size ≡ length added + length left

-- A counter that stops at the largest number of 64 bits.
abbrev pub counted_more : ℕ → ℕ → ℕ
counted_more count more = min (count + more) (2 ^ 64 - 1)

-- The counter grew by this number of bytes.
abbrev pub Copies : Bounds → List ℕ → List ℕ → ℕ → ℕ → Type 0
Copies limits held piece old new = (size : ℕ) × LeftOver limits held piece size × (new ≡ counted_more old size)

-- The counter after a packet that used `more` bytes of the piece: they were copied if bytes were
-- held; otherwise the packet was read from the piece.
abbrev pub counted_next : List ℕ → ℕ → ℕ → ℕ
counted_next [] count more = count
counted_next (byte ∷ held) count more = counted_more count more
