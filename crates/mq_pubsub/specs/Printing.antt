-- Messages that were printed, and the packet identifiers that were printed with them.
use Rattle.std.specs.Prelude.{◌≡◌, ⊤, ℕ, ◌+◌, ◌*◌, ◌-◌, ◌==◌, ◌&&◌, ◌||◌, if◌then◌else◌, List, [], ◌∷◌, ◌++◌, length, drop, Option, Some, None}
use Rattle.mq_packet.specs.declared.message.Message.{Message}
use Rattle.mq_end.specs.declared.happening.Happening.{Happening}
use Rattle.mq_end.specs.declared.happening.Happening.TheVariants as happens
use Rattle.mq_end.specs.Both.{has_identifier}

-- These values were printed and flushed, in order, after those before.
abbrev pub Shows : {A : Type 0} → Option (List A) → Option (List A) → List A → Type 0
Shows None new values = ⊤
Shows (Some old) None values = ⊥
Shows (Some old) (Some new) values = new ≡ old ++ values

-- a packet identifier, which is never 0 (2.3.1)
abbrev pub identifier : ℕ → Option ℕ
identifier number = if number == 0 then None else Some number

-- the packet identifier of a packet, if that is PUBACK or PUBREC (3.4, 3.5)
abbrev pub acknowledged : List ℕ → Option ℕ
acknowledged (first ∷ size ∷ high ∷ low ∷ []) =
    if ((first == 0x40) || (first == 0x50)) && (size == 2) then identifier (256 * high + low) else None
acknowledged bytes = None

-- the packet identifier of the last packet of an output, if that is PUBACK or PUBREC
abbrev pub last_acknowledged : List ℕ → Option ℕ
last_acknowledged output = acknowledged (drop (length output - 4) output)

-- The packet identifier of a message that was just delivered, from the output of the client, which
-- ends with the answer to the message (4.3). A message of QoS 0 has none.
abbrev pub identifier_of : List ℕ → Message → Option ℕ
identifier_of output message = if has_identifier message.qos then last_acknowledged output else None

-- the same after a happening
abbrev pub identifier_at : List ℕ → Happening → Option ℕ
identifier_at output (happens.Handed message) = identifier_of output message
identifier_at output happening = None
