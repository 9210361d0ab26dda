-- The sender's table, which finds the entry of an identifier in constant time (2.3.1, 4.3.2,
-- 4.3.3). Only proofs cite these definitions.
use Rattle.std.specs.Prelude.{ℕ, true, List, nat_eq, Option, Some, None}
use Rattle.std.specs.Map.{lookup}
use Rattle.mq_flow.specs.Stored.{message_bytes}
use Rattle.mq_flow.specs.declared.table.Held.{Held}
use Rattle.mq_flow.specs.declared.table.Held.TheVariants.{Waiting, Released}

-- the same, and its PUBLISH was sent (3.3.1.1)
abbrev pub gone_out : Held → Held
gone_out (Waiting entry) = Waiting (record { id = entry.id; message = entry.message; sent = true })
gone_out (Released id) = Released id

-- The topic and payload bytes of the message, unless it is acknowledged.
abbrev pub bytes_in : Held → ℕ
bytes_in (Waiting entry) = message_bytes entry.message
bytes_in (Released id) = 0

-- the bytes of the entry that is found
abbrev pub bytes_found : Option Held → ℕ
bytes_found None = 0
bytes_found (Some held) = bytes_in held

-- the bytes of the message of an identifier; 0 without a message
abbrev pub bytes_under : ℕ → List (ℕ × Held) → ℕ
bytes_under id pairs = bytes_found (lookup (nat_eq id) pairs)
