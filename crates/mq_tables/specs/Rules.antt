-- The configuration that decides which copies are placed, and the room of a session.
use Rattle.std.specs.Prelude.{◌-◌, ℕ, Option, Some, None, Bool, true, nat_le, length, ◌+◌, List, filter, sum_by, if◌then◌else◌, ◌&&◌, ◌==◌, ◌||◌, not}
use Rattle.mq_packet.specs.declared.message.Message.{Message}
use Rattle.mq_flow.specs.Sender.{uses}
use Rattle.mq_flow.specs.Stored.{stored_bytes, message_bytes}
use Rattle.mq_end.specs.State.{EndState}
use Rattle.mq_end.specs.Both.{has_identifier}
use Rattle.mq_route.specs.declared.config.HubConfig.{HubConfig}
use Rattle.mq_route.specs.Work.{drops_copies, publish_bytes}
use Rattle.mq_tables.specs.declared.rules.CopyRules.{CopyRules}
use Rattle.mq_tables.specs.declared.space.Space.{Space}

-- the rules of a configuration
abbrev pub rules_of : HubConfig → CopyRules
rules_of config = record { when_full = config.when_full; most_stored = config.most_stored; most_waiting = config.most_waiting }

-- ---- the room of a session

-- the rest of a limit; None: there is no limit
abbrev pub left_of : Option ℕ → ℕ → Option ℕ
left_of None used = None
left_of (Some most) used = Some (most - used)

-- this number fits in the rest of a limit
abbrev pub fits_left : Option ℕ → ℕ → Bool
fits_left None more = true
fits_left (Some left) more = nat_le more left

-- the number of free identifiers of a session (2.3.1)
abbrev pub free_of : EndState → ℕ
free_of state = state.capacity - length (uses state.end.book)

-- the room of a session, after this number of bytes is queued
abbrev pub space_of : CopyRules → ℕ → EndState → Space
space_of rules queued state = record {
  free = free_of state;
  stored = left_of rules.most_stored (stored_bytes state.end.book);
  waiting = left_of rules.most_waiting (queued + length state.output);
}

-- the number of identifiers that these messages need (2.3.1)
abbrev pub count_of : List Message → ℕ
count_of messages = length (filter (λ m. has_identifier m.qos) messages)

-- the number of bytes of them that a session stores
abbrev pub bytes_of : List Message → ℕ
bytes_of messages = sum_by (λ message. if has_identifier message.qos then message_bytes message else 0) messages

-- a session has enough free identifiers for these messages (2.3.1), and may store their bytes
abbrev pub has_room : Option ℕ → List Message → EndState → Bool
has_room most_stored messages state = nat_le (count_of messages) (free_of state) && fits_left (left_of most_stored (stored_bytes state.end.book)) (bytes_of messages)

-- a message is missed
abbrev pub skips : CopyRules → Space → Message → Bool
skips rules space message =
    (drops_copies rules.when_full && (has_identifier message.qos && (space.free == 0 || not (fits_left space.stored (message_bytes message)))))
    || (not (fits_left space.waiting (publish_bytes message)) && not (has_identifier message.qos))

-- the space that is left after a message is queued for a connected client
abbrev pub space_after : Message → Space → Space
space_after message space = record {
  free = if has_identifier message.qos then space.free - 1 else space.free;
  stored = if has_identifier message.qos then left_of space.stored (message_bytes message) else space.stored;
  waiting = left_of space.waiting (publish_bytes message);
}
