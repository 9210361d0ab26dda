-- An end that continues a stored session (3.1.2.4, 4.1).
use Rattle.std.specs.Prelude.{◌≡◌, ℕ, ◌≤◌, List, Option, Some, None, All}
use Rattle.mq_flow.specs.declared.entry.SenderEntry.{SenderEntry}
use Rattle.mq_flow.specs.declared.session.Session.{Session}
use Rattle.mq_flow.specs.Sender.{no_claims}
use Rattle.mq_end.specs.Sizes.{publish_size}
use Rattle.mq_end.specs.State.{EndState}

-- the PUBLISH of each message that the session holds is within the bound on the remaining length
-- (2.2.3, 3.3)
abbrev pub FitsWithin : ℕ → Session → Type 0
FitsWithin limit session = All (λ (entry : SenderEntry). publish_size entry.message ≤ limit) session.sender.book.entries

-- the session of an end as it is saved: nothing is claimed, and no room is reserved
abbrev pub kept_session : EndState → Session
kept_session link = record {
  sender = record { book = no_claims link.end.book; capacity = link.capacity; last = link.end.last; room = 0 };
  receiver = link.end.received;
}

-- a session was saved for another client than this (3.1.3.1)
abbrev pub NamesAnother : Option (List ℕ) → List ℕ → Type 0
NamesAnother None id = ⊥
NamesAnother (Some client) id = client ≡ id → ⊥
