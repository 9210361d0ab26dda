-- A sender: its book, and the identifier assigned last.
use Rattle.std.specs.Prelude.{ℕ, ◌<◌, ◌≤◌, ◌≡◌, false, List, map, nat_eq, nat_lt}
use Rattle.std.specs.List.{list_any}
use Rattle.mq_topic.specs.declared.qos.Qos.TheVariants.{Q0}
use Rattle.mq_flow.specs.Sender.{SenderBook, times, same_qos}
use Rattle.mq_flow.specs.Laws.{IsSound}
use Rattle.mq_flow.specs.declared.claim.Claimed.{Claimed}

-- The sender's book, its capacity (the maximum number of identifiers in use), the identifier
-- assigned last (0 if none was) (2.3.1), and the number of messages that it can accept without
-- allocation.
pub record Sending : Type 0 where
  pub book : SenderBook
  pub capacity : ℕ
  pub last : ℕ
  pub room : ℕ

-- The invariant of a sender: its identifiers in use are sound (2.3.1), its capacity is 1 to 65,535,
-- and no message has QoS 0 (4.3.1).
pub record Keeps (sender : Sending) : Type 0 where
  pub sound : IsSound sender.capacity sender.book
  pub able : 0 < sender.capacity
  pub most : sender.capacity ≤ 65535
  pub acknowledged : list_any (λ entry. same_qos Q0 entry.message.qos) sender.book.entries ≡ false

-- the numbers of a list are the identifiers of claims (2.3.1)
abbrev pub AreClaimed : List ℕ → List Claimed → Type 0
AreClaimed ids requests = (id : ℕ) → list_any (nat_eq id) ids ≡ nat_lt 0 (times id (map (λ request. request.id) requests))
