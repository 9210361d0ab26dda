-- The invariants of an end, after any list of packets and calls.
use Rattle.std.specs.Prelude.{ℕ, ◌≡◌, Bool, true, false, None, Some, List}
use Rattle.mq_packet.specs.declared.connect.Connect.{Connect}
use Rattle.mq_packet.specs.declared.message.Message.{Message}
use Rattle.mq_packet.specs.declared.packet.Packet.{Packet}
use Rattle.mq_packet.specs.declared.packet.Request.{Request}
use Rattle.mq_flow.specs.Sender.{IsFree, blank_book, no_claims}
use Rattle.mq_flow.specs.Receiver.{none_received}
use Rattle.mq_flow.specs.Window.{IsWithin}
use Rattle.mq_flow.specs.Laws.{IsSound, IsGiven}
use Rattle.mq_end.specs.declared.reason.CloseReason.{CloseReason}
use Rattle.mq_end.specs.declared.state.State.TheVariants.{Disconnected}
use Rattle.mq_end.specs.End.{End, drops, over, silent}
use Rattle.mq_end.specs.Both.{publishes, publish_refusal, has_identifier}
use Rattle.mq_end.specs.Client.{client_gets, client_gets_all, connects, subscribes, unsubscribes, subscribe_refusal, unsubscribe_refusal, leaves}
use Rattle.mq_end.specs.Server.{server_gets, server_gets_all, opens, level_refused}
use Rattle.mq_end.specs.KeepAlive.{server_ticks}

-- The identifier is free, if the message needs one (2.3.1).
abbrev pub MayHave : Bool → End → ℕ → Type 0
MayHave true end id = IsFree end.book id
MayHave false end id = Unit {0}

-- the identifiers in use at the end are sound (2.3.1)
abbrev pub IsSoundEnd : ℕ → End → Type 0
IsSoundEnd capacity end = IsSound capacity end.book

-- Whatever an end processes and whatever its user asks, its identifiers in use stay sound (2.3.1).
pub record SoundLaws : Type 0 where
  pub client : (capacity : ℕ) (packet : Packet) (end : End) → IsSoundEnd capacity end → IsSoundEnd capacity (client_gets packet end).end
  pub server : (capacity : ℕ) (packet : Packet) (end : End) → IsSoundEnd capacity end → IsSoundEnd capacity (server_gets packet end).end
  pub publish : (limit capacity id : ℕ) (message : Message) (end : End) → publish_refusal limit capacity message end ≡ None → MayHave (has_identifier message.qos) end id → IsSoundEnd capacity end
      → IsSoundEnd capacity (publishes id message end).end
  pub published : (limit capacity id : ℕ) (message : Message) (end : End) → publish_refusal limit capacity message end ≡ None → has_identifier message.qos ≡ true → IsFree end.book id
      → IsGiven capacity end.book (publishes id message end).end.book id
  pub subscribe : (limit capacity id : ℕ) (requests : List Request) (end : End) → subscribe_refusal limit capacity requests end ≡ None → IsFree end.book id → IsSoundEnd capacity end
      → IsSoundEnd capacity (subscribes id requests end).end
  pub unsubscribe : (limit capacity id : ℕ) (filters : List (List ℕ)) (end : End) → unsubscribe_refusal limit capacity filters end ≡ None → IsFree end.book id → IsSoundEnd capacity end
      → IsSoundEnd capacity (unsubscribes id filters end).end
  pub connect : (capacity : ℕ) (opening : Connect) (end : End) → IsSoundEnd capacity end → IsSoundEnd capacity (connects opening end).end
  pub opened : (capacity : ℕ) (end : End) → IsSoundEnd capacity end → IsSoundEnd capacity (opens end).end
  pub leave : (capacity : ℕ) (end : End) → IsSoundEnd capacity end → IsSoundEnd capacity (leaves end).end
  pub drop : (capacity : ℕ) (end : End) → IsSoundEnd capacity end → IsSoundEnd capacity (drops end).end

-- If a packet or call closes the connection, the session is unchanged, except that the identifiers
-- of SUBSCRIBE and UNSUBSCRIBE are free; after clean session 1 it ends (3.1.2.4).
pub record ClosingLaws : Type 0 where
  pub client : (packet : Packet) (end : End) (reason : CloseReason) → (client_gets packet end).close ≡ Some reason → (client_gets packet end).end ≡ over end
  pub server : (packet : Packet) (end : End) (reason : CloseReason) → (server_gets packet end).close ≡ Some reason → (server_gets packet end).end ≡ over end
  pub level : (end : End) → (level_refused end).end ≡ over end
  pub late : (last now : ℕ) (end : End) (reason : CloseReason) → (server_ticks last now end).close ≡ Some reason → (server_ticks last now end).end ≡ over end
  pub leave : (end : End) → (leaves end).end ≡ over end
  pub closed : (end : End) → (over end).state ≡ Disconnected
  pub keeps : (end : End) → end.clean ≡ false → ((over end).book ≡ no_claims end.book) × ((over end).received ≡ end.received) × ((over end).known ≡ end.known)
  pub discards : (end : End) → end.clean ≡ true → ((over end).book ≡ blank_book) × ((over end).received ≡ none_received) × ((over end).known ≡ false)
  -- a closed end takes nothing in
  pub client_ignores : (packets : List Packet) (end : End) → end.state ≡ Disconnected → client_gets_all packets end ≡ silent end
  pub server_ignores : (packets : List Packet) (end : End) → end.state ≡ Disconnected → server_gets_all packets end ≡ silent end

-- From one end to the next: the window is the same, and at most as many identifiers are stored as
-- it has or as were stored before.
abbrev pub KeepsWindow : End → End → Type 0
KeepsWindow before after = (after.window ≡ before.window) × IsWithin before.window before.received after.received

-- Whatever arrives and whatever its user asks, the receive window stays the same and bounds the
-- stored identifiers (4.3.3).
pub record WindowLaws : Type 0 where
  pub client : (packets : List Packet) (end : End) → KeepsWindow end (client_gets_all packets end).end
  pub server : (packets : List Packet) (end : End) → KeepsWindow end (server_gets_all packets end).end
  pub publish : (identifier : ℕ) (message : Message) (end : End) → KeepsWindow end (publishes identifier message end).end
  pub subscribe : (identifier : ℕ) (requests : List Request) (end : End) → KeepsWindow end (subscribes identifier requests end).end
  pub unsubscribe : (identifier : ℕ) (filters : List (List ℕ)) (end : End) → KeepsWindow end (unsubscribes identifier filters end).end
  pub connect : (packet : Connect) (end : End) → KeepsWindow end (connects packet end).end
  pub opened : (end : End) → KeepsWindow end (opens end).end
  pub late : (last now : ℕ) (end : End) → KeepsWindow end (server_ticks last now end).end
  pub leave : (end : End) → KeepsWindow end (leaves end).end
  pub drop : (end : End) → KeepsWindow end (drops end).end
  -- so it does over several of these
  pub again : (first second third : End) → KeepsWindow first second → KeepsWindow second third → KeepsWindow first third
