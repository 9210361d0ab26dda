-- Bounds on the output, the held bytes and the stored identifiers that incoming bytes cause.
use Rattle.std.specs.Prelude.{◌≡◌, ℕ, ◌+◌, ◌*◌, ◌≤◌, Bool, true, false, if◌then◌else◌, List, [], ◌++◌, length, Option, All}
use Rattle.std.specs.FinSet as FinSet
use Rattle.mq_wire.specs.Bytes.{AreBytes}
use Rattle.mq_packet.specs.declared.packet.Packet.{Packet}
use Rattle.mq_packet.specs.Encoding.{fields, encodings}
use Rattle.mq_decode.specs.Grammar.{Reads, ReadsWithin}
use Rattle.mq_flow.specs.declared.entry.SenderEntry.{SenderEntry}
use Rattle.mq_flow.specs.Sender.{SenderBook, uses, publish_packet, resent}
use Rattle.mq_end.specs.declared.state.State.TheVariants.{Connecting}
use Rattle.mq_end.specs.declared.happening.Happening.{Happening}
use Rattle.mq_end.specs.declared.reason.CloseReason.{CloseReason}
use Rattle.mq_end.specs.End.{End, Reply}
use Rattle.mq_end.specs.Client.{client_gets}
use Rattle.mq_end.specs.Server.{server_gets}
use Rattle.mq_end.specs.State.{EndState}
use Rattle.mq_end.specs.Ready.{is_exactly_once}
use Rattle.mq_end.specs.Receiving.{ClientReceives, ServerReceives, ClientTakes, TakesOne}
use Rattle.mq_end.specs.Laws.{KeepsWindow}
use Rattle.mq_route.specs.Bounds.Costs.{has_up_event, book_for, sent_again, kept}
use Rattle.mq_route.specs.Bounds.Waiting.{WaitsThrough}

-- An end processes a packet by `gets`.
pub record PacketBounds (gets : Packet → End → Reply) : Type 0 where
  -- the output has at most as many bytes as the packet, without retransmissions when the end
  -- connects (4.4)
  pub answer : (lenient : Bool) (packet : Packet) (bytes : List ℕ) (end : End) → Reads lenient packet bytes
      → length (encodings (gets packet end).out) ≤ length bytes + length (sent_again (has_up_event (gets packet end).happenings) (book_for packet end.book))
  -- a PUBLISH of QoS 2 stores at most one identifier, any other packet none (4.3.3)
  pub stored : (packet : Packet) (end : End) → FinSet.len (gets packet end).end.received ≤ FinSet.len end.received + (if is_exactly_once packet then 1 else 0)
  -- the receive window stays the same, and at most that many identifiers are stored, or the number
  -- before the packet
  pub window : (packet : Packet) (end : End) → KeepsWindow end (gets packet end).end

-- The first packet of the held and the incoming bytes connects the end. The stored bytes grow by at
-- most the length of the piece and of the retransmissions from the book with which this packet
-- connects the end (4.4).
pub record Connects (piece : List ℕ) (old new : EndState) : Type 0 where
  pub first : Packet
  pub front : List ℕ
  pub rest : List ℕ
  pub parts : old.held ++ piece ≡ front ++ rest
  pub reads : ReadsWithin old.limit first front
  pub grows : kept new ≤ (kept old + length piece) + length (encodings (resent (book_for first old.end.book)))

-- A call of `receive` at an end with a connection, and its result.
pub record ReceiveCall (receives : List ℕ → EndState → EndState → List Happening → List ℕ → Option CloseReason → Type 0) : Type 0 where
  pub piece : List ℕ
  pub old : EndState
  pub new : EndState
  pub happenings : List Happening
  pub acknowledged : List ℕ
  pub closed : Option CloseReason
  pub received : receives piece old new happenings acknowledged closed

-- `receives` is the contract of `receive`; `refusal` is the maximum length of the answer to a
-- refused first packet.
pub record ReceiveBounds (refusal : ℕ) (receives : List ℕ → EndState → EndState → List Happening → List ℕ → Option CloseReason → Type 0) : Type 0 where
  -- if the end does not connect, its stored bytes grow by at most the length of the piece
  pub grows : (call : ReceiveCall receives) → has_up_event call.happenings ≡ false → kept call.new ≤ kept call.old + length call.piece
  -- if the end connects, they grow by at most that and the PUBRELs and PUBLISHes that are sent
  -- again (4.4)
  pub comes_up : (call : ReceiveCall receives) → has_up_event call.happenings ≡ true → Connects call.piece call.old call.new
  -- only an end that waits for the first packet connects (3.1, 3.2)
  pub once : (call : ReceiveCall receives) → has_up_event call.happenings ≡ true → call.old.end.state ≡ Connecting
  -- an end that still waits has sent nothing
  pub waits : (call : ReceiveCall receives) → call.new.end.state ≡ Connecting
      → (call.old.end.state ≡ Connecting) × (call.new.output ≡ call.old.output)
  -- if a waiting end does not connect, it sends at most its refusal
  pub refuses : (call : ReceiveCall receives) → call.old.end.state ≡ Connecting → has_up_event call.happenings ≡ false
      → length call.new.output ≤ length call.old.output + refusal
  -- the held bytes are bytes if the incoming ones are, and at most five more than the maximum
  -- remaining length (2.2.3)
  pub held : (call : ReceiveCall receives) → AreBytes call.old.held → AreBytes call.piece
      → AreBytes call.new.held × (length call.new.held ≤ 5 + call.old.limit.most)
  -- each stored identifier took at least seven bytes (4.3.3)
  pub stored : (call : ReceiveCall receives)
      → 7 * FinSet.len call.new.end.received ≤ 7 * FinSet.len call.old.end.received + (length call.old.held + length call.piece)
  -- after any number of pieces, an end that has not connected holds at most five bytes and the
  -- maximum remaining length, and owes at most its refusal
  pub stranger : (pieces : List (List ℕ)) (old new : EndState) → old.end.state ≡ Connecting → old.output ≡ [] → old.held ≡ []
      → WaitsThrough receives pieces old new → (length new.held ≤ 5 + old.limit.most) × (length new.output ≤ refusal)

-- A packet is processed by itself, and an allocation for it may fail.
pub record TakeBounds (takes : ℕ → Packet → EndState → EndState → List Happening → List ℕ → Option CloseReason → Type 0) : Type 0 where
  pub grows : (now : ℕ) (lenient : Bool) (packet : Packet) (bytes : List ℕ) (old new : EndState) (happenings : List Happening) (acknowledged : List ℕ) (closed : Option CloseReason)
      → takes now packet old new happenings acknowledged closed → Reads lenient packet bytes → kept new ≤ (kept old + length bytes) + length (sent_again (has_up_event happenings) (book_for packet old.end.book))

pub record BoundsLaws : Type 0 where
  pub client_packet : PacketBounds client_gets
  pub server_packet : PacketBounds server_gets
  -- a client refuses without an answer, a server by CONNACK (3.2)
  pub client : ReceiveBounds 0 ClientReceives
  pub server : ReceiveBounds 4 ServerReceives
  pub client_takes : TakeBounds ClientTakes
  pub server_takes : TakeBounds TakesOne
  -- at most one packet for each identifier in use is sent again, each within the limit
  pub again : (limit : ℕ) (book : SenderBook) → All (λ (entry : SenderEntry). length (fields (publish_packet entry.id entry.sent entry.message)) ≤ limit) book.entries
      → length (encodings (resent book)) ≤ length (uses book) * (5 + limit)
