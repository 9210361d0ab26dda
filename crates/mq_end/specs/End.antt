-- An end of a connection, and its reply to a packet or call.
use Rattle.std.specs.Prelude.{ℕ, Bool, true, false, if◌then◌else◌, Option, Some, None, List, [], ◌∷◌, ◌++◌}
use Rattle.mq_packet.specs.declared.packet.Packet.{Packet}
use Rattle.mq_flow.specs.Sender.{SenderBook, blank_book, no_claims, all_sent, resent}
use Rattle.mq_flow.specs.Receiver.{ReceiverBook, none_received}
use Rattle.mq_end.specs.declared.state.State.{State}
use Rattle.mq_end.specs.declared.state.State.TheVariants.{Disconnected, Connecting, Connected}
use Rattle.mq_end.specs.declared.happening.Happening.{Happening}
use Rattle.mq_end.specs.declared.happening.Happening.TheVariants as happens
use Rattle.mq_end.specs.declared.reason.CloseReason.{CloseReason}

-- An end. Its session (3.1.2.4) consists of book, received, last and known.
-- book, received: unfinished messages that it sends and receives (4.1, 4.3).
-- last: the packet identifier assigned last, 0 if none was (2.3.1).
-- known: at the client, the session is established, that is, a CONNACK accepted it; at the server,
-- the client has a session.
-- clean: the CONNECT of the connection (at the server, the accepted one) has clean session 1, so
-- the session ends with the connection (3.1.2.4).
-- keep_alive: the keep-alive of that CONNECT in seconds, 0 without a connection (3.1.2.10).
-- window: the receive window, if any.
pub record End : Type 0 where
  pub book : SenderBook
  pub received : ReceiverBook
  pub last : ℕ
  pub state : State
  pub known : Bool
  pub clean : Bool
  pub keep_alive : ℕ
  pub window : Option ℕ

-- an end with this window, without a session (3.1.2.4) and without a connection
abbrev pub blank_end : Option ℕ → End
blank_end window = record { book = blank_book; received = none_received; last = 0; state = Disconnected; known = false; clean = false; keep_alive = 0; window = window }

-- An end with this window that continues a stored session (3.1.2.4), without identifiers of
-- SUBSCRIBE and UNSUBSCRIBE.
abbrev pub resumed : Option ℕ → Bool → SenderBook → ReceiverBook → ℕ → End
resumed window known book received last =
    record { book = no_claims book; received = received; last = last; state = Disconnected; known = known; clean = false; keep_alive = 0; window = window }

-- The reply to a packet or call: the end after it, the packets that it sends in order, the events
-- that it reports, the identifiers of acknowledged QoS 1 messages, and the reason if it closes.
pub record Reply : Type 0 where
  pub end : End
  pub out : List Packet
  pub happenings : List Happening
  pub freed : List ℕ
  pub close : Option CloseReason

-- the CONNECT of the connection is accepted (3.2)
abbrev pub is_up : State → Bool
is_up Disconnected = false
is_up Connecting = false
is_up Connected = true

-- there is a connection (4.2)
abbrev pub is_live : State → Bool
is_live Disconnected = false
is_live Connecting = true
is_live Connected = true

-- nothing comes of it but the end
abbrev pub silent : End → Reply
silent end = record { end = end; out = []; happenings = []; freed = []; close = None }

-- It sends packets.
abbrev pub sends_packets : List Packet → End → Reply
sends_packets packets end = record { end = end; out = packets; happenings = []; freed = []; close = None }

-- It reports an event.
abbrev pub reports_event : Happening → End → Reply
reports_event happening end = record { end = end; out = []; happenings = happening ∷ []; freed = []; close = None }

-- The connection is over. The identifiers of SUBSCRIBE and UNSUBSCRIBE are free; the rest of the
-- session stays, but one of a CONNECT with clean session 1 ends with its connection, however that
-- ends: the client then has a new session that was never established, the server has none
-- (3.1.2.4).
abbrev pub over : End → End
over end = record end {
  book = if end.clean then blank_book else no_claims end.book;
  received = if end.clean then none_received else end.received;
  last = if end.clean then 0 else end.last;
  state = Disconnected;
  known = if end.clean then false else end.known;
  clean = false;
  keep_alive = 0;
}

-- the end closes the connection (4.8), after these packets
abbrev pub closes_after : List Packet → CloseReason → End → Reply
closes_after packets reason end = record { end = over end; out = packets; happenings = []; freed = []; close = Some reason }

-- It closes the connection and sends nothing (4.8).
abbrev pub closes : CloseReason → End → Reply
closes reason end = closes_after [] reason end

-- A connection begins to which clean session applies or not: with 1 the session before is
-- discarded, with 0 it continues (3.1.2.4).
abbrev pub renewed : Bool → End → End
renewed clean end = record end {
  book = if clean then blank_book else end.book;
  received = if clean then none_received else end.received;
  last = if clean then 0 else end.last;
  known = if clean then false else end.known;
  clean = clean;
}

-- The end is connected: after these packets it retransmits all unacknowledged messages (4.4), and
-- sends those accepted since for the first time.
abbrev pub becomes_connected : List Packet → Bool → End → Reply
becomes_connected before session_present end = record {
  end = record end { state = Connected; known = true; book = all_sent end.book };
  out = before ++ resent end.book;
  happenings = happens.Up session_present ∷ [];
  freed = [];
  close = None;
}

-- the connection is lost (4.2)
abbrev pub drops : End → Reply
drops end = silent (over end)

-- ---- packets that come at once

-- the first of two reasons
abbrev pub first_reason : Option CloseReason → Option CloseReason → Option CloseReason
first_reason (Some reason) later = Some reason
first_reason None later = later

-- one reply after another
abbrev pub followed : Reply → Reply → Reply
followed first second = record {
  end = second.end;
  out = first.out ++ second.out;
  happenings = first.happenings ++ second.happenings;
  freed = first.freed ++ second.freed;
  close = first_reason first.close second.close;
}

-- packets arrive one after another (4.6) to an end that does this with each
abbrev pub one_by_one : (Packet → End → Reply) → List Packet → End → Reply
one_by_one does [] end = silent end
one_by_one does (packet ∷ rest) end = followed (does packet end) (one_by_one does rest (does packet end).end)
