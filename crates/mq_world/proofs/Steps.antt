-- Each move keeps the invariant between two sides.
use Rattle.std.proofs.Common.{◌≡◌, ℕ, ◌+◌, Bool, true, false, cond, not, ◌&&◌, Some, None, List, [], ◌∷◌, ◌++◌, length, refl, sym, subst, ◌∙◌, arith}
use Rattle.std.proofs.Common.{append-nil}
use Rattle.std.proofs.lemmas.Bool.{cond_both}
use Rattle.mq_topic.specs.declared.qos.Qos.{Qos}
use Rattle.mq_topic.specs.declared.qos.Qos.TheVariants.{Q0, Q1, Q2}
use Rattle.mq_packet.specs.declared.message.Message.{Message}
use Rattle.mq_packet.specs.declared.connect.Connect.{Connect}
use Rattle.mq_packet.specs.declared.connack.ConnAck.{ConnAck}
use Rattle.mq_packet.specs.declared.connack.ConnAck.TheVariants as connacks
use Rattle.mq_packet.specs.declared.packet.Packet.{Packet}
use Rattle.mq_packet.specs.declared.packet.Packet.TheVariants as packets
use Rattle.mq_flow.specs.declared.entry.SenderEntry.{SenderEntry}
use Rattle.mq_flow.specs.Sender.{SenderBook, times, held, IsFree, accept, release, without_claim, awaits_suback, awaits_unsuback}
use Rattle.mq_flow.specs.Laws.{IsSound}
use Rattle.mq_flow.proofs.Books.{laws as books, times_uses}
use Rattle.mq_end.specs.declared.state.State.{State}
use Rattle.mq_end.specs.declared.state.State.TheVariants.{Disconnected, Connecting, Connected}
use Rattle.mq_end.specs.declared.happening.Happening.TheVariants as happens
use Rattle.mq_end.specs.declared.reason.CloseReason.TheVariants as reasons
use Rattle.mq_end.specs.declared.refusal.PublishRefusal.TheVariants as refusals
use Rattle.mq_end.specs.End.{End, is_up, reports_event, closes, becomes_connected}
use Rattle.mq_end.specs.Both.{has_identifier, publish_refusal}
use Rattle.mq_end.specs.Client.{connack_gets, client_open_gets, client_up_gets, client_gets_in, connects}
use Rattle.mq_end.specs.Server.{connect_gets, server_open_gets, server_up_gets, server_gets_in}
use Rattle.mq_end.specs.Laws.{MayHave}
use Rattle.mq_end.proofs.Soundness.{laws as sound}
use Rattle.mq_world.specs.declared.side.Side.{Side}
use Rattle.mq_world.specs.declared.side.Side.TheVariants.{Client, Server}
use Rattle.mq_world.specs.Half.{Half, Action, Publishes, Arrives, Drops, Leaves, Pings, joined, put, arrival, publication, accepted_with, refusal, May, moved}
use Rattle.mq_world.specs.Machine.{first_packet, opened_client, opened_server}
use Rattle.mq_world.proofs.Stages.{When}
use Rattle.mq_world.proofs.Stages as stages
use Rattle.mq_world.proofs.Lists.{Each, each_append, ids, held_append, times_held}
use Rattle.mq_world.proofs.Second.{Second}
use Rattle.mq_world.proofs.Second as second
use Rattle.mq_world.proofs.First.{First, Zeroth, zeroth_lost, zeroth_accepts}
use Rattle.mq_world.proofs.First as first
use Rattle.mq_world.proofs.Queues.{answers, flight, no_answers, no_flight, same_answers, same_flight, zeroth_joins, first_joins, second_joins}
use Rattle.mq_world.proofs.Queues.{packet_0, packet_1, packet_2}
use Rattle.mq_world.proofs.Both.{IsPlain, IsSent, IsHeld, OwnOf, Both, finish, upon, close_keeps, up_keeps, calm_keeps}
use Rattle.mq_world.proofs.Flows.{Keeps, flow_keeps}

-- ---- the client takes a packet in

connack_keeps : (capacity : ℕ) (h y : Half) (a : ConnAck) (rest : List Packet) → Both capacity (upon h Connecting (packets.ConnAck a ∷ rest)) y
    → Keeps capacity (upon h Connecting (packets.ConnAck a ∷ rest)) rest y (connack_gets a (upon h Connecting rest).end)
connack_keeps capacity h y (connacks.Refused code) rest b =
    close_keeps capacity h y Connecting (packets.ConnAck (connacks.Refused code) ∷ rest) rest [] None refl refl tt b
connack_keeps capacity h y (connacks.Accepted present) rest b =
    cond_both (h.end.known && not present) (closes reasons.SessionLost (upon h Connecting rest).end) (becomes_connected [] present (upon h Connecting rest).end)
    (Keeps capacity (upon h Connecting (packets.ConnAck (connacks.Accepted present) ∷ rest)) rest y)
    (λ t. close_keeps capacity h y Connecting (packets.ConnAck (connacks.Accepted present) ∷ rest) rest [] None refl refl tt b)
    (λ f. up_keeps capacity h y (packets.ConnAck (connacks.Accepted present)) rest [] h.end.keep_alive refl refl tt refl refl b)

client_open_keeps : (capacity : ℕ) (h y : Half) (p : Packet) (rest : List Packet) → Both capacity (upon h Connecting (p ∷ rest)) y
    → Keeps capacity (upon h Connecting (p ∷ rest)) rest y (client_open_gets p (upon h Connecting rest).end)
client_open_keeps capacity h y (packets.ConnAck a) rest b = connack_keeps capacity h y a rest b
client_open_keeps capacity h y p rest b = close_keeps capacity h y Connecting (p ∷ rest) rest [] None refl refl tt b

client_up_keeps : (capacity : ℕ) (h y : Half) (p : Packet) (rest : List Packet) → Both capacity (upon h Connected (p ∷ rest)) y
    → Keeps capacity (upon h Connected (p ∷ rest)) rest y (client_up_gets p (upon h Connected rest).end)
client_up_keeps capacity h y (packets.SubAck i codes) rest b =
    cond_both (awaits_suback i (length codes) h.end.book)
    (reports_event (happens.SubAck i codes) (record (upon h Connected rest).end { book = release i h.end.book }))
    (closes reasons.Unexpected (upon h Connected rest).end) (Keeps capacity (upon h Connected (packets.SubAck i codes ∷ rest)) rest y)
    (λ t. calm_keeps capacity h y Connected (packets.SubAck i codes) rest [] (without_claim i h.end.book.claimed) refl refl tt refl refl
    (books.releases capacity i h.end.book b.own_x.0) b)
    (λ f. close_keeps capacity h y Connected (packets.SubAck i codes ∷ rest) rest [] None refl refl tt b)
client_up_keeps capacity h y (packets.UnsubAck i) rest b =
    cond_both (awaits_unsuback i h.end.book) (reports_event (happens.UnsubAck i) (record (upon h Connected rest).end { book = release i h.end.book }))
    (closes reasons.Unexpected (upon h Connected rest).end) (Keeps capacity (upon h Connected (packets.UnsubAck i ∷ rest)) rest y)
    (λ t. calm_keeps capacity h y Connected (packets.UnsubAck i) rest [] (without_claim i h.end.book.claimed) refl refl tt refl refl
    (books.releases capacity i h.end.book b.own_x.0) b)
    (λ f. close_keeps capacity h y Connected (packets.UnsubAck i ∷ rest) rest [] None refl refl tt b)
client_up_keeps capacity h y packets.PingResp rest b = calm_keeps capacity h y Connected packets.PingResp rest [] h.end.book.claimed refl refl tt refl refl b.own_x.0 b
client_up_keeps capacity h y p rest b = flow_keeps capacity h y p rest b

-- a closed side takes nothing in
closed_keeps : (capacity : ℕ) (h y : Half) (q : List Packet) → Both capacity (upon h Disconnected q) y → Both capacity (upon h Disconnected []) (put [] y)
closed_keeps capacity h y q b =
    finish capacity (upon h Disconnected q) y (upon h Disconnected []) [] (answers y.coming) (flight y.coming) (same_answers y.end.state y.coming [] refl)
    (same_flight y.end.state y.coming [] refl)
    (second.sender_drops b.to_y.0, first.sender_drops b.to_y.1, b.to_y.2)
    (second.receiver_drops b.to_x.0, first.receiver_drops b.to_x.1, zeroth_lost _ _ _ b.to_x.2)
    b.own_x
    refl
    tt
    tt
    b

client_keeps : (capacity : ℕ) (h y : Half) (st : State) (p : Packet) (rest : List Packet) → Both capacity (upon h st (p ∷ rest)) y
    → Keeps capacity (upon h st (p ∷ rest)) rest y (client_gets_in st p (upon h st rest).end)
client_keeps capacity h y Disconnected p rest b = closed_keeps capacity h y (p ∷ rest) b
client_keeps capacity h y Connecting p rest b = client_open_keeps capacity h y p rest b
client_keeps capacity h y Connected p rest b = client_up_keeps capacity h y p rest b

-- ---- the server takes a packet in

connect_keeps : (capacity : ℕ) (h y : Half) (c : Connect) (rest : List Packet) → Both capacity (upon h Connecting (packets.Connect c ∷ rest)) y
    → Keeps capacity (upon h Connecting (packets.Connect c ∷ rest)) rest y (connect_gets c (upon h Connecting rest).end)
connect_keeps capacity h y c rest b =
    let P : Connect → Type 0 =
    λ c. Both capacity (upon h Connecting (packets.Connect c ∷ rest)) y
    → Keeps capacity (upon h Connecting (packets.Connect c ∷ rest)) rest y (connect_gets c (upon h Connecting rest).end) in
    subst P (sym b.queue_x.0) (λ b. up_keeps capacity h y (packets.Connect first_packet) rest
    (packets.ConnAck (connacks.Accepted h.end.known) ∷ []) 60 refl refl (tt, tt) refl refl b) b

server_open_keeps : (capacity : ℕ) (h y : Half) (p : Packet) (rest : List Packet) → Both capacity (upon h Connecting (p ∷ rest)) y
    → Keeps capacity (upon h Connecting (p ∷ rest)) rest y (server_open_gets p (upon h Connecting rest).end)
server_open_keeps capacity h y (packets.Connect c) rest b = connect_keeps capacity h y c rest b
server_open_keeps capacity h y p rest b = close_keeps capacity h y Connecting (p ∷ rest) rest [] None refl refl tt b

server_up_keeps : (capacity : ℕ) (h y : Half) (p : Packet) (rest : List Packet) → Both capacity (upon h Connected (p ∷ rest)) y
    → Keeps capacity (upon h Connected (p ∷ rest)) rest y (server_up_gets p (upon h Connected rest).end)
server_up_keeps capacity h y (packets.Subscribe i requests) rest b =
    calm_keeps capacity h y Connected (packets.Subscribe i requests) rest [] h.end.book.claimed refl refl tt refl refl b.own_x.0 b
server_up_keeps capacity h y (packets.Unsubscribe i filters) rest b =
    calm_keeps capacity h y Connected (packets.Unsubscribe i filters) rest [] h.end.book.claimed refl refl tt refl refl b.own_x.0 b
server_up_keeps capacity h y packets.PingReq rest b =
    calm_keeps capacity h y Connected packets.PingReq rest (packets.PingResp ∷ []) h.end.book.claimed refl refl (tt, tt) refl refl b.own_x.0 b
server_up_keeps capacity h y packets.Disconnect rest b = close_keeps capacity h y Connected (packets.Disconnect ∷ rest) rest [] None refl refl tt b
server_up_keeps capacity h y p rest b = flow_keeps capacity h y p rest b

server_keeps : (capacity : ℕ) (h y : Half) (st : State) (p : Packet) (rest : List Packet) → Both capacity (upon h st (p ∷ rest)) y
    → Keeps capacity (upon h st (p ∷ rest)) rest y (server_gets_in st p (upon h st rest).end)
server_keeps capacity h y Disconnected p rest b = closed_keeps capacity h y (p ∷ rest) b
server_keeps capacity h y Connecting p rest b = server_open_keeps capacity h y p rest b
server_keeps capacity h y Connected p rest b = server_up_keeps capacity h y p rest b

-- Nothing arrives and nothing is sent.
pub still_keeps : (capacity : ℕ) (x y : Half) (ps : List Packet) → answers ps ≡ no_answers → flight ps ≡ no_flight → Each IsPlain ps
    → Both capacity x y → Both capacity x (put ps y)
still_keeps capacity x y ps no_an no_fl plain b =
    finish capacity x y x ps (answers y.coming) (flight y.coming) (same_answers y.end.state y.coming ps no_an)
    (same_flight y.end.state y.coming ps no_fl) b.to_y b.to_x b.own_x b.kept_x b.queue_x plain b

arrival_keeps : (capacity : ℕ) (side : Side) (h y : Half) (st : State) (q : List Packet) → Both capacity (upon h st q) y
    → Both capacity (arrival q side (upon h st q)).half (put (arrival q side (upon h st q)).out y)
arrival_keeps capacity side h y st [] b = still_keeps capacity (upon h st []) y [] refl refl tt b
arrival_keeps capacity Client h y st (p ∷ rest) b = client_keeps capacity h y st p rest b
arrival_keeps capacity Server h y st (p ∷ rest) b = server_keeps capacity h y st p rest b

-- ---- a message is accepted

published_0 : (capacity : ℕ) (h y : Half) (st : State) (q : List Packet) (i : ℕ) (m : Message) → Both capacity (upon h st q) y
    → Both capacity (publication i (record m { qos = Q0 }) (upon h st q)).half (put (publication i (record m { qos = Q0 }) (upon h st q)).out y)
published_0 capacity h y st q i m b =
    finish capacity (upon h st q) y (publication i (record m { qos = Q0 }) (upon h st q)).half (packet_0 m ∷ []) (answers y.coming)
    (record {
      publishes_2 = (flight y.coming).publishes_2;
      publishes_1 = (flight y.coming).publishes_1;
      pubrels = (flight y.coming).pubrels;
      messages_0 = joined y.end.state (flight y.coming).messages_0 (record m { qos = Q0 } ∷ []);
    })
    (same_answers y.end.state y.coming (packet_0 m ∷ []) refl) (zeroth_joins y.end.state y.coming m)
    (b.to_y.0, b.to_y.1, zeroth_accepts y.end.state _ _ _ (record m { qos = Q0 }) b.to_y.2)
    b.to_x
    b.own_x
    refl
    b.queue_x
    (tt, tt)
    b

-- The stored messages with one more.
held_1 : (es : List SenderEntry) (i : ℕ) (m : Message) (sent : Bool)
    → held Q1 (es ++ record { id = i; message = record m { qos = Q1 }; sent = sent } ∷ []) ≡ held Q1 es ++ (i, record m { qos = Q1 }) ∷ []
held_1 es i m sent = held_append Q1 es (record { id = i; message = record m { qos = Q1 }; sent = sent } ∷ [])

held_1_other : (es : List SenderEntry) (i : ℕ) (m : Message) (sent : Bool)
    → held Q2 (es ++ record { id = i; message = record m { qos = Q1 }; sent = sent } ∷ []) ≡ held Q2 es
held_1_other es i m sent = held_append Q2 es (record { id = i; message = record m { qos = Q1 }; sent = sent } ∷ []) ∙ append-nil (held Q2 es)

held_2 : (es : List SenderEntry) (i : ℕ) (m : Message) (sent : Bool)
    → held Q2 (es ++ record { id = i; message = record m { qos = Q2 }; sent = sent } ∷ []) ≡ held Q2 es ++ (i, record m { qos = Q2 }) ∷ []
held_2 es i m sent = held_append Q2 es (record { id = i; message = record m { qos = Q2 }; sent = sent } ∷ [])

held_2_other : (es : List SenderEntry) (i : ℕ) (m : Message) (sent : Bool)
    → held Q1 (es ++ record { id = i; message = record m { qos = Q2 }; sent = sent } ∷ []) ≡ held Q1 es
held_2_other es i m sent = held_append Q1 es (record { id = i; message = record m { qos = Q2 }; sent = sent } ∷ []) ∙ append-nil (held Q1 es)

-- a message of quality of service 1 or 2 is in the book, unsent
unsent_own : (capacity : ℕ) (st : State) (b : SenderBook) (e : SenderEntry) → is_up st ≡ false → IsHeld e → OwnOf capacity st b
    → IsSound capacity (record b { entries = b.entries ++ e ∷ [] }) → OwnOf capacity st (record b { entries = b.entries ++ e ∷ [] })
unsent_own capacity st b e down is_held own s =
    (s, subst (λ (t : Bool). When t (Each IsSent (b.entries ++ e ∷ []))) (sym down) tt, each_append IsHeld b.entries (e ∷ []) own.2 (is_held, tt))

sent_own : (capacity : ℕ) (b : SenderBook) (e : SenderEntry) → IsSent e → IsHeld e → OwnOf capacity Connected b
    → IsSound capacity (record b { entries = b.entries ++ e ∷ [] }) → OwnOf capacity Connected (record b { entries = b.entries ++ e ∷ [] })
sent_own capacity b e is_sent is_held own s =
    (s, each_append IsSent b.entries (e ∷ []) own.1 (is_sent, tt), each_append IsHeld b.entries (e ∷ []) own.2 (is_held, tt))

down_1 : (capacity : ℕ) (h y : Half) (st : State) (q : List Packet) (i : ℕ) (m : Message) → is_up st ≡ false
    → IsSound capacity (accept i (record m { qos = Q1 }) false h.end.book) → Both capacity (upon h st q) y
    → Both capacity (record (upon h st q) {
      end = record (upon h st q).end { book = accept i (record m { qos = Q1 }) false h.end.book; last = i };
      accepted = accepted_with Q1 i (record m { qos = Q1 }) h.accepted;
    }) (put [] y)
down_1 capacity h y st q i m down s b =
    finish capacity (upon h st q) y
    (record (upon h st q) {
      end = record (upon h st q).end { book = accept i (record m { qos = Q1 }) false h.end.book; last = i };
      accepted = accepted_with Q1 i (record m { qos = Q1 }) h.accepted;
    }) []
    (answers y.coming) (flight y.coming) (same_answers y.end.state y.coming [] refl) (same_flight y.end.state y.coming [] refl) (
      subst (λ (entries_now : List (ℕ × Message)). Second st y.end.state entries_now h.end.book.released y.end.received (answers q).pubrecs
          (answers q).pubcomps (flight y.coming).publishes_2 (flight y.coming).pubrels h.accepted.exactly_once y.handed.exactly_once) (sym
          (held_1_other h.end.book.entries i m false)) b.to_y.0,
      subst (λ (entries_now : List (ℕ × Message)). First st y.end.state entries_now (answers q).pubacks (flight y.coming).publishes_1
          (h.accepted.at_least_once ++ (i, record m { qos = Q1 }) ∷ []) y.handed.at_least_once h.freed) (sym (held_1 h.end.book.entries i m false))
          (first.accepts i (record m { qos = Q1 }) (flight y.coming).publishes_1 b.to_y.1
          (stages.accepted_down _ _ _ _ _ _ _ (i, record m { qos = Q1 }) down b.to_y.1.entry_stages)),
      b.to_y.2,
    )
    b.to_x
    (unsent_own capacity st h.end.book (record { id = i; message = record m { qos = Q1 }; sent = false }) down refl b.own_x s)
    refl
    b.queue_x
    tt
    b

up_1 : (capacity : ℕ) (h y : Half) (q : List Packet) (i : ℕ) (m : Message) → IsSound capacity (accept i (record m { qos = Q1 }) true h.end.book)
    → Both capacity (upon h Connected q) y
    → Both capacity (record (upon h Connected q) {
      end = record (upon h Connected q).end { book = accept i (record m { qos = Q1 }) true h.end.book; last = i };
      accepted = accepted_with Q1 i (record m { qos = Q1 }) h.accepted;
    }) (put (packet_1 i m ∷ []) y)
up_1 capacity h y q i m s b =
    finish capacity (upon h Connected q) y
    (record (upon h Connected q) {
      end = record (upon h Connected q).end { book = accept i (record m { qos = Q1 }) true h.end.book; last = i };
      accepted = accepted_with Q1 i (record m { qos = Q1 }) h.accepted;
    }) (packet_1 i m ∷ [])
    (answers y.coming) (record {
      publishes_2 = (flight y.coming).publishes_2;
      publishes_1 = joined y.end.state (flight y.coming).publishes_1 ((i, record m { qos = Q1 }) ∷ []);
      pubrels = (flight y.coming).pubrels;
      messages_0 = (flight y.coming).messages_0;
    })
    (same_answers y.end.state y.coming (packet_1 i m ∷ []) refl) (first_joins y.end.state y.coming i m) (
      subst (λ (entries_now : List (ℕ × Message)). Second Connected y.end.state entries_now h.end.book.released y.end.received (answers q).pubrecs
          (answers q).pubcomps (flight y.coming).publishes_2 (flight y.coming).pubrels h.accepted.exactly_once y.handed.exactly_once) (sym
          (held_1_other h.end.book.entries i m true)) b.to_y.0,
      subst (λ (entries_now : List (ℕ × Message)). First Connected y.end.state entries_now (answers q).pubacks
          (joined y.end.state (flight y.coming).publishes_1 ((i, record m { qos = Q1 }) ∷ []))
          (h.accepted.at_least_once ++ (i, record m { qos = Q1 }) ∷ []) y.handed.at_least_once h.freed) (sym (held_1 h.end.book.entries i m true))
          (first.accepts i (record m { qos = Q1 }) (joined y.end.state (flight y.coming).publishes_1 ((i, record m { qos = Q1 }) ∷ [])) b.to_y.1
          (stages.accepted_up _ _ _ _ _ _ (i, record m { qos = Q1 }) b.to_y.1.entry_stages)),
      b.to_y.2,
    )
    b.to_x
    (sent_own capacity h.end.book (record { id = i; message = record m { qos = Q1 }; sent = true }) refl refl b.own_x s)
    refl
    b.queue_x
    (tt, tt)
    b

fresh_2 : (b : SenderBook) (i : ℕ) → IsFree b i → times i (ids (held Q2 b.entries)) + times i b.released ≡ 0
fresh_2 b i free = let z = free.1 in let e = times_uses i b in let f = times_held i b.entries in omega arith

down_2 : (capacity : ℕ) (h y : Half) (st : State) (q : List Packet) (i : ℕ) (m : Message) → is_up st ≡ false → IsFree h.end.book i
    → IsSound capacity (accept i (record m { qos = Q2 }) false h.end.book) → Both capacity (upon h st q) y
    → Both capacity (record (upon h st q) {
      end = record (upon h st q).end { book = accept i (record m { qos = Q2 }) false h.end.book; last = i };
      accepted = accepted_with Q2 i (record m { qos = Q2 }) h.accepted;
    }) (put [] y)
down_2 capacity h y st q i m down free s b =
    finish capacity (upon h st q) y
    (record (upon h st q) {
      end = record (upon h st q).end { book = accept i (record m { qos = Q2 }) false h.end.book; last = i };
      accepted = accepted_with Q2 i (record m { qos = Q2 }) h.accepted;
    }) []
    (answers y.coming) (flight y.coming) (same_answers y.end.state y.coming [] refl) (same_flight y.end.state y.coming [] refl) (
      subst (λ (entries_now : List (ℕ × Message)). Second st y.end.state entries_now h.end.book.released y.end.received (answers q).pubrecs
          (answers q).pubcomps (flight y.coming).publishes_2 (flight y.coming).pubrels
          (h.accepted.exactly_once ++ record m { qos = Q2 } ∷ []) y.handed.exactly_once) (sym (held_2 h.end.book.entries i m false))
          (second.accepts i (record m { qos = Q2 }) (flight y.coming).publishes_2 b.to_y.0 (fresh_2 h.end.book i free)
          (stages.accepted_down _ _ _ _ _ _ _ (i, record m { qos = Q2 }) down b.to_y.0.entry_stages)),
      subst (λ (entries_now : List (ℕ × Message)). First st y.end.state entries_now (answers q).pubacks
          (flight y.coming).publishes_1 h.accepted.at_least_once y.handed.at_least_once h.freed) (sym (held_2_other h.end.book.entries i m false)) b.to_y.1,
      b.to_y.2,
    )
    b.to_x
    (unsent_own capacity st h.end.book (record { id = i; message = record m { qos = Q2 }; sent = false }) down refl b.own_x s)
    refl
    b.queue_x
    tt
    b

up_2 : (capacity : ℕ) (h y : Half) (q : List Packet) (i : ℕ) (m : Message) → IsFree h.end.book i
    → IsSound capacity (accept i (record m { qos = Q2 }) true h.end.book) → Both capacity (upon h Connected q) y
    → Both capacity (record (upon h Connected q) {
      end = record (upon h Connected q).end { book = accept i (record m { qos = Q2 }) true h.end.book; last = i };
      accepted = accepted_with Q2 i (record m { qos = Q2 }) h.accepted;
    }) (put (packet_2 i m ∷ []) y)
up_2 capacity h y q i m free s b =
    finish capacity (upon h Connected q) y
    (record (upon h Connected q) {
      end = record (upon h Connected q).end { book = accept i (record m { qos = Q2 }) true h.end.book; last = i };
      accepted = accepted_with Q2 i (record m { qos = Q2 }) h.accepted;
    }) (packet_2 i m ∷ [])
    (answers y.coming) (record {
      publishes_2 = joined y.end.state (flight y.coming).publishes_2 ((i, record m { qos = Q2 }) ∷ []);
      publishes_1 = (flight y.coming).publishes_1;
      pubrels = (flight y.coming).pubrels;
      messages_0 = (flight y.coming).messages_0;
    })
    (same_answers y.end.state y.coming (packet_2 i m ∷ []) refl) (second_joins y.end.state y.coming i m) (
      subst (λ (entries_now : List (ℕ × Message)). Second Connected y.end.state entries_now h.end.book.released y.end.received (answers q).pubrecs
          (answers q).pubcomps (joined y.end.state (flight y.coming).publishes_2 ((i, record m { qos = Q2 }) ∷ [])) (flight y.coming).pubrels
          (h.accepted.exactly_once ++ record m { qos = Q2 } ∷ []) y.handed.exactly_once) (sym (held_2 h.end.book.entries i m true))
          (second.accepts i (record m { qos = Q2 }) (joined y.end.state (flight y.coming).publishes_2 ((i, record m { qos = Q2 }) ∷ [])) b.to_y.0
          (fresh_2 h.end.book i free) (stages.accepted_up _ _ _ _ _ _ (i, record m { qos = Q2 }) b.to_y.0.entry_stages)),
      subst (λ (entries_now : List (ℕ × Message)). First Connected y.end.state entries_now (answers q).pubacks
          (flight y.coming).publishes_1 h.accepted.at_least_once y.handed.at_least_once h.freed) (sym (held_2_other h.end.book.entries i m true)) b.to_y.1,
      b.to_y.2,
    )
    b.to_x
    (sent_own capacity h.end.book (record { id = i; message = record m { qos = Q2 }; sent = true }) refl refl b.own_x s)
    refl
    b.queue_x
    (tt, tt)
    b

published_keeps : (limit capacity : ℕ) (h y : Half) (st : State) (q : List Packet) (i : ℕ) (qos : Qos) (m : Message)
    → publish_refusal limit capacity (record m { qos = qos }) (upon h st q).end ≡ None → MayHave (has_identifier qos) (upon h st q).end i
    → Both capacity (upon h st q) y
    → Both capacity (publication i (record m { qos = qos }) (upon h st q)).half (put (publication i (record m { qos = qos }) (upon h st q)).out y)
published_keeps limit capacity h y st q i Q0 m r free b = published_0 capacity h y st q i m b
published_keeps limit capacity h y Disconnected q i Q1 m r free b =
    down_1 capacity h y Disconnected q i m refl (sound.publish limit capacity i (record m { qos = Q1 }) (upon h Disconnected q).end r free b.own_x.0) b
published_keeps limit capacity h y Connecting q i Q1 m r free b =
    down_1 capacity h y Connecting q i m refl (sound.publish limit capacity i (record m { qos = Q1 }) (upon h Connecting q).end r free b.own_x.0) b
published_keeps limit capacity h y Connected q i Q1 m r free b =
    up_1 capacity h y q i m (sound.publish limit capacity i (record m { qos = Q1 }) (upon h Connected q).end r free b.own_x.0) b
published_keeps limit capacity h y Disconnected q i Q2 m r free b =
    down_2 capacity h y Disconnected q i m refl free (sound.publish limit capacity i (record m { qos = Q2 }) (upon h Disconnected q).end r free b.own_x.0) b
published_keeps limit capacity h y Connecting q i Q2 m r free b =
    down_2 capacity h y Connecting q i m refl free (sound.publish limit capacity i (record m { qos = Q2 }) (upon h Connecting q).end r free b.own_x.0) b
published_keeps limit capacity h y Connected q i Q2 m r free b =
    up_2 capacity h y q i m free (sound.publish limit capacity i (record m { qos = Q2 }) (upon h Connected q).end r free b.own_x.0) b

pub not_refused : (limit capacity : ℕ) (side : Side) (m : Message) (e : End) → refusal side limit capacity m e ≡ None
    → publish_refusal limit capacity m e ≡ None
not_refused limit capacity Client m e r = r
not_refused limit capacity Server m e r = with_session e.known r
  where
    with_session : (t : Bool) → cond t (publish_refusal limit capacity m e) (Some refusals.NoSession) ≡ None → publish_refusal limit capacity m e ≡ None
    with_session true r = r
    with_session false r = cc

-- ---- any move of one side

move_keeps : (limit capacity : ℕ) (side : Side) (action : Action) (h y : Half) (st : State) (q : List Packet)
    → May limit capacity side action (upon h st q) → Both capacity (upon h st q) y
    → Both capacity (moved side action (upon h st q)).half (put (moved side action (upon h st q)).out y)
move_keeps limit capacity side (Publishes i m) h y st q may b =
    published_keeps limit capacity h y st q i m.qos m (not_refused limit capacity side m (upon h st q).end may.0) may.1 b
move_keeps limit capacity side Arrives h y st q may b = arrival_keeps capacity side h y st q b
move_keeps limit capacity side Drops h y st q may b = close_keeps capacity h y st q [] [] None refl refl tt b
move_keeps limit capacity side Leaves h y st q may b = close_keeps capacity h y st q [] (packets.Disconnect ∷ []) None refl refl (tt, tt) b
move_keeps limit capacity side Pings h y st q may b = still_keeps capacity (upon h st q) y (packets.PingReq ∷ []) refl refl (tt, tt) b

pub moved_keeps : (limit capacity : ℕ) (side : Side) (action : Action) (x y : Half) → May limit capacity side action x → Both capacity x y
    → Both capacity (moved side action x).half (put (moved side action x).out y)
moved_keeps limit capacity side action x y may b =
    let P : Bool → Type 0 =
    λ c. May limit capacity side action (record x { end = record x.end { clean = c } }) → Both capacity (record x { end = record x.end { clean = c } }) y
    → Both capacity (moved side action (record x { end = record x.end { clean = c } })).half
    (put (moved side action (record x { end = record x.end { clean = c } })).out y) in
    subst P (sym b.kept_x) (move_keeps limit capacity side action x y x.end.state x.coming) may b

-- ---- a new connection

opens_keep : (capacity : ℕ) (h g : Half) (st rt : State) (q r : List Packet) → Both capacity (upon h st q) (upon g rt r)
    → Both capacity (opened_client (upon h st q)) (opened_server (connects first_packet (upon h st q).end).out (upon g rt r))
opens_keep capacity h g st rt q r b = record {
  to_y = (second.opened b.to_y.0, first.opened b.to_y.1, zeroth_lost _ _ _ b.to_y.2);
  to_x = (second.opened b.to_x.0, first.opened b.to_x.1, zeroth_lost _ _ _ b.to_x.2);
  own_x = (books.drops capacity h.end.book b.own_x.0, tt, b.own_x.2);
  own_y = (books.drops capacity g.end.book b.own_y.0, tt, b.own_y.2);
  kept_x = refl;
  kept_y = refl;
  queue_x = tt;
  queue_y = (refl, tt);
}

pub opened_keeps : (capacity : ℕ) (x y : Half) → Both capacity x y → Both capacity (opened_client x) (opened_server (connects first_packet x.end).out y)
opened_keeps capacity x y b =
    let P : Bool → Bool → Type 0 = λ c d. Both capacity (record x { end = record x.end { clean = c } }) (record y { end = record y.end { clean = d } })
    → Both capacity (opened_client (record x { end = record x.end { clean = c } }))
    (opened_server (connects first_packet (record x { end = record x.end { clean = c } }).end).out (record y { end = record y.end { clean = d } })) in
    let half : P false y.end.clean = subst (λ (d : Bool). P false d) (sym b.kept_y) (opens_keep capacity x y x.end.state y.end.state x.coming y.coming) in
    subst (λ (c : Bool). P c y.end.clean) (sym b.kept_x) half b
