-- The room of a session for a CONNECT on a new connection, and what leaves it.
use Rattle.std.proofs.Common.{◌≡◌, ℕ, ◌+◌, ◌-◌, ◌<◌, ◌≤◌, ◌^◌, Bool, true, false, not, ◌&&◌, cond, eqb, List, [], ◌∷◌, ◌++◌, map, length, Option, Some, None, Result, Err, refl, sym, ap, subst, ◌∙◌, arith, true≢false}
use Rattle.std.proofs.lemmas.Bool.{le-ltb}
use Rattle.std.specs.Option.{is_some, IfSome, IfNone}
use Rattle.std.specs.Prelude.{⊤}
use Rattle.mq_topic.specs.declared.qos.Qos.{Qos}
use Rattle.mq_topic.specs.declared.qos.Qos.TheVariants.{Q0, Q1, Q2}
use Rattle.mq_packet.specs.declared.connack.ConnAck.TheVariants as connacks
use Rattle.mq_packet.specs.declared.connack.RefusalCode.TheVariants.{IdentifierRejected}
use Rattle.mq_packet.specs.declared.connect.Connect.{Connect}
use Rattle.mq_packet.specs.declared.message.Message.{Message}
use Rattle.mq_packet.specs.declared.packet.Packet.{Packet}
use Rattle.mq_packet.specs.declared.packet.Packet.TheVariants as packets
use Rattle.mq_packet.specs.declared.publish.Delivery.{Delivery}
use Rattle.mq_packet.specs.Publication.{fits_delivery}
use Rattle.mq_packet.specs.Encoding.{fields}
use Rattle.mq_flow.specs.declared.entry.SenderEntry.{SenderEntry}
use Rattle.mq_flow.specs.Next.{next_identifier}
use Rattle.mq_flow.specs.Sender.{SenderBook, accept, blank_book, no_claims, publish_packet, resent, uses}
use Rattle.mq_end.specs.declared.refusal.PublishRefusal.{PublishRefusal}
use Rattle.mq_end.specs.declared.refusal.PublishRefusal.TheVariants as refusals
use Rattle.mq_end.specs.declared.state.State.TheVariants.{Disconnected}
use Rattle.mq_end.specs.Both.{publishes_at}
use Rattle.mq_end.specs.End.{End, Reply, becomes_connected, is_up, renewed}
use Rattle.mq_end.specs.Ready.{AreEncodable, HasConnectRoom, HasRoom, packets_size, size_at_once, whole_size}
use Rattle.mq_end.specs.Server.{connect_gets, opens, ready_refusal, refuses, server_gets}
use Rattle.mq_end.specs.SizeLaws.{SizeLaws}
use Rattle.mq_end.specs.Sizes.{publish_size}
use Rattle.mq_end.specs.State.{EndState, Room}
use Rattle.mq_tables.specs.declared.sessions.session.BrokerSession.{BrokerSession}
use Rattle.mq_tables.specs.Publishing.{placed_at, published, AreSameButRoom, AreStillReady, IsReadyAt, ReadiesAt}
use Rattle.mq_tables.specs.Connecting.{roomed, HasConnectRoomAt}
use Rattle.mq_tables.specs.Sessions.{session_at, with_server, AreAscending}
use Rattle.mq_tables.proofs.SessionRoom.{changed_other, changed_own, ready_same, ready_still, same_session, some_same}

-- ---- an end that is another

pub rise_with : (c : Connect) (key : ℕ) (ms : List Message) (more : ℕ) (e : EndState) (t : BrokerSession) (ts : List BrokerSession) → session_at key ts ≡ Some t → HasConnectRoom c ms more e
    → HasConnectRoomAt c key ms more (with_server key e ts)
rise_with c key ms more e t ts there h = record { session = record t { end = e }; there = changed_own (λ (x : EndState). e) key t ts there; connect_end = h }

-- ---- an end that has more room

-- the end of the session of a key has more room, and lost none
pub record IsEnlarged (key : ℕ) (old new : List BrokerSession) : Type 0 where
  pub session : BrokerSession
  pub there : session_at key old ≡ Some session
  pub room : Room
  pub after : new ≡ with_server key (roomed room session.end) old
  pub before : (ms : List Message) (n : ℕ) → HasRoom ms n session.end → HasRoom ms n (roomed room session.end)

pub enlarged : (key : ℕ) (t : BrokerSession) (e : EndState) (old new : List BrokerSession) → session_at key old ≡ Some t → new ≡ with_server key e old → e ≡ roomed e.room t.end
    → ((ms : List Message) (n : ℕ) → HasRoom ms n t.end → HasRoom ms n e) → IsEnlarged key old new
enlarged key t e old new there after same before = record {
  session = t;
  there = there;
  room = e.room;
  after = after ∙ ap (λ (x : EndState). with_server key x old) same;
  before = λ ms n h. subst (λ (x : EndState). HasRoom ms n x) same (before ms n h);
}

none_refused : (limit capacity : ℕ) (e : End) → ready_refusal limit capacity [] e ≡ None
none_refused limit capacity e = ap (λ (b : Bool). cond b (Some refusals.Full) None) (le-ltb (capacity - length (uses e.book)) 0 (omega arith))

abbrev no_memory : Result ⊤ PublishRefusal
no_memory = Err refusals.Memory

-- it is like one in which an allocation failed while room was made
readies_none : (key : ℕ) (old new : List BrokerSession) → IsEnlarged key old new → ReadiesAt key [] 0 no_memory old new
readies_none key old new h =
    let none = none_refused h.session.end.limit.most h.session.end.capacity h.session.end.end in
    record {
      session = h.session;
      there = h.there;
      end = roomed h.room h.session.end;
      readies = record {
        refused = subst (λ (o : Option PublishRefusal). IfSome o (λ why. no_memory ≡ Err why)) (sym none) tt;
        memory = subst (λ (o : Option PublishRefusal). IfNone o (refusals.Memory ≡ refusals.Memory)) (sym none) refl;
        room = tt;
        same = refl;
        before = h.before;
      };
      after = h.after;
    }

pub enlarged_same : (key : ℕ) (old new : List BrokerSession) → AreAscending old → IsEnlarged key old new → AreSameButRoom old new
enlarged_same key old new up h = ready_same key [] 0 no_memory old new up (readies_none key old new h)

pub enlarged_still : (key : ℕ) (old new : List BrokerSession) → AreAscending old → IsEnlarged key old new → AreStillReady old new
enlarged_still key old new up h = ready_still key [] 0 no_memory old new up (readies_none key old new h)

-- ---- less is asked

-- room for a message is room for the bytes of its PUBLISH
pub rise_bytes : (c : Connect) (key : ℕ) (m : Message) (ts : List BrokerSession) → HasConnectRoomAt c key (m ∷ []) 0 ts → HasConnectRoomAt c key [] (whole_size (publish_size m)) ts
rise_bytes c key m ts r = record {
  session = r.session;
  there = r.there;
  connect_end = record { messages = omega arith; bytes = let had = r.connect_end.bytes in omega arith; encodable = r.connect_end.encodable };
}

pub rise_less : (c : Connect) (key : ℕ) (ms : List Message) (more : ℕ) (ts : List BrokerSession) → HasConnectRoomAt c key ms more ts → HasConnectRoomAt c key [] 0 ts
rise_less c key ms more ts r = record {
  session = r.session;
  there = r.there;
  connect_end = record { messages = omega arith; bytes = let had = r.connect_end.bytes in omega arith; encodable = r.connect_end.encodable };
}

-- ---- sessions that are made ready

-- that of a client without connection keeps its room
pub rise_still : (c : Connect) (key n : ℕ) (old new : List BrokerSession) → AreSameButRoom old new → AreStillReady old new → (r : HasConnectRoomAt c key [] n old)
    → r.session.end.end.state ≡ Disconnected
    → r.session.end.output ≡ [] → HasConnectRoomAt c key [] n new
rise_still c key n old new same still r closed empty =
    let w = same_session key r.session old new same r.there in
    let bytes = r.session.end.room.bytes in
    let none = ap length empty in
    let now : IsReadyAt key [] bytes new = still key [] bytes (record {
      session = r.session;
      there = r.there;
      ready = record {
        accepted = none_refused r.session.end.limit.most r.session.end.capacity r.session.end.end;
        room = record {
          messages = omega arith;
          bytes = let out = ap (λ s. size_at_once s []) closed in omega arith;
        };
      };
    }) in
    let is : now.session ≡ w.0 = some_same (sym now.there ∙ w.1) in
    let end = ap (λ (x : BrokerSession). x.end.end) w.2 in
    record {
      session = w.0;
      there = w.1;
      connect_end = record {
        messages = omega arith;
        bytes =
            let had = r.connect_end.bytes in
            let has = now.ready.room.bytes in
            let here = ap (λ (x : BrokerSession). x.end.room.bytes) is in
            let out = ap (λ (e : End). packets_size (server_gets (packets.Connect c) (opens e).end).out) end in
            omega arith;
        encodable = subst (λ (e : End). AreEncodable (server_gets (packets.Connect c) (opens e).end).out) (sym end) r.connect_end.encodable;
      };
    }

-- ---- the answer to a CONNECT with one message more

-- by whether it is refused, whether clean session is 1, whether a session is known, and its book
abbrev out_of : Bool → Bool → Bool → SenderBook → List Packet
out_of refused clean known b = cond refused (packets.ConnAck (connacks.Refused IdentifierRejected) ∷ [])
    (packets.ConnAck (connacks.Accepted (not clean && known)) ∷ resent (cond clean blank_book b))

out_by : (b : Bool) (r s : Reply) → (cond b r s).out ≡ cond b r.out s.out
out_by true r s = refl
out_by false r s = refl

abbrev is_refused : Connect → Bool
is_refused c = not c.clean_session && eqb (length c.client_id) 0

connect_puts : (c : Connect) (e : End) → (connect_gets c e).out ≡ out_of (is_refused c) c.clean_session e.known e.book
connect_puts c e =
    out_by (is_refused c) (refuses IdentifierRejected e)
    (becomes_connected (packets.ConnAck (connacks.Accepted (not c.clean_session && e.known)) ∷ []) (not c.clean_session && e.known)
    (record (renewed c.clean_session e) { keep_alive = c.keep_alive }))

sizes_joined : (ps qs : List Packet) → packets_size (ps ++ qs) ≡ packets_size ps + packets_size qs
sizes_joined [] qs = omega arith
sizes_joined (p ∷ ps) qs = let rest = sizes_joined ps qs in omega arith

encodable_joined : (ps qs : List Packet) → AreEncodable ps → AreEncodable qs → AreEncodable (ps ++ qs)
encodable_joined [] qs h k = k
encodable_joined (p ∷ ps) qs h k = (h.0, encodable_joined ps qs h.1 k)

-- the PUBLISHes of messages that are kept
abbrev kept_packets : List SenderEntry → List Packet
kept_packets es = map (λ (e : SenderEntry). publish_packet e.id e.sent e.message) es

kept_more : (es : List SenderEntry) (e : SenderEntry) → kept_packets (es ++ e ∷ []) ≡ kept_packets es ++ publish_packet e.id e.sent e.message ∷ []
kept_more [] e = refl
kept_more (x ∷ es) e = ap (λ (ps : List Packet). publish_packet x.id x.sent x.message ∷ ps) (kept_more es e)

append_last : (ps qs : List Packet) (p : Packet) → ps ++ (qs ++ p ∷ []) ≡ (ps ++ qs) ++ p ∷ []
append_last [] qs p = refl
append_last (x ∷ ps) qs p = ap (λ (rs : List Packet). x ∷ rs) (append_last ps qs p)

resent_more : (i : ℕ) (m : Message) (sent : Bool) (b : SenderBook) → resent (no_claims (accept i m sent b)) ≡ resent (no_claims b) ++ publish_packet i sent m ∷ []
resent_more i m sent b =
    ap (λ (ps : List Packet). map packets.PubRel b.released ++ ps) (kept_more b.entries (record { id = i; message = m; sent = sent }))
    ∙ append_last (map packets.PubRel b.released) (kept_packets b.entries) (publish_packet i sent m)

-- the packets to send, and the same with one packet more
record Grows (p : Packet) (ps qs : List Packet) : Type 0 where
  size : packets_size qs ≤ packets_size ps + whole_size (length (fields p))
  encodable : AreEncodable ps → length (fields p) < 2 ^ 28 → AreEncodable qs

grows_not : (p : Packet) (ps : List Packet) → Grows p ps ps
grows_not p ps = record { size = omega arith; encodable = λ h small. h }

grows_last : (p : Packet) (ps : List Packet) → Grows p ps (ps ++ p ∷ [])
grows_last p ps = record { size = let parts = sizes_joined ps (p ∷ []) in omega arith; encodable = λ h small. encodable_joined ps (p ∷ []) h (small, tt) }

grows_out : (refused clean before known : Bool) (i : ℕ) (m : Message) (sent : Bool) (b : SenderBook)
    → Grows (publish_packet i sent m) (out_of refused clean known (cond before blank_book (no_claims b)))
    (out_of refused clean known (cond before blank_book (no_claims (accept i m sent b))))
grows_out true clean before known i m sent b = grows_not (publish_packet i sent m) (packets.ConnAck (connacks.Refused IdentifierRejected) ∷ [])
grows_out false true before known i m sent b = grows_not (publish_packet i sent m) (packets.ConnAck (connacks.Accepted false) ∷ [])
grows_out false false true known i m sent b = grows_not (publish_packet i sent m) (packets.ConnAck (connacks.Accepted known) ∷ [])
grows_out false false false known i m sent b =
    let p = publish_packet i sent m in
    let first = packets.ConnAck (connacks.Accepted known) in
    subst (λ (qs : List Packet). Grows p (first ∷ resent (no_claims b)) (first ∷ qs)) (sym (resent_more i m sent b)) (grows_last p (first ∷ resent (no_claims b)))

-- the packets to send on a new connection
abbrev answer : Connect → End → List Packet
answer c e = (server_gets (packets.Connect c) (opens e).end).out

grows_answer : (c : Connect) (i : ℕ) (m : Message) (sent : Bool) (e : End)
    → Grows (publish_packet i sent m) (answer c e) (answer c (record e { book = accept i m sent e.book; last = i }))
grows_answer c i m sent e =
    let f : End = record e { book = accept i m sent e.book; last = i } in
    let p = publish_packet i sent m in
    subst (λ (ps : List Packet). Grows p ps (answer c f)) (sym (connect_puts c (opens e).end))
    (subst (λ (qs : List Packet). Grows p (out_of (is_refused c) c.clean_session (opens e).end.known (opens e).end.book) qs) (sym (connect_puts c (opens f).end))
    (grows_out (is_refused c) c.clean_session e.clean (opens e).end.known i m sent e.book))

-- ---- a message that is published

record FitsBehind (c : Connect) (n : ℕ) (e f : End) : Type 0 where
  size : packets_size (answer c f) ≤ packets_size (answer c e) + whole_size n
  encodable : n < 2 ^ 28 → AreEncodable (answer c e) → AreEncodable (answer c f)

fits_same : (c : Connect) (size : ℕ) (e : End) → FitsBehind c size e e
fits_same c size e = record { size = omega arith; encodable = λ small h. h }

fits_kept : (c : Connect) (i : ℕ) (m : Message) (sent : Bool) (e : End) → length (fields (publish_packet i sent m)) ≡ publish_size m
    → FitsBehind c (publish_size m) e (record e { book = accept i m sent e.book; last = i })
fits_kept c i m sent e same =
    let g = grows_answer c i m sent e in
    record {
      size = let grown = g.size in omega arith;
      encodable = λ small h. g.encodable h (omega (arith, same, small));
    }

fits_published : SizeLaws → (c : Connect) (q : Qos) (i : ℕ) (m : Message) (e : End) → q ≡ m.qos → FitsBehind c (publish_size m) e (publishes_at q i m e).end
fits_published laws c Q0 i m e is = fits_same c (publish_size m) e
fits_published laws c Q1 i m e is =
    let d : Delivery = record { id = i; dup = is_up e.state } in
    fits_kept c i m (is_up e.state) e (laws.publish m (Some d) (subst (λ (q : Qos). fits_delivery q (Some d) ≡ true) is refl))
fits_published laws c Q2 i m e is =
    let d : Delivery = record { id = i; dup = is_up e.state } in
    fits_kept c i m (is_up e.state) e (laws.publish m (Some d) (subst (λ (q : Qos). fits_delivery q (Some d) ≡ true) is refl))

pub published_rise : SizeLaws → (c : Connect) (size : ℕ) (m : Message) (s : EndState) → publish_size m ≤ size → size < 2 ^ 28 → HasConnectRoom c [] (whole_size size) s
    → HasConnectRoom c [] 0 (published m s)
published_rise laws c size m s fits small h =
    let f = fits_published laws c m.qos (next_identifier s.end.last s.end.book) m s.end refl in
    record {
      messages = omega arith;
      bytes = let grown = f.size in let had = h.bytes in omega arith;
      encodable = f.encodable (omega (arith, fits, small)) h.encodable;
    }

-- a copy for another client
pub rise_beside : (c : Connect) (key n k : ℕ) (m : Message) (ts : List BrokerSession) → eqb k key ≡ false → HasConnectRoomAt c key [] n ts → HasConnectRoomAt c key [] n (placed_at k m ts)
rise_beside c key n k m ts apart r = record { session = r.session; there = changed_other (published m) k key ts apart ∙ r.there; connect_end = r.connect_end }

-- ---- what a session's end does

-- the session of a key whose end changed so
pub record IsChanged (f : EndState → EndState) (key : ℕ) (ts us : List BrokerSession) : Type 0 where
  pub session : BrokerSession
  pub there : session_at key ts ≡ Some session
  pub after : us ≡ with_server key (f session.end) ts

abbrev pub IsChangedBy : (EndState → EndState) → ℕ → List BrokerSession → List BrokerSession → Type 0
IsChangedBy f key ts us = IfSome (session_at key ts) (λ s. us ≡ with_server key (f s.end) ts)

pub changed_there : (f : EndState → EndState) (key : ℕ) (ts us : List BrokerSession) → is_some (session_at key ts) ≡ true → IsChangedBy f key ts us → IsChanged f key ts us
changed_there f key ts us stands says = go (session_at key ts) refl stands says
  where
    go : (o : Option BrokerSession) → session_at key ts ≡ o → is_some o ≡ true → IfSome o (λ s. us ≡ with_server key (f s.end) ts) → IsChanged f key ts us
    go None e there is = absurd (true≢false (sym there))
    go (Some s) e there is = record { session = s; there = e; after = is }
