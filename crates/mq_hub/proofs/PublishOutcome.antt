-- A PUBLISH of a connected client whose message is new.
use Rattle.std.proofs.Common.{◌≡◌, ℕ, ◌+◌, ◌≤◌, Bool, true, false, cond, List, [], ◌∷◌, length, Option, Some, None, Ok, arith, refl, sym, ap, subst, ◌∙◌, eqb, eqb-true, eq-eqb, true≢false, zero-add}
use Rattle.std.proofs.lemmas.Bool.{cond-true, cond-false, ne_eqb}
use Rattle.std.proofs.lemmas.List.{length-append}
use Rattle.mq_wire.specs.Length.{length_bytes}
use Rattle.mq_topic.specs.declared.qos.Qos.{Qos}
use Rattle.mq_topic.specs.declared.qos.Qos.TheVariants.{Q0, Q1, Q2}
use Rattle.mq_packet.specs.declared.message.Message.{Message}
use Rattle.mq_packet.specs.declared.publish.Delivery.{Delivery}
use Rattle.mq_packet.specs.declared.packet.Packet.TheVariants as packets
use Rattle.mq_packet.specs.Encoding.{encoded_size, encodings}
use Rattle.mq_packet.specs.Publication.{Publication}
use Rattle.mq_decode.specs.Limits.{Bounds}
use Rattle.mq_flow.specs.Window.{fits_window}
use Rattle.mq_end.specs.declared.packet_outcome.PacketOutcome.{PacketOutcome}
use Rattle.mq_end.specs.declared.reason.CloseReason.TheVariants as reasons
use Rattle.mq_end.specs.declared.state.State.{State}
use Rattle.mq_end.specs.declared.state.State.TheVariants.{Disconnected, Connecting, Connected}
use Rattle.mq_end.specs.Both.{publish_gets, stores}
use Rattle.mq_end.specs.End.{End, Reply, closes, is_up}
use Rattle.mq_end.specs.Ready.{HasRoom, packets_size}
use Rattle.mq_end.specs.Server.{ready_refusal, server_gets, server_up_gets}
use Rattle.mq_end.specs.State.{EndState}
use Rattle.mq_route.specs.Hub.{end_of}
use Rattle.mq_tables.specs.declared.sessions.call.Call.TheVariants.{Takes}
use Rattle.mq_tables.specs.declared.sessions.session.BrokerSession.{BrokerSession}
use Rattle.mq_tables.specs.Calls.{CanServe, Serves, ServesAt}
use Rattle.mq_tables.specs.Publishing.{IsReady, IsReadyAt}
use Rattle.mq_tables.specs.Sessions.{sessions_of, session_at, with_server}
use Rattle.mq_tables.specs.Output.{output_of}
use Rattle.mq_tables.proofs.SessionRoom.{changed_other, changed_own, end_changed, some_same}
use Rattle.mq_tables.proofs.Spaces.{frame_bytes}
use Rattle.mq_hub.specs.Inside.Placement.{AreReady, HaveQueued, HaveSameBooks}
use Rattle.mq_hub.specs.Inside.QueuedAnswer.{answer_for, publish_answer}
use Rattle.mq_hub.proofs.EndReplies.{end_there, gets_up, packet_stays}
use Rattle.mq_hub.proofs.PlacedCopies.{output_changed, output_own}

some_none : {X : Type 0} {x : X} → Some x ≡ None → ⊥
some_none e = absurd cc

is_up_state : (s : State) → is_up s ≡ true → s ≡ Connected
is_up_state Disconnected e = absurd (true≢false (sym e))
is_up_state Connecting e = absurd (true≢false (sym e))
is_up_state Connected e = refl

-- ---- what a PUBLISH leaves of an end

publish_book : (q : Qos) (d : Option Delivery) (m : Message) (e : End) → (publish_gets q d m e).close ≡ None → (publish_gets q d m e).end.book ≡ e.book
publish_book Q0 None m e lives = refl
publish_book Q0 (Some d) m e lives = absurd (some_none lives)
publish_book Q1 None m e lives = absurd (some_none lives)
publish_book Q1 (Some d) m e lives = refl
publish_book Q2 None m e lives = absurd (some_none lives)
publish_book Q2 (Some d) m e lives = go (fits_window e.window d.id e.received) lives
  where
    go : (b : Bool) → (cond b (stores d.id m e) (closes reasons.Window e)).close ≡ None → (cond b (stores d.id m e) (closes reasons.Window e)).end.book ≡ e.book
    go true lives = refl
    go false lives = absurd (some_none lives)

-- its answer is PUBACK or PUBREC (3.4, 3.5)
publish_out : (q : Qos) (d : Option Delivery) (m : Message) (e : End) → (publish_gets q d m e).close ≡ None → packets_size (publish_gets q d m e).out ≤ 7
publish_out Q0 None m e lives = omega arith
publish_out Q0 (Some d) m e lives = absurd (some_none lives)
publish_out Q1 None m e lives = absurd (some_none lives)
publish_out Q1 (Some d) m e lives = omega arith
publish_out Q2 None m e lives = absurd (some_none lives)
publish_out Q2 (Some d) m e lives = go (fits_window e.window d.id e.received) lives
  where
    go : (b : Bool) → (cond b (stores d.id m e) (closes reasons.Window e)).close ≡ None
        → packets_size (cond b (stores d.id m e) (closes reasons.Window e)).out ≤ 7
    go true lives = omega arith
    go false lives = absurd (some_none lives)

acknowledgement : encoded_size 2 ≡ 4
unfolding length_bytes
acknowledgement = refl

-- and has this number of bytes
publish_sends : (q : Qos) (d : Option Delivery) (m : Message) (e : End) (key : ℕ) → (publish_gets q d m e).close ≡ None
    → length (encodings (publish_gets q d m e).out) ≡ (publish_answer key d).bytes
publish_sends Q0 None m e key lives = refl
publish_sends Q0 (Some d) m e key lives = absurd (some_none lives)
publish_sends Q1 None m e key lives = absurd (some_none lives)
publish_sends Q1 (Some d) m e key lives = frame_bytes (packets.PubAck d.id) ∙ acknowledgement
publish_sends Q2 None m e key lives = absurd (some_none lives)
publish_sends Q2 (Some d) m e key lives = go (fits_window e.window d.id e.received) lives
  where
    go : (b : Bool) → (cond b (stores d.id m e) (closes reasons.Window e)).close ≡ None
        → length (encodings (cond b (stores d.id m e) (closes reasons.Window e)).out) ≡ 4
    go true lives = frame_bytes (packets.PubRec d.id) ∙ acknowledgement
    go false lives = absurd (some_none lives)

answer_is : (d : Option Delivery) (key k : ℕ) → answer_for (Some (publish_answer key d)) k ≡ cond (eqb key k) (publish_answer key d).bytes 0
answer_is None key k = refl
answer_is (Some d) key k = refl

-- ---- an end with room for the answer keeps its other room

room_less : (ms : List Message) (n k : ℕ) (s : EndState) → n ≤ k → HasRoom ms k s → HasRoom ms n s
room_less ms n k s less room = record { messages = room.messages; bytes = omega (arith, room.bytes, less) }

accepts_still : (most capacity : ℕ) (ms : List Message) (a b : End) → b.known ≡ a.known → b.state ≡ a.state → b.book ≡ a.book
    → ready_refusal most capacity ms b ≡ ready_refusal most capacity ms a
accepts_still most capacity ms a b known state book = λ i. ready_refusal most capacity ms (record a { known = known i; state = state i; book = book i })

module _ (now : ℕ) (p : Publication) (o : PacketOutcome) (old new : EndState) (up : old.end.state ≡ Connected)
    (lives : (server_gets (packets.Publish p) old.end).close ≡ None)
    (serves : Serves (Takes now (packets.Publish p)) (Ok o) old new) where
  lives_up : (server_up_gets (packets.Publish p) old.end).close ≡ None
  lives_up = ap (λ (r : Reply). r.close) (sym (gets_up (packets.Publish p) old.end up)) ∙ lives

  same_book : new.end.book ≡ old.end.book
  same_book =
      ap (λ (x : End). x.book) serves.ok.replies.end
      ∙ ap (λ (r : Reply). r.end.book) (gets_up (packets.Publish p) old.end up) ∙ publish_book p.message.qos p.delivery p.message old.end lives_up

  sent_answer : (key : ℕ) → length new.output ≡ (publish_answer key p.delivery).bytes + length old.output
  sent_answer key =
      let r = server_gets (packets.Publish p) old.end in
      let total = ap (λ (b : List ℕ). length b) serves.ok.replies.output ∙ length-append old.output (encodings r.out) in
      let sent = ap (λ (r : Reply). length (encodings r.out)) (gets_up (packets.Publish p) old.end up) ∙ publish_sends p.message.qos p.delivery p.message old.end key lives_up in
      omega (arith, total, sent)

  still_ready : (ms : List Message) → IsReady ms 7 old → IsReady ms 0 new
  still_ready ms ready =
      let e = old.end in
      let is = gets_up (packets.Publish p) e up in
      let stays = packet_stays (packets.Publish p) e up lives in
      let replies = serves.ok.replies in
      let book = ap (λ (r : Reply). r.end.book) is ∙ publish_book p.message.qos p.delivery p.message e lives_up in
      let out : packets_size (server_gets (packets.Publish p) e).out ≤ 7 =
      subst (λ (r : Reply). packets_size r.out ≤ 7) (sym is) (publish_out p.message.qos p.delivery p.message e lives_up) in
      record {
        accepted =
            ap (λ (l : Bounds). ready_refusal l.most new.capacity ms new.end) replies.limit
            ∙ ap (λ (n : ℕ). ready_refusal old.limit.most n ms new.end) replies.capacity
            ∙ ap (λ (x : End). ready_refusal old.limit.most old.capacity ms x) replies.end
            ∙ accepts_still old.limit.most old.capacity ms e (server_gets (packets.Publish p) e).end stays.known stays.state book
            ∙ ready.accepted;
        room = serves.kept ms 0 (room_less ms (packets_size (server_gets (packets.Publish p) e).out + 0) 7 old (omega (arith, out)) ready.room);
      }

module _ (key now : ℕ) (p : Publication) (o : PacketOutcome) (ts us : List BrokerSession) (at : ServesAt key (Takes now (packets.Publish p)) (Ok o) ts us)
    (can : CanServe key (Takes now (packets.Publish p)) ts)
    (lives : (server_gets (packets.Publish p) (end_of key (sessions_of ts))).close ≡ None) where
  lives_there : (server_gets (packets.Publish p) at.session.end.end).close ≡ None
  lives_there = ap (λ (e : End). (server_gets (packets.Publish p) e).close) (sym (end_there key at.session ts at.there)) ∙ lives

  up_there : at.session.end.end.state ≡ Connected
  up_there = is_up_state at.session.end.end.state (subst (λ (x : BrokerSession). is_up x.end.end.state ≡ true) (some_same (sym can.there ∙ at.there)) can.up)

  ready_at : (k : ℕ) (ms : List Message) → IsReadyAt k ms 7 ts → IsReadyAt k ms 0 us
  ready_at k ms was = subst (λ (xs : List BrokerSession). IsReadyAt k ms 0 xs) (sym at.after) (go (eqb key k) refl)
    where
      go : (b : Bool) → eqb key k ≡ b → IsReadyAt k ms 0 (with_server key at.end ts)
      go true e =
          let same : key ≡ k = eqb-true key k e in
          let there : session_at key ts ≡ Some was.session = subst (λ (x : ℕ). session_at x ts ≡ Some was.session) (sym same) was.there in
          let is : was.session ≡ at.session = some_same (sym there ∙ at.there) in
          record {
            session = record at.session { end = at.end };
            there = subst (λ (x : ℕ). session_at x (with_server key at.end ts) ≡ Some (record at.session { end = at.end })) same
                (changed_own (λ s. at.end) key at.session ts at.there);
            ready = still_ready now p o at.session.end at.end up_there lives_there at.serves ms
                (subst (λ (x : BrokerSession). IsReady ms 7 x.end) is was.ready);
          }
      go false e = record {
        session = was.session;
        there = changed_other (λ s. at.end) key k ts e ∙ was.there;
        ready = record { accepted = was.ready.accepted; room = room_less ms 0 7 was.session.end (omega arith) was.ready.room };
      }

  pub all_ready : (cs : List (ℕ × Message)) → AreReady 7 ts cs → AreReady 0 us cs
  all_ready [] all = tt
  all_ready (c ∷ cs) all = (ready_at c.0 (c.1 ∷ []) all.0, all_ready cs all.1)

  pub same_books : HaveSameBooks ts us
  same_books k = ap (λ (xs : List BrokerSession). (end_of k (sessions_of xs)).book) at.after ∙ go (eqb k key) refl
    where
      go : (b : Bool) → eqb k key ≡ b → (end_of k (sessions_of (with_server key at.end ts))).book ≡ (end_of k (sessions_of ts)).book
      go true e =
          let there = changed_own (λ s. at.end) key at.session ts at.there in
          subst (λ (n : ℕ). (end_of n (sessions_of (with_server key at.end ts))).book ≡ (end_of n (sessions_of ts)).book) (sym (eqb-true k key e))
          (ap (λ (x : End). x.book) (end_there key (record at.session { end = at.end }) (with_server key at.end ts) there)
          ∙ same_book now p o at.session.end at.end up_there lives_there at.serves
          ∙ ap (λ (x : End). x.book) (sym (end_there key at.session ts at.there)))
      go false e = ap (λ (x : End). x.book) (end_changed (λ s. at.end) key k ts e)

  pub queued : HaveQueued (Some (publish_answer key p.delivery)) ts us
  queued k =
      ap (λ (xs : List BrokerSession). length (output_of k xs)) at.after ∙ go (eqb key k) refl
      ∙ ap (λ (n : ℕ). n + length (output_of k ts)) (sym (answer_is p.delivery key k))
    where
      own : length (output_of key (with_server key at.end ts)) ≡ (publish_answer key p.delivery).bytes + length (output_of key ts)
      own =
          let there = changed_own (λ s. at.end) key at.session ts at.there in
          ap (λ (b : List ℕ). length b) (output_own key (record at.session { end = at.end }) (with_server key at.end ts) there)
          ∙ sent_answer now p o at.session.end at.end up_there lives_there at.serves key
          ∙ ap (λ (b : List ℕ). (publish_answer key p.delivery).bytes + length b) (sym (output_own key at.session ts at.there))

      go : (b : Bool) → eqb key k ≡ b → length (output_of k (with_server key at.end ts)) ≡ cond (eqb key k) (publish_answer key p.delivery).bytes 0 + length (output_of k ts)
      go true e =
          subst (λ (n : ℕ). length (output_of n (with_server key at.end ts)) ≡ (publish_answer key p.delivery).bytes + length (output_of n ts)) (eqb-true key k e) own
          ∙ ap (λ (n : ℕ). n + length (output_of k ts)) (sym (cond-true (eqb key k) (publish_answer key p.delivery).bytes 0 e))
      go false e =
          let apart : eqb k key ≡ false = ne_eqb k key (λ same. true≢false (sym (eq-eqb key k (sym same)) ∙ e)) in
          ap (λ (b : List ℕ). length b) (output_changed (λ s. at.end) key k ts apart)
          ∙ sym (zero-add (length (output_of k ts)))
          ∙ ap (λ (n : ℕ). n + length (output_of k ts)) (sym (cond-false (eqb key k) (publish_answer key p.delivery).bytes 0 e))
