-- What the end of a session does, in terms of `Call`.
use Rattle.std.proofs.Common.{◌≡◌, ℕ, ◌+◌, ◌≤◌, Bool, true, false, List, [], ◌∷◌, ◌++◌, length, get_or, Option, Some, None, Result, Ok, Err, IsOk, IsErr, IfOk, OnOk, OnErr, refl, sym, ap, ap₂, cond, eqb, subst, ◌∙◌, arith, true≢false}
use Rattle.std.specs.Prelude.{⊤}
use Rattle.std.specs.declared.alloc.AllocError.{AllocError}
use Rattle.mq_packet.specs.declared.message.Message.{Message}
use Rattle.mq_packet.specs.declared.packet.Packet.{Packet}
use Rattle.mq_packet.specs.Encoding.{EncodingLaws, fields, encodings}
use Rattle.mq_end.specs.declared.publish_outcome.PublishOutcome.{PublishOutcome}
use Rattle.mq_end.specs.declared.packet_outcome.PacketOutcome.{PacketOutcome}
use Rattle.mq_end.specs.declared.refusal.PublishRefusal.{PublishRefusal}
use Rattle.mq_end.specs.declared.state.State.{State}
use Rattle.mq_end.specs.declared.state.State.TheVariants.{Disconnected, Connecting, Connected}
use Rattle.mq_end.specs.End.{End, Reply, sends_packets, is_live, is_up}
use Rattle.mq_end.specs.Ready.{FitsRoom, HasRoom, is_exactly_once, packets_size, whole_size}
use Rattle.mq_end.specs.Receiving.{Acts, TakesPacket, no_outcome, outcome_of, told_of}
use Rattle.mq_end.specs.Server.{ready_refusal, server_gets, suback_refusal, unsuback_refusal}
use Rattle.mq_end.specs.State.{EndState, PutsOut}
use Rattle.mq_tables.specs.declared.sessions.call.Call.{Call}
use Rattle.mq_tables.specs.declared.sessions.call.Call.TheVariants.{Takes, Grants, Drops}
use Rattle.mq_tables.specs.declared.sessions.session.BrokerSession.{BrokerSession}
use Rattle.mq_tables.specs.Calls.{CanServe, IsAllowed, Serves, ServesAt, Reports, reply_of, is_storing}
use Rattle.mq_tables.specs.Publishing.{AreSameButRoom, IsReady, IsReadyAt, roomless}
use Rattle.mq_tables.specs.Sessions.{AreAscending, session_at, with_server}
use Rattle.mq_tables.proofs.EndPublishes.{encoded}
use Rattle.mq_tables.proofs.FoundSession.{IsFound, set_back}
use Rattle.mq_tables.proofs.SessionRoom.{changed_at, changed_own, same_change, same_session, some_same}

put_out : EncodingLaws → (ps : List Packet) (old new : List ℕ) → PutsOut ps old new → new ≡ old ++ encodings ps
put_out encoding ps old new out = out.2 ∙ ap (λ (b : List ℕ). old ++ b) (encoding.all ps out.0 (encoded ps out.0 out.1))

-- ---- a packet comes

pub up_live : (s : State) → is_up s ≡ true → is_live s ≡ true
up_live Disconnected up = up
up_live Connecting up = absurd (true≢false (sym up))
up_live Connected up = refl

pub takes_serves : EncodingLaws → (now : ℕ) (p : Packet) (answer : Result PacketOutcome AllocError) (old new : EndState)
    → IfOk answer (λ o. TakesPacket now p o old new) → OnErr answer (new ≡ old) → (is_exactly_once p ≡ false → FitsRoom (server_gets p old.end).out old → IsOk answer)
    → ((ms : List Message) (more : ℕ) → HasRoom ms (packets_size (server_gets p old.end).out + more) old → HasRoom ms more new) → Serves (Takes now p) answer old new
takes_serves encoding now p answer old new takes still within kept = record { ok = go answer takes; err = still; within = within; kept = kept }
  where
    go : (a : Result PacketOutcome AllocError) → IfOk a (λ o. TakesPacket now p o old new) → IfOk a (λ o. Reports (server_gets p old.end) o old new)
    go (Ok o) t = record {
      replies = record {
        end = ap (λ (s : EndState). s.end) t.state;
        output = put_out encoding (server_gets p old.end).out old.output new.output t.out;
        capacity = ap (λ (s : EndState). s.capacity) t.state;
        limit = ap (λ (s : EndState). s.limit) t.state;
      };
      happening = t.happening;
      close = t.close;
    }
    go (Err e) t = tt

-- a message that the broker keeps, and the result of its PUBLISH
pub ok_told : {E : Type 0} (m : Message) (P : PacketOutcome → Type 0) (r : Result PublishOutcome E) → IfOk r (λ handing. P (outcome_of handing m)) → IfOk (told_of m r) P
ok_told m P (Ok handing) x = x
ok_told m P (Err e) x = x

pub err_told : {E : Type 0} (m : Message) (X : Type 0) (r : Result PublishOutcome E) → OnErr r X → OnErr (told_of m r) X
err_told m X (Ok handing) x = x
err_told m X (Err e) x = x

pub err_untold : {E : Type 0} (m : Message) (X : Type 0) (r : Result PublishOutcome E) → OnErr (told_of m r) X → OnErr r X
err_untold m X (Ok handing) x = x
err_untold m X (Err e) x = x

pub is_ok_told : {E : Type 0} (m : Message) (r : Result PublishOutcome E) → IsOk r → IsOk (told_of m r)
is_ok_told m (Ok handing) x = x
is_ok_told m (Err e) x = x

-- ---- it answers

-- an answer of one packet with this remaining length (2.2.3)
module _ (encoding : EncodingLaws) (call : Call) (p : Packet) (size : ℕ) (old new : EndState) (reply : reply_of call old.end ≡ sends_packets (p ∷ []) old.end)
    (long : length (fields p) ≡ size) where
  with_size : (ms : List Message) (more : ℕ) → HasRoom ms (packets_size (reply_of call old.end).out + more) old → HasRoom ms (whole_size size + more) old
  with_size ms more room =
      subst (λ (n : ℕ). HasRoom ms n old)
      (ap (λ (r : Reply). packets_size r.out + more) reply ∙ (let w : packets_size (p ∷ []) + more ≡ whole_size size + more = omega (arith, long) in w)) room

  pub answer_serves : (r : Result ⊤ PublishRefusal) (answer : Result PacketOutcome AllocError) → OnOk r (answer ≡ Ok no_outcome) → OnErr r (IsErr answer)
      → OnOk r (Acts (sends_packets (p ∷ []) old.end) old new) → OnErr r (new ≡ old)
      → ((ms : List Message) (more : ℕ) → HasRoom ms (whole_size size + more) old → IsOk r × HasRoom ms more new) → Serves call answer old new
  answer_serves (Ok x) answer is failed acts err kept =
      subst (λ (a : Result PacketOutcome AllocError). Serves call a old new) (sym is) (record {
        ok = subst (λ (r : Reply). Reports r no_outcome old new) (sym reply) (record {
          replies = record {
            end = ap (λ (s : EndState). s.end) acts.state;
            output = put_out encoding (p ∷ []) old.output new.output acts.out;
            capacity = ap (λ (s : EndState). s.capacity) acts.state;
            limit = ap (λ (s : EndState). s.limit) acts.state;
          };
          happening = refl;
          close = refl;
        });
        err = tt;
        within = λ small fits. refl;
        kept = λ ms more room. (kept ms more (with_size ms more room)).1;
      })
  answer_serves (Err x) answer is failed acts same kept = go answer failed
    where
      room_for : FitsRoom (reply_of call old.end).out old → HasRoom [] (packets_size (reply_of call old.end).out + 0) old
      room_for fits = record { messages = omega arith; bytes = go (is_up old.end.state) }
        where
          go : (b : Bool) → length old.output + (cond b 0 0 + (packets_size (reply_of call old.end).out + 0)) ≤ old.room.bytes
          go true = omega arith
          go false = omega arith

      go : (a : Result PacketOutcome AllocError) → IsErr a → Serves call a old new
      go (Ok o) no_error = absurd (true≢false (sym no_error))
      go (Err f) error = record {
        ok = tt;
        err = same;
        within = λ small fits. (kept [] 0 (with_size [] 0 (room_for fits))).0;
        kept = λ ms more room. (kept ms more (with_size ms more room)).1;
      }

-- ---- a failed allocation

pub same_ends : (key : ℕ) (ts : List BrokerSession) → changed_at (λ s. s) key ts ≡ ts
same_ends key [] = refl
same_ends key (t ∷ ts) = ap₂ (λ (x : BrokerSession) (xs : List BrokerSession). x ∷ xs) (one (eqb t.key key)) (same_ends key ts)
  where
    one : (b : Bool) → cond b (record t { end = t.end }) t ≡ t
    one true = refl
    one false = refl

-- the sessions stay
pub unserved : (key : ℕ) (call : Call) (answer : Result PacketOutcome AllocError) (old new : List BrokerSession) → AreAscending old → ServesAt key call answer old new → OnErr answer (new ≡ old)
unserved key call (Ok o) old new up r = tt
unserved key call (Err e) old new up r = r.after ∙ ap (λ (s : EndState). with_server key s old) r.serves.err ∙ same_change (λ s. s) key r.session old up r.there ∙ same_ends key old

-- the session that was found served a call
pub found_serves : {key : ℕ} {ts seen lent : List BrokerSession} {find : List ℕ → Option ℕ} {len at : ℕ} → IsFound key ts seen lent find len at → (d : BrokerSession) (call : Call)
    (answer : Result PacketOutcome AllocError) (x : BrokerSession) → x ≡ record (get_or lent at d) { end = x.end } → Serves call answer (get_or lent at d).end x.end
    → ServesAt key call answer seen (set_back len ts lent at x)
found_serves {lent = lent} {at = at} f d call answer x same serves = record {
  session = get_or lent at d;
  there = f.there d;
  end = x.end;
  serves = serves;
  after = f.after d (λ t. record t { end = x.end }) x same;
}

-- ---- within the room

-- the end of an answer's session
abbrev FitsAll : Call → ℕ → Type 0
FitsAll call more = (e : End) → packets_size (reply_of call e).out ≤ more

-- an end with room does it
pub served_ok : (key : ℕ) (call : Call) (answer : Result PacketOutcome AllocError) (ms : List Message) (more : ℕ) (old new : List BrokerSession) → ServesAt key call answer old new → IsReadyAt key ms more old
    → is_storing call ≡ false → FitsAll call more → (o : PacketOutcome) × (answer ≡ Ok o)
served_ok key call answer ms more old new r ready small fits = go answer refl (r.serves.within small room)
  where
    is : ready.session ≡ r.session
    is = some_same (sym ready.there ∙ r.there)

    room : FitsRoom (reply_of call r.session.end.end).out r.session.end
    room =
        let size = fits r.session.end.end in
        let bytes = subst (λ (t : BrokerSession). HasRoom ms more t.end) is ready.ready.room in
        let b = bytes.bytes in
        omega arith

    go : (a : Result PacketOutcome AllocError) → answer ≡ a → IsOk a → (o : PacketOutcome) × (answer ≡ Ok o)
    go (Ok o) e ok = (o, e)
    go (Err x) e ok = absurd (true≢false (sym ok))

-- ---- sessions with other room

pub can_alike : (key : ℕ) (call : Call) (old new : List BrokerSession) → AreSameButRoom old new → CanServe key call old → CanServe key call new
can_alike key call old new same can = record {
  session = w.0;
  there = w.1;
  up = ap (λ (t : BrokerSession). is_up t.end.end.state) w.2 ∙ can.up;
  allowed = go call can.allowed;
}
  where
    w : (s : BrokerSession) × (session_at key new ≡ Some s) × (roomless s ≡ roomless can.session)
    w = same_session key can.session old new same can.there

    go : (c : Call) → IsAllowed c can.session.end → IsAllowed c w.0.end
    go (Takes now p) a = tt
    go (Grants i codes) a = ap (λ (t : BrokerSession). suback_refusal t.end.limit.most codes t.end.end) w.2 ∙ a
    go (Drops i) a = ap (λ (t : BrokerSession). unsuback_refusal t.end.limit.most t.end.end) w.2 ∙ a

-- an end that answered has the room for messages that was made before
pub left_ready : (key : ℕ) (call : Call) (answer : Result PacketOutcome AllocError) (ms : List Message) (more : ℕ) (old new : List BrokerSession) → ServesAt key call answer old new → (o : PacketOutcome) → answer ≡ Ok o
    → ((e : End) → (reply_of call e).end ≡ e) → FitsAll call more → IsReadyAt key ms more old → IsReadyAt key ms 0 new
left_ready key call answer ms more old new r o ok same fits ready =
    subst (λ (ts : List BrokerSession). IsReadyAt key ms 0 ts) (sym r.after) (record {
      session = record r.session { end = r.end };
      there = changed_own (λ s. r.end) key r.session old r.there;
      ready = record { accepted = accepted; room = r.serves.kept ms 0 room };
    })
  where
    is : ready.session ≡ r.session
    is = some_same (sym ready.there ∙ r.there)

    was : IsReady ms more r.session.end
    was = subst (λ (t : BrokerSession). IsReady ms more t.end) is ready.ready

    tells : Reports (reply_of call r.session.end.end) o r.session.end r.end
    tells = subst (λ (a : Result PacketOutcome AllocError). IfOk a (λ o. Reports (reply_of call r.session.end.end) o r.session.end r.end)) ok r.serves.ok

    accepted : ready_refusal r.end.limit.most r.end.capacity ms r.end.end ≡ None
    accepted =
        (λ i. ready_refusal (tells.replies.limit i).most (tells.replies.capacity i) ms ((tells.replies.end ∙ same r.session.end.end) i)) ∙ was.accepted

    room : HasRoom ms (packets_size (reply_of call r.session.end.end).out + 0) r.session.end
    room =
        let size = fits r.session.end.end in
        let m = was.room.messages in
        let b = was.room.bytes in
        record { messages = m; bytes = omega arith }
