-- A connection is connected for a client's session, whose end processes the CONNECT.
use Rattle.std.proofs.Common.{◌≡◌, ℕ, true, List, [], ◌++◌, Option, Some, None, refl, sym, ap, ◌∙◌, true≢false}
use Rattle.std.specs.Option.{is_some, IfSome}
use Rattle.mq_packet.specs.declared.connect.Connect.{Connect}
use Rattle.mq_packet.specs.declared.packet.Packet.TheVariants as packets
use Rattle.mq_packet.specs.Encoding.{EncodingLaws, encodings}
use Rattle.mq_end.specs.declared.packet_outcome.PacketOutcome.{PacketOutcome}
use Rattle.mq_end.specs.declared.reason.CloseReason.{CloseReason}
use Rattle.mq_end.specs.End.{Reply}
use Rattle.mq_end.specs.Receiving.{TakesPacket, held_after, heard_one}
use Rattle.mq_end.specs.Server.{opens, server_gets}
use Rattle.mq_end.specs.State.{EndState, Room}
use Rattle.mq_route.specs.Arrives.{greeting}
use Rattle.mq_tables.specs.declared.sessions.session.BrokerSession.{BrokerSession}
use Rattle.mq_tables.specs.Connecting.{connected_end, roomed, HasConnected, IsRoomed}
use Rattle.mq_tables.specs.Sessions.{session_at, with_server}
use Rattle.mq_tables.proofs.TakenOutput.{served_twice}
use Rattle.mq_tables.proofs.EndPublishes.{encoded}

heard_now : (o : Option CloseReason) (now last_activity : ℕ) → last_activity ≡ now → heard_one o now last_activity ≡ now
heard_now None now last_activity e = refl
heard_now (Some reason) now last_activity e = e

held_none : (o : Option CloseReason) (held : List ℕ) → held ≡ [] → held_after o held ≡ []
held_none None held e = e
held_none (Some reason) held e = refl

pub risen_is : EncodingLaws → (c : Connect) (now : ℕ) (o : PacketOutcome) (s a b : EndState) → a.end ≡ (opens s.end).end → a.output ≡ [] → a.held ≡ [] → a.limit ≡ s.limit → a.capacity ≡ s.capacity
    → a.last_activity ≡ now → a.room ≡ s.room → TakesPacket now (packets.Connect c) o a b → b ≡ connected_end c now s
risen_is laws c now o s a b end output held limit capacity last_activity room takes =
    let r : Reply = server_gets (packets.Connect c) a.end in
    let same : r ≡ greeting c s.end = ap (server_gets (packets.Connect c)) end in
    let bytes : b.output ≡ encodings (greeting c s.end).out =
    takes.out.2 ∙ ap (λ (x : List ℕ). x ++ takes.out.0) output ∙ laws.all r.out takes.out.0 (encoded r.out takes.out.0 takes.out.1) ∙ ap (λ (x : Reply). encodings x.out) same in
    let none : held_after r.close a.held ≡ [] = held_none r.close a.held held in
    let touched : heard_one r.close now a.last_activity ≡ now = heard_now r.close now a.last_activity last_activity in
    takes.state
    ∙ (λ i. record { end = (same i).end; capacity = capacity i; limit = limit i; held = none i; output = bytes i; last_activity = touched i; room = room i })

-- ---- an end that is removed and put back

pub record IsSwapped (key : ℕ) (taken back : EndState) (ts vs : List BrokerSession) : Type 0 where
  pub session : BrokerSession
  pub there : session_at key ts ≡ Some session
  pub own : taken ≡ session.end
  pub after : vs ≡ with_server key back ts

pub swapped : (key : ℕ) (ts us vs : List BrokerSession) (blank taken back : EndState) → us ≡ with_server key blank ts → is_some (session_at key ts) ≡ true → IfSome (session_at key ts) (λ s. taken ≡ s.end)
    → vs ≡ with_server key back us → IsSwapped key taken back ts vs
swapped key ts us vs blank taken back first stands says second = go (session_at key ts) refl stands says
  where
    go : (o : Option BrokerSession) → session_at key ts ≡ o → is_some o ≡ true → IfSome o (λ s. taken ≡ s.end) → IsSwapped key taken back ts vs
    go None e some is = absurd (true≢false (sym some))
    go (Some s) e some is = record { session = s; there = e; own = is; after = second ∙ ap (with_server key back) first ∙ served_twice key blank back ts }

pub is_greeted : (c : Connect) (now key : ℕ) (taken back : EndState) (ts vs : List BrokerSession) → IsSwapped key taken back ts vs → (room : Room) × (back ≡ connected_end c now (roomed room taken))
    → HasConnected c now key ts vs
is_greeted c now key taken back ts vs s p = record {
  session = s.session;
  there = s.there;
  room = p.0;
  after = s.after ∙ ap (λ (e : EndState). with_server key e ts) (p.1 ∙ ap (λ (e : EndState). connected_end c now (roomed p.0 e)) s.own);
}

pub is_roomed : (key : ℕ) (taken back : EndState) (ts vs : List BrokerSession) → IsSwapped key taken back ts vs → (room : Room) × (back ≡ roomed room taken) → IsRoomed key ts vs
is_roomed key taken back ts vs s p = record {
  session = s.session;
  there = s.there;
  room = p.0;
  after = s.after ∙ ap (λ (e : EndState). with_server key e ts) (p.1 ∙ ap (roomed p.0) s.own);
}
