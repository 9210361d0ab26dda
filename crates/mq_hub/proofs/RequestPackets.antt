-- A packet of a connected client whose end only reports a request, or closes.
use Rattle.std.proofs.Common.{◌≡◌, ℕ, Bool, true, false, List, ◌++◌, Option, Some, refl, sym, ap, subst, ◌∙◌, append-nil, true≢false}
use Rattle.std.proofs.lemmas.Bool.{cond-true, cond-false}
use Rattle.mq_packet.specs.declared.packet.Packet.{Packet}
use Rattle.mq_packet.specs.declared.packet.Packet.TheVariants as packets
use Rattle.mq_packet.specs.Encoding.{encodings}
use Rattle.mq_end.specs.declared.happening.Happening.{Happening}
use Rattle.mq_end.specs.declared.reason.CloseReason.{CloseReason}
use Rattle.mq_end.specs.declared.state.State.{State}
use Rattle.mq_end.specs.declared.state.State.TheVariants.{Disconnected, Connecting, Connected}
use Rattle.mq_end.specs.End.{End, Reply, closes, is_up, reports_event}
use Rattle.mq_end.specs.Server.{server_gets, server_up_gets}
use Rattle.mq_route.specs.declared.act.Act.{Act}
use Rattle.mq_route.specs.declared.close.HubClose.TheVariants.{Own, TargetFull, TooManyMatches}
use Rattle.mq_route.specs.declared.config.HubConfig.{HubConfig}
use Rattle.mq_route.specs.declared.conn.Conn.{Conn}
use Rattle.mq_route.specs.Arrives.{answers, due_by, is_too_broad, replies, on_connected_packet, on_passed_packet}
use Rattle.mq_route.specs.Hub.{HubState, end_of, up_on}
use Rattle.mq_route.specs.Work.{Work, close, does, have_room, put_on}
use Rattle.mq_tables.specs.declared.sessions.session.BrokerSession.{BrokerSession}
use Rattle.mq_tables.specs.Calls.{Replies}
use Rattle.mq_tables.specs.Tables.{HubTables}
use Rattle.mq_tables.specs.Sessions.{with_server}
use Rattle.mq_tables.proofs.EndCalls.{same_ends}
use Rattle.mq_tables.proofs.SessionRoom.{same_change}
use Rattle.mq_hub.specs.Inside.Requests.{RequestsNothing}
use Rattle.mq_hub.specs.Inside.Refinement.{Refines}
use Rattle.mq_hub.specs.Inside.Invariant.{HubInvariant}
use Rattle.mq_hub.specs.Inside.Placement.{with_list}
use Rattle.mq_hub.specs.Inside.View.{hub_of}
use Rattle.mq_hub.proofs.MalformedBytes.{put_nothing}
use Rattle.mq_hub.proofs.Refinements.{goes_then}
use Rattle.mq_hub.proofs.GrantedRows.{IsUpEnd, up_end}
use Rattle.mq_hub.proofs.EndReplies.{end_there, gets_up, replied_goes}
use Rattle.mq_hub.proofs.PacketSteps.{full_goes, telling_goes}

module _ (config : HubConfig) (clock next key : ℕ) (t : HubTables) (kept : HubInvariant config next t) (k : Conn) (on : up_on key t.connections.connections ≡ Some k) where
  abbrev old : HubState
  old = hub_of config clock next t

  pub at : IsUpEnd config key t.sessions.list
  at = up_end config next t kept key k on

  -- the end of the client is connected
  pub gets_at : (p : Packet) → server_gets p (end_of key old.sessions) ≡ server_up_gets p at.session.end.end
  gets_at p = ap (server_gets p) (end_there key at.session t.sessions.list at.there) ∙ gets_up p at.session.end.end at.state

  module _ (p : Packet) (h : Happening) (asks : (e : End) → server_up_gets p e ≡ reports_event h e) where
    told : server_gets p at.session.end.end ≡ reports_event h at.session.end.end
    told = gets_up p at.session.end.end at.state ∙ asks at.session.end.end

    told_at : server_gets p (end_of key old.sessions) ≡ reports_event h at.session.end.end
    told_at = gets_at p ∙ asks at.session.end.end

    same : Replies (server_gets p at.session.end.end) at.session.end at.session.end
    same = record {
      end = ap (λ (r : Reply). r.end) (sym told);
      output = sym (ap (λ (r : Reply). at.session.end.output ++ encodings r.out) told ∙ append-nil at.session.end.output);
      capacity = refl;
      limit = refl;
    }

    -- it changes nothing
    unmoved : (did : List Act) → Refines (does key (server_gets p)) old did old did
    unmoved did =
        let e = at.session.end in
        let ts = t.sessions.list in
        let is : with_server key e ts ≡ ts = same_change (λ s. s) key at.session ts kept.ascending at.there ∙ same_ends key ts in
        subst (λ (xs : List BrokerSession). Refines (does key (server_gets p)) old did (hub_of config clock next (with_list xs t)) did) is
        (replied_goes config next key at.session e t at.there kept k on clock (server_gets p) same did)

    -- the request has its effect if there is room for the copies
    pub asked_goes : (conn : Conn) (fits : Bool) (new : HubState) (did says : List Act) → have_room (due_by key old h) old ≡ true → Refines (answers conn key h) old did new says
        → Refines (on_passed_packet conn key p fits) old did new says
    asked_goes conn fits new did says room goes =
        telling_goes conn key p fits old new did says (ap (λ (r : Reply). r.close) told_at) h (ap (λ (r : Reply). r.happenings) told_at) room
        (goes_then (does key (server_gets p)) (answers conn key h) old old new did did says (unmoved did) goes)

    pub unasked_goes : (conn : Conn) (fits : Bool) (new : HubState) (did says : List Act) → have_room (due_by key old h) old ≡ false → Refines (close conn TargetFull fits) old did new says
        → Refines (on_passed_packet conn key p fits) old did new says
    unasked_goes conn fits new did says room goes =
        full_goes conn key p fits old new did says (ap (λ (r : Reply). r.close) told_at) h (ap (λ (r : Reply). r.happenings) told_at) room goes

-- ---- a SUBSCRIBE that is too broad, and any other packet

-- a packet that is not too broad is passed to the client's end
pub narrow_goes : (conn : Conn) (key : ℕ) (p : Packet) (fits : Bool) (old new : HubState) (did says : List Act) → is_too_broad p old ≡ false
    → Refines (on_passed_packet conn key p fits) old did new says → Refines (on_connected_packet conn key p fits) old did new says
narrow_goes conn key p fits old new did says narrow goes =
    let is : (w : Work) → w.hub ≡ old → on_connected_packet conn key p fits w ≡ on_passed_packet conn key p fits w =
    λ w at. cond-false (is_too_broad p w.hub) (close conn TooManyMatches fits w) (on_passed_packet conn key p fits w) (ap (is_too_broad p) at ∙ narrow) in record {
      hub = λ w at said. ap (λ (v : Work). v.hub) (is w at) ∙ goes.hub w at said;
      did = λ w at said. ap (λ (v : Work). v.did) (is w at) ∙ goes.did w at said;
    }

-- one that is too broad closes its connection
pub broad_goes : (conn : Conn) (key : ℕ) (p : Packet) (fits : Bool) (old new : HubState) (did says : List Act) → is_too_broad p old ≡ true
    → Refines (close conn TooManyMatches fits) old did new says → Refines (on_connected_packet conn key p fits) old did new says
broad_goes conn key p fits old new did says broad goes =
    let is : (w : Work) → w.hub ≡ old → on_connected_packet conn key p fits w ≡ close conn TooManyMatches fits w =
    λ w at. cond-true (is_too_broad p w.hub) (close conn TooManyMatches fits w) (on_passed_packet conn key p fits w) (ap (is_too_broad p) at ∙ broad) in record {
      hub = λ w at said. ap (λ (v : Work). v.hub) (is w at) ∙ goes.hub w at said;
      did = λ w at said. ap (λ (v : Work). v.did) (is w at) ∙ goes.did w at said;
    }

-- a packet that requests nothing is not too broad
pub narrow : (p : Packet) (h : HubState) → RequestsNothing p → is_too_broad p h ≡ false
narrow (packets.Subscribe i requests) h none = absurd none
narrow p h none = refl

-- ---- a connected end that closes or reports nothing

up_is : (s : State) → is_up s ≡ true → s ≡ Connected
up_is Disconnected up = absurd (true≢false (sym up))
up_is Connecting up = absurd (true≢false (sym up))
up_is Connected up = refl

pub got_up : (p : Packet) (e : End) → is_up e.state ≡ true → server_gets p e ≡ server_up_gets p e
got_up p e up = gets_up p e (up_is e.state up)

-- the end closes and sends nothing
pub closing_goes : (old : HubState) (key : ℕ) → is_up (end_of key old.sessions).state ≡ true → (p : Packet) (reason : CloseReason) → ((e : End) → server_up_gets p e ≡ closes reason e)
    → (conn : Conn) (fits : Bool) (new : HubState) (did says : List Act) → Refines (close conn (Own reason) fits) old did new says → Refines (on_passed_packet conn key p fits) old did new says
unfolding replies
closing_goes old key up p reason ends conn fits new did says goes = record {
  hub = λ w e f. ap (λ (v : Work). v.hub) (is w e) ∙ goes.hub w e f;
  did = λ w e f. ap (λ (v : Work). v.did) (is w e) ∙ goes.did w e f;
}
  where
    closed : (w : Work) → w.hub ≡ old → server_gets p (end_of key w.hub.sessions) ≡ closes reason (end_of key old.sessions)
    closed w e = ap (λ (h : HubState). server_gets p (end_of key h.sessions)) e ∙ got_up p (end_of key old.sessions) up ∙ ends (end_of key old.sessions)

    is : (w : Work) → w.hub ≡ old → on_passed_packet conn key p fits w ≡ close conn (Own reason) fits w
    is w e =
        ap (λ (o : Option CloseReason). replies conn key (server_gets p) o fits w) (ap (λ (r : Reply). r.close) (closed w e))
        ∙ ap (λ (r : Reply). close conn (Own reason) fits (put_on conn r.out w)) (closed w e)
        ∙ ap (close conn (Own reason) fits) (put_nothing conn w)
