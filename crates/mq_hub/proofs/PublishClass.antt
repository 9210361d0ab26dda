-- A PUBLISH of a connected client.
use Rattle.std.proofs.Common.{◌≡◌, ℕ, Bool, true, List, Option, Some, None, is_some, sym, ap, ◌∙◌}
use Rattle.mq_packet.specs.declared.packet.Packet.TheVariants as packets
use Rattle.mq_packet.specs.Publication.{Publication}
use Rattle.mq_end.specs.declared.reason.CloseReason.{CloseReason}
use Rattle.mq_end.specs.declared.reason.CloseReason.TheVariants as reasons
use Rattle.mq_end.specs.End.{Reply, closes, is_up}
use Rattle.mq_end.specs.Server.{server_gets}
use Rattle.mq_route.specs.declared.act.Act.{Act}
use Rattle.mq_route.specs.declared.close.HubClose.TheVariants.{Own}
use Rattle.mq_route.specs.declared.config.HubConfig.{HubConfig}
use Rattle.mq_route.specs.declared.conn.Conn.{Conn}
use Rattle.mq_route.specs.Arrives.{replies, on_connected_packet}
use Rattle.mq_route.specs.Hub.{HubState, HubConnection, end_of, key_on, stage_of, up_on}
use Rattle.mq_route.specs.Work.{Work, close, put_on}
use Rattle.mq_tables.specs.declared.sessions.session.BrokerSession.{BrokerSession}
use Rattle.mq_tables.specs.Tables.{HubTables}
use Rattle.mq_tables.specs.Sessions.{session_at}
use Rattle.mq_tables.proofs.SessionRoom.{all_there}
use Rattle.mq_hub.specs.declared.publish.reception.Reception.TheVariants.{WindowFull}
use Rattle.mq_hub.specs.Inside.Refinement.{Refines}
use Rattle.mq_hub.specs.Inside.Invariant.{HubInvariant, SessionMatchesConnection}
use Rattle.mq_hub.specs.Inside.Reception.{CanReceive, IsReceived}
use Rattle.mq_hub.proofs.MalformedBytes.{put_nothing}
use Rattle.mq_hub.proofs.ConnectionChange.{up_there}
use Rattle.mq_hub.proofs.TakenOutput.{is_up_for}
use Rattle.mq_hub.proofs.GrantedRows.{up_end}

-- ---- the end of a session

pub none_there : (key : ℕ) (t : BrokerSession) (ts : List BrokerSession) → session_at key ts ≡ Some t → session_at key ts ≡ None → ⊥
none_there key t ts there none = let e : Some t ≡ None = sym there ∙ none in absurd cc

-- ---- the end of a connected client

pub can_receive : (config : HubConfig) (next : ℕ) (t : HubTables) → HubInvariant config next t → (key : ℕ) (k : Conn) → up_on key t.connections.connections ≡ Some k
    → CanReceive key config.window t.sessions.list
can_receive config next t kept key k on =
    let e = up_end config next t kept key k on in
    let boxed = all_there (SessionMatchesConnection config t.connections.connections) key e.session t.sessions.list kept.fitting e.there in
    record { session = e.session; there = e.there; up = ap is_up e.state; known = e.known; window = boxed.window }

-- a client is connected on its connection
pub up_by : (k : Conn) (key : ℕ) (xs : List HubConnection) → key_on (stage_of k xs) ≡ Some key → is_some (up_on key xs) ≡ true
up_by k key xs on = let at = is_up_for key (stage_of k xs) on in up_there k key at.terms at.last_activity xs at.is

-- its end closes and sends nothing
pub unfit_goes : (old : HubState) (key : ℕ) (p : Publication) → IsReceived WindowFull p (end_of key old.sessions)
    → (conn : Conn) (fits : Bool) (new : HubState) (did says : List Act) → Refines (close conn (Own reasons.Window) fits) old did new says → Refines (on_connected_packet conn key (packets.Publish p) fits) old did new says
unfolding replies
unfit_goes old key p unfit conn fits new did says goes = record {
  hub = λ w e f. ap (λ (v : Work). v.hub) (is w e) ∙ goes.hub w e f;
  did = λ w e f. ap (λ (v : Work). v.did) (is w e) ∙ goes.did w e f;
}
  where
    closed : (w : Work) → w.hub ≡ old → server_gets (packets.Publish p) (end_of key w.hub.sessions) ≡ closes reasons.Window (end_of key old.sessions)
    closed w e = ap (λ (h : HubState). server_gets (packets.Publish p) (end_of key h.sessions)) e ∙ unfit

    is : (w : Work) → w.hub ≡ old → on_connected_packet conn key (packets.Publish p) fits w ≡ close conn (Own reasons.Window) fits w
    is w e =
        ap (λ (o : Option CloseReason). replies conn key (server_gets (packets.Publish p)) o fits w) (ap (λ (r : Reply). r.close) (closed w e))
        ∙ ap (λ (r : Reply). close conn (Own reasons.Window) fits (put_on conn r.out w)) (closed w e)
        ∙ ap (close conn (Own reasons.Window) fits) (put_nothing conn w)
