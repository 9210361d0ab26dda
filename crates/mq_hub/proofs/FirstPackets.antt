-- The first packet of a connection, in terms of the step's definition.
use Rattle.std.proofs.Common.{◌≡◌, ℕ, Bool, true, false, List, [], ◌∷◌, refl, sym, ap, ap₂, ◌∙◌, append-nil, true≢false}
use Rattle.std.proofs.lemmas.Bool.{cond-true, cond-false, cond_both}
use Rattle.mq_packet.specs.declared.connack.RefusalCode.TheVariants.{UnacceptableProtocolVersion}
use Rattle.mq_packet.specs.declared.packet.Packet.{Packet}
use Rattle.mq_packet.specs.declared.packet.Packet.TheVariants as packets
use Rattle.mq_decode.specs.declared.fault.DecodeFault.{DecodeFault}
use Rattle.mq_end.specs.declared.reason.CloseReason.TheVariants as reasons
use Rattle.mq_end.specs.End.{Reply, closes}
use Rattle.mq_end.specs.Server.{level_refused, opens}
use Rattle.mq_end.specs.State.{is_level, server_faulted}
use Rattle.mq_route.specs.declared.act.Act.{Act}
use Rattle.mq_route.specs.declared.close.HubClose.TheVariants.{Own}
use Rattle.mq_route.specs.declared.conn.Conn.{Conn}
use Rattle.mq_route.specs.declared.connection_state.ConnectionState.{ConnectionState}
use Rattle.mq_route.specs.declared.connection_state.ConnectionState.TheVariants.{AwaitingConnect}
use Rattle.mq_route.specs.Hub.{HubState, HubConnection, changed, end_on, is_connection, no_end, stage_of, with_connection}
use Rattle.mq_route.specs.Work.{Work, close, put_on}
use Rattle.mq_route.specs.Arrives.{arrives, on_first_packet, on_malformed, broken, closes_by, dispatch_packet, touched, touched_on, on_packet}
use Rattle.mq_tables.proofs.ConnectionTable.{unknown}
use Rattle.mq_hub.specs.Inside.Refinement.{Refines}
use Rattle.mq_hub.specs.Inside.Invariant.{AreApart}
use Rattle.mq_hub.specs.Inside.ConnectChecks.{is_connect, refused}
use Rattle.mq_hub.proofs.ConnectionChange.{rest_unknown}
use Rattle.mq_hub.proofs.Refinements.{goes_then, goes_to}
use Rattle.mq_hub.proofs.RefusedConnect.{grown}

-- ---- changes that agree

pub goes_as : (f g : Work → Work) (h k : HubState) (x y : List Act) → ((w : Work) → w.hub ≡ h → g w ≡ f w) → Refines f h x k y → Refines g h x k y
goes_as f g h k x y same p = record {
  hub = λ w e d. ap (λ (v : Work). v.hub) (same w e) ∙ p.hub w e d;
  did = λ w e d. ap (λ (v : Work). v.did) (same w e) ∙ p.did w e d;
}

-- ---- no packet is sent

grown_none : (k : Conn) (x : HubConnection) → changed (grown []) k x ≡ x
grown_none k x = cond_both (is_connection k x) (grown [] x) x (λ (y : HubConnection). y ≡ x) (λ e. ap (λ (b : List ℕ). record x { waiting = b }) (append-nil x.waiting)) (λ e. refl)

all_grown_none : (k : Conn) (xs : List HubConnection) → with_connection (grown []) k xs ≡ xs
all_grown_none k [] = refl
all_grown_none k (x ∷ xs) = ap₂ (λ (y : HubConnection) (ys : List HubConnection). y ∷ ys) (grown_none k x) (all_grown_none k xs)

pub goes_put_none : (k : Conn) (h : HubState) (did : List Act) → Refines (put_on k []) h did h did
unfolding put_on
goes_put_none k h did =
    goes_to (put_on k []) h h did (λ w e. ap (λ (s : HubState). record s { connections = with_connection (grown []) k s.connections }) e ∙ ap (λ (xs : List HubConnection). record h { connections = xs }) (all_grown_none k h.connections))
    (λ w. refl)

-- ---- malformed bytes

broken_is : (k : Conn) (fault : DecodeFault) (w : Work) → stage_of k w.hub.connections ≡ AwaitingConnect → broken k fault w ≡ server_faulted fault (opens no_end).end
broken_is k fault w at = ap (λ (s : ConnectionState). server_faulted fault (end_on s w.hub.sessions)) at

by_level : (fault : DecodeFault) → is_level fault.kind ≡ true → server_faulted fault (opens no_end).end ≡ level_refused (opens no_end).end
by_level fault e = cond-true (is_level fault.kind) (level_refused (opens no_end).end) (closes (reasons.Fault fault) (opens no_end).end) e

by_fault : (fault : DecodeFault) → is_level fault.kind ≡ false → server_faulted fault (opens no_end).end ≡ closes (reasons.Fault fault) (opens no_end).end
by_fault fault e = cond-false (is_level fault.kind) (level_refused (opens no_end).end) (closes (reasons.Fault fault) (opens no_end).end) e

module _ (k : Conn) (fault : DecodeFault) (fits : Bool) (h g : HubState) (did says : List Act) (at : stage_of k h.connections ≡ AwaitingConnect) where
  pub goes_broken_level : is_level fault.kind ≡ true → Refines (refused k UnacceptableProtocolVersion fits) h did g says → Refines (on_malformed k fault fits) h did g says
  unfolding on_malformed
  goes_broken_level e p =
      goes_as (refused k UnacceptableProtocolVersion fits) (on_malformed k fault fits) h g did says
      (λ w is. ap (λ (r : Reply). closes_by k r.close fits (put_on k r.out w)) (broken_is k fault w (ap (λ (s : HubState). stage_of k s.connections) is ∙ at) ∙ by_level fault e)) p

  pub goes_broken : is_level fault.kind ≡ false → Refines (close k (Own (reasons.Fault fault)) fits) h did g says → Refines (on_malformed k fault fits) h did g says
  unfolding on_malformed
  goes_broken e p =
      goes_as (λ w. close k (Own (reasons.Fault fault)) fits (put_on k [] w)) (on_malformed k fault fits) h g did says
      (λ w is. ap (λ (r : Reply). closes_by k r.close fits (put_on k r.out w)) (broken_is k fault w (ap (λ (s : HubState). stage_of k s.connections) is ∙ at) ∙ by_fault fault e))
      (goes_then (put_on k []) (close k (Own (reasons.Fault fault)) fits) h h g did did says (goes_put_none k h did) p)

-- ---- a packet

heard_fresh : (now : ℕ) (x : HubConnection) → x.stage ≡ AwaitingConnect → record x { stage = touched now x.stage } ≡ x
heard_fresh now x fresh = λ i. record x { stage = to i }
  where
    to : touched now x.stage ≡ x.stage
    to = ap (touched now) fresh ∙ sym fresh

-- a connection that waits for its CONNECT records no time
heard_same : (now : ℕ) (k : Conn) (xs : List HubConnection) → AreApart xs → stage_of k xs ≡ AwaitingConnect → with_connection (λ x. record x { stage = touched now x.stage }) k xs ≡ xs
heard_same now k [] apart at = refl
heard_same now k (x ∷ xs) apart at = go (is_connection k x) refl (heard_same now k xs apart.2)
  where
    go : (b : Bool) → is_connection k x ≡ b → (stage_of k xs ≡ AwaitingConnect → with_connection (λ y. record y { stage = touched now y.stage }) k xs ≡ xs)
        → with_connection (λ y. record y { stage = touched now y.stage }) k (x ∷ xs) ≡ x ∷ xs
    go true same rest =
        let fresh : x.stage ≡ AwaitingConnect = sym (cond-true (is_connection k x) x.stage (stage_of k xs) same) ∙ at in
        ap₂ (λ (y : HubConnection) (ys : List HubConnection). y ∷ ys)
        (cond-true (is_connection k x) (record x { stage = touched now x.stage }) x same ∙ heard_fresh now x fresh)
        (unknown (λ y. record y { stage = touched now y.stage }) k xs (rest_unknown k x xs same apart.0))
    go false differ rest =
        ap₂ (λ (y : HubConnection) (ys : List HubConnection). y ∷ ys) (cond-false (is_connection k x) (record x { stage = touched now x.stage }) x differ)
        (rest (sym (cond-false (is_connection k x) x.stage (stage_of k xs) differ) ∙ at))

-- a first packet is processed
pub goes_first : (k : Conn) (p : Packet) (fits : Bool) (h g : HubState) (did says : List Act) → AreApart h.connections → stage_of k h.connections ≡ AwaitingConnect → Refines (on_first_packet k p fits) h did g says
    → Refines (on_packet k p (record { fits = true; will_fits = fits })) h did g says
unfolding on_packet arrives dispatch_packet
goes_first k p fits h g did says apart at q = record {
  hub = λ w e d. ap (λ (v : Work). v.hub) (to w e) ∙ q.hub (touched_on k w) (still w e) d;
  did = λ w e d. ap (λ (v : Work). v.did) (to w e) ∙ q.did (touched_on k w) (still w e) d;
}
  where
    to : (w : Work) → w.hub ≡ h → dispatch_packet k p fits (stage_of k w.hub.connections) (touched_on k w) ≡ on_first_packet k p fits (touched_on k w)
    to w e = ap (λ (s : ConnectionState). dispatch_packet k p fits s (touched_on k w)) (ap (λ (a : HubState). stage_of k a.connections) e ∙ at)

    still : (w : Work) → w.hub ≡ h → (touched_on k w).hub ≡ h
    still w e =
        ap (λ (a : HubState). record a { connections = with_connection (λ x. record x { stage = touched a.clock x.stage }) k a.connections }) e
        ∙ ap (λ (xs : List HubConnection). record h { connections = xs }) (heard_same h.clock k h.connections apart at)

-- a packet that is not CONNECT
pub goes_unexpected : (k : Conn) (p : Packet) (fits : Bool) (h g : HubState) (did says : List Act) → is_connect p ≡ false
    → Refines (close k (Own reasons.Unexpected) fits) h did g says → Refines (on_first_packet k p fits) h did g says
unfolding on_first_packet
goes_unexpected k (packets.Connect c) fits h g did says other q = absurd (true≢false other)
goes_unexpected k (packets.ConnAck a) fits h g did says other q = q
goes_unexpected k (packets.Publish m) fits h g did says other q = q
goes_unexpected k (packets.PubAck i) fits h g did says other q = q
goes_unexpected k (packets.PubRec i) fits h g did says other q = q
goes_unexpected k (packets.PubRel i) fits h g did says other q = q
goes_unexpected k (packets.PubComp i) fits h g did says other q = q
goes_unexpected k (packets.Subscribe i requests) fits h g did says other q = q
goes_unexpected k (packets.SubAck i codes) fits h g did says other q = q
goes_unexpected k (packets.Unsubscribe i filters) fits h g did says other q = q
goes_unexpected k (packets.UnsubAck i) fits h g did says other q = q
goes_unexpected k packets.PingReq fits h g did says other q = q
goes_unexpected k packets.PingResp fits h g did says other q = q
goes_unexpected k packets.Disconnect fits h g did says other q = q
