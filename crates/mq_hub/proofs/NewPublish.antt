-- A PUBLISH whose message is new, from the publisher's end to the subscribers.
use Rattle.std.proofs.Common.{◌≡◌, ℕ, Bool, true, false, cond, List, [], Option, Some, None, is_some, sym, ap, subst, ◌∙◌}
use Rattle.std.specs.List.{flat_map}
use Rattle.mq_topic.specs.Rows.{matched}
use Rattle.mq_packet.specs.declared.message.Message.{Message}
use Rattle.mq_packet.specs.declared.publish.Delivery.{Delivery}
use Rattle.mq_packet.specs.declared.packet.Packet.TheVariants as packets
use Rattle.mq_packet.specs.Publication.{Publication}
use Rattle.mq_end.specs.declared.happening.Happening.TheVariants as happens
use Rattle.mq_end.specs.Server.{server_gets}
use Rattle.mq_route.specs.declared.act.Act.{Act}
use Rattle.mq_route.specs.declared.act.Act.TheVariants as acts
use Rattle.mq_route.specs.declared.close.HubClose.TheVariants.{TargetFull}
use Rattle.mq_route.specs.declared.config.HubConfig.{HubConfig}
use Rattle.mq_route.specs.declared.conn.Conn.{Conn}
use Rattle.mq_route.specs.Arrives.{answers, on_connected_packet}
use Rattle.mq_route.specs.Copies.{copy_by, is_hidden_name}
use Rattle.mq_route.specs.Hub.{HubState, copies_of, end_of, for_key, up_on}
use Rattle.mq_route.specs.Work.{close, does, have_room, deliver}
use Rattle.mq_tables.specs.declared.sessions.call.Call.TheVariants.{Takes}
use Rattle.mq_tables.specs.Calls.{CanServe}
use Rattle.mq_tables.specs.Connections.{ConnectionList}
use Rattle.mq_tables.specs.Tables.{HubTables}
use Rattle.mq_tables.specs.Sessions.{sessions_of}
use Rattle.mq_hub.specs.declared.publish.reception.Reception.TheVariants.{New}
use Rattle.mq_hub.specs.Inside.Requests.{AreAlike, Answers}
use Rattle.mq_hub.specs.Inside.Refinement.{Refines}
use Rattle.mq_hub.specs.Inside.Invariant.{HubInvariant}
use Rattle.mq_hub.specs.Inside.Reception.{IsReceived}
use Rattle.mq_hub.specs.Inside.View.{hub_of}
use Rattle.mq_hub.specs.Inside.DeliveryPlan.{AreTablesAlike}
use Rattle.mq_hub.proofs.ConnectionChange.{up_seen}
use Rattle.mq_hub.proofs.Refinements.{goes_then}
use Rattle.mq_hub.proofs.GrantedRows.{can_take}
use Rattle.mq_hub.proofs.OtherRoom as rooms
use Rattle.mq_hub.proofs.DeliveryInvariant.{hub_alike, kept_alike}
use Rattle.mq_hub.proofs.PacketSteps.{full_goes, kept_taken, taken_goes, telling_goes}

-- ---- the copies that are due stay while only ends change

copies_by : (m : Message) (h g : HubState) → h.rows ≡ g.rows → ((key : ℕ) → up_on key h.connections ≡ up_on key g.connections) → copies_of m h ≡ copies_of m g
unfolding copies_of
copies_by m h g rows up =
    λ i. cond (is_hidden_name m.topic) [] (flat_map (λ found. for_key found.0 (copy_by (is_some (up found.0 i)) m (Some found.1))) (matched m.topic (rows i)))

-- ---- a PUBLISH that was taken apart and put together again

pub handed_as : (m n : Publication) (h g : HubState) (key : ℕ) → n ≡ m → g ≡ h → IsReceived New m (end_of key h.sessions)
    → IsReceived New n (end_of key g.sessions)
handed_as m n h g key same hub handed =
    subst (λ (p : Publication). IsReceived New p (end_of key g.sessions)) (sym same)
    (subst (λ (s : HubState). IsReceived New m (end_of key s.sessions)) (sym hub) handed)

pub taken_as : (n m : Publication) (key now : ℕ) (p u : HubTables) → n ≡ m → Answers key (Takes now (packets.Publish n)) p.rows p u
    → Answers key (Takes now (packets.Publish m)) p.rows p u
taken_as n m key now p u same = subst (λ (x : Publication). Answers key (Takes now (packets.Publish x)) p.rows p u) same

-- the PUBLISH of which a message and a delivery were taken
abbrev pub publish_of : Message → Option Delivery → Publication
publish_of m delivery = record { message = m; delivery = delivery }

pub same_publish : (p : Publication) (m : Message) (delivery : Option Delivery) → m ≡ p.message → delivery ≡ p.delivery → publish_of m delivery ≡ p
same_publish p m delivery is_message is_delivery = λ i. publish_of (is_message i) (is_delivery i)

-- ---- a PUBLISH at tables that were made ready for it

module _ (config : HubConfig) (clock next key : ℕ) (t p : HubTables) (kept : HubInvariant config next t) (alike : AreTablesAlike t p) (conn : Conn)
    (on : up_on key t.connections.connections ≡ Some conn) (m : Publication) where
  abbrev old : HubState
  old = hub_of config clock next t

  pub kept_ready : HubInvariant config next p
  kept_ready = kept_alike config next t p alike kept

  pub same_ready : hub_of config clock next p ≡ old
  same_ready = hub_alike config clock next t p alike

  on_ready : up_on key p.connections.connections ≡ Some conn
  on_ready = ap (λ (l : ConnectionList). up_on key l.connections) alike.connections ∙ on

  pub can_hand : CanServe key (Takes clock (packets.Publish m)) p.sessions.list
  can_hand = can_take config next p kept_ready key conn on_ready clock (packets.Publish m)

  module _ (handed : IsReceived New m (end_of key old.sessions)) where
    pub stays_ready : (server_gets (packets.Publish m) (end_of key (sessions_of p.sessions.list))).close ≡ None
    stays_ready = ap (λ (h : HubState). (server_gets (packets.Publish m) (end_of key h.sessions)).close) same_ready ∙ handed.0

    module _ (u : HubTables) (a : Answers key (Takes clock (packets.Publish m)) p.rows p u) where
      pub kept_handed : HubInvariant config next u
      kept_handed = kept_taken config next key p u kept_ready conn on_ready clock (packets.Publish m) a stays_ready

      pub copies_handed : copies_of m.message (hub_of config clock next u) ≡ copies_of m.message old
      copies_handed =
          copies_by m.message (hub_of config clock next u) (hub_of config clock next p) a.rows
          (λ c. up_seen c u.sessions.list u.connections.connections ∙ ap (λ (l : ConnectionList). up_on c l.connections) a.connections ∙ sym (up_seen c p.sessions.list p.connections.connections))
          ∙ ap (copies_of m.message) same_ready

      pub handed_goes : (k : Conn) (fits : Bool) (new : HubState) (did says : List Act) → have_room (copies_of m.message old) old ≡ true
          → Refines (deliver (acts.Took key m.message) m.message) (hub_of config clock next u) did new says
          → Refines (on_connected_packet k key (packets.Publish m) fits) old did new says
      unfolding answers
      handed_goes k fits new did says room goes =
          let get = server_gets (packets.Publish m) in
          telling_goes k key (packets.Publish m) fits old new did says handed.0 (happens.Handed m.message) handed.1 room
          (goes_then (does key get) (deliver (acts.Took key m.message) m.message) old (hub_of config clock next u) new did did says
          (subst (λ (h : HubState). Refines (does key get) h did (hub_of config clock next u) did) same_ready
          (taken_goes config next key p u kept_ready conn on_ready clock (packets.Publish m) a clock did)) goes)

    pub unhanded_goes : (k : Conn) (fits : Bool) (new : HubState) (did says : List Act) → have_room (copies_of m.message old) old ≡ false
        → Refines (close k TargetFull fits) old did new says → Refines (on_connected_packet k key (packets.Publish m) fits) old did new says
    unhanded_goes k fits new did says room goes =
        full_goes k key (packets.Publish m) fits old new did says handed.0 (happens.Handed m.message) handed.1 room goes

  -- if an allocation fails it is unchanged
  module _ (u : HubTables) (a : AreAlike p u) where
    pub kept_unhanded : HubInvariant config next u
    kept_unhanded = rooms.kept_alike config next p kept_ready u a

    pub same_unhanded : hub_of config clock next u ≡ old
    same_unhanded = rooms.hub_alike config next p kept_ready clock u a ∙ same_ready
