-- Laws of every run of a broker.
use Rattle.std.specs.Prelude.{◌≡◌, ℕ, ◌+◌, ◌≤◌, Bool, true, false, List, [], ◌∷◌, ◌++◌, length, filter, max, Some, None, is_some, ◌==◌, if◌then◌else◌}
use Rattle.std.specs.List.{list_any}
use Rattle.mq_packet.specs.declared.message.Message.{Message}
use Rattle.mq_packet.specs.declared.packet.Packet.{Packet}
use Rattle.mq_packet.specs.declared.packet.Packet.TheVariants as packets
use Rattle.mq_packet.specs.Encoding.{encodings}
use Rattle.mq_flow.specs.Receiver.{none_received}
use Rattle.mq_route.specs.declared.act.Act.{Act}
use Rattle.mq_route.specs.declared.act.Act.TheVariants as acts
use Rattle.mq_route.specs.declared.conn.Conn.{Conn}
use Rattle.mq_route.specs.declared.config.HubConfig.{HubConfig}
use Rattle.mq_route.specs.declared.config.WhenFull.TheVariants.{ClosePublisher}
use Rattle.mq_route.specs.declared.event.HubEvent.{HubEvent}
use Rattle.mq_route.specs.declared.reply.HubReply.{HubReply}
use Rattle.mq_route.specs.Routed.{routed, placed, missed, settled, taken, seen, copies_for}
use Rattle.mq_route.specs.Hub.{HubState, new_hub, knows, stage_of, is_for, waiting_on, copies_of}
use Rattle.mq_route.specs.Step.{HubStep}
use Rattle.mq_route.specs.Runs.{Episode, Follows, Stays, acts_of, sent_in, came_in, on_conn, is_on, written}
use Rattle.mq_route.specs.Taken.{handed_from, of_client}

-- the messages for one client among copies
abbrev pub for_client : ℕ → List (ℕ × Message) → List Message
for_client client [] = []
for_client client (first ∷ rest) = if first.0 == client then first.1 ∷ for_client client rest else for_client client rest

pub record RoutingLaws : Type 0 where
  -- the messages that were placed for a client or that it missed, in the order of the acts, are
  -- those that the acts route to it
  pub settled_is_routed : (config : HubConfig) (episodes : List Episode) (hub : HubState) → Follows (new_hub config) episodes hub
      → (client : ℕ) → settled client (acts_of episodes) ≡ routed client (acts_of episodes)
  -- under ClosePublisher and without a limit on pending output, nothing is missed
  pub nothing_missed : (config : HubConfig) → config.when_full ≡ ClosePublisher → config.most_waiting ≡ None → (episodes : List Episode) (hub : HubState) → Follows (new_hub config) episodes hub
      → (client : ℕ) → missed client (acts_of episodes) ≡ []
  -- so the messages placed for a client are those that the acts route to it
  pub placed_is_routed : (config : HubConfig) → config.when_full ≡ ClosePublisher → config.most_waiting ≡ None → (episodes : List Episode) (hub : HubState) → Follows (new_hub config) episodes hub
      → (client : ℕ) → placed client (acts_of episodes) ≡ routed client (acts_of episodes)
  -- the copies that a message makes due now are those that would be routed
  pub due_is_routed : (config : HubConfig) (episodes : List Episode) (hub : HubState) → Follows (new_hub config) episodes hub
      → (client : ℕ) (message : Message) → for_client client (copies_of message hub) ≡ copies_for client (seen client (acts_of episodes)) message

pub record TakingLaws : Type 0 where
  -- the messages taken from a client are those that a receiver's book delivers from its packets
  pub taken_is_handed : (config : HubConfig) (episodes : List Episode) (hub : HubState) → Follows (new_hub config) episodes hub
      → (client : ℕ) → taken client (acts_of episodes) ≡ handed_from none_received (of_client client (came_in episodes))

-- the act places a copy for the client that is connected on a connection
unfoldable pub places_on : Conn → HubState → Act → Bool
places_on conn hub (acts.Placed client message) = is_for client (stage_of conn hub.connections)
places_on conn hub (acts.Missed client message) = false
places_on conn hub (acts.Took publisher message) = false
places_on conn hub (acts.Will publisher message) = false
places_on conn hub (acts.Subscribed client topic_filter qos) = false
places_on conn hub (acts.Unsubscribed client topic_filter) = false
places_on conn hub (acts.Up other client present) = false
places_on conn hub (acts.Closed other why) = false
places_on conn hub (acts.Removed client) = false
places_on conn hub (acts.WillDropped client) = false

-- a packet that is no PUBLISH of QoS 0, which alone has no packet identifier (2.3.1)
abbrev pub is_no_plain_publish : Packet → Bool
is_no_plain_publish (packets.Publish publication) = is_some publication.delivery
is_no_plain_publish packet = true

pub record OutputLaws : Type 0 where
  -- from any time in a run, until a connection ends: its written bytes and its pending output are
  -- the output that was pending, and the encodings of the packets that are sent on it
  pub written_is_put_out : (config : HubConfig) (before : List Episode) (hub : HubState) (after : List Episode) (later_hub : HubState)
      → Follows (new_hub config) before hub → Follows hub after later_hub
      → (conn : Conn) → Stays conn after → knows conn hub.connections ≡ true
      → written conn after ++ waiting_on conn later_hub.connections ≡ waiting_on conn hub.connections ++ encodings (on_conn conn (sent_in after))
  -- a step changes the pending output of a connection only if its event is on the connection, or if
  -- it places a copy for the client that is connected on the connection before the step
  pub others_unchanged : (config : HubConfig) (before : List Episode) (hub : HubState) → Follows (new_hub config) before hub
      → (event : HubEvent) (reply : HubReply) (later_hub : HubState) → HubStep hub event reply later_hub
      → (conn : Conn) → is_on conn event ≡ false → list_any (places_on conn hub) reply.acts ≡ false
      → waiting_on conn later_hub.connections ≡ waiting_on conn hub.connections
  -- from any time in a run, until a connection ends: its pending output is at most the limit on it,
  -- or the output that was pending, with the packets that are sent on it and no PUBLISH of QoS 0
  pub waiting_within : (config : HubConfig) (most : ℕ) → config.most_waiting ≡ Some most → (before : List Episode) (hub : HubState) (after : List Episode) (later_hub : HubState)
      → Follows (new_hub config) before hub → Follows hub after later_hub
      → (conn : Conn) → Stays conn after → knows conn hub.connections ≡ true
      → length (waiting_on conn later_hub.connections)
      ≤ max most (length (waiting_on conn hub.connections)) + length (encodings (filter is_no_plain_publish (on_conn conn (sent_in after))))
