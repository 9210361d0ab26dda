-- The tables after a packet of a connected client.
use Rattle.std.specs.Prelude.{◌≡◌, ℕ, List, Ok}
use Rattle.mq_topic.specs.Rows.{Row}
use Rattle.mq_packet.specs.declared.packet.Packet.{Packet}
use Rattle.mq_packet.specs.declared.packet.Packet.TheVariants as packets
use Rattle.mq_packet.specs.declared.message.Message.{Message}
use Rattle.mq_packet.specs.declared.packet.Request.{Request}
use Rattle.mq_end.specs.declared.packet_outcome.PacketOutcome.{PacketOutcome}
use Rattle.mq_route.specs.declared.act.Act.{Act}
use Rattle.mq_route.specs.declared.config.HubConfig.{HubConfig}
use Rattle.mq_route.specs.Arrives.{granted}
use Rattle.mq_route.specs.Hub.{for_key}
use Rattle.mq_route.specs.Work.{retained_copies}
use Rattle.mq_tables.specs.declared.sessions.call.Call.{Call}
use Rattle.mq_tables.specs.declared.sessions.session.BrokerSession.{BrokerSession}
use Rattle.mq_tables.specs.declared.rules.CopyRules.{CopyRules}
use Rattle.mq_tables.specs.declared.sessions.call.Call.TheVariants.{Grants}
use Rattle.mq_tables.specs.Publishing.{AreSameButRoom, IsReadyAt}
use Rattle.mq_tables.specs.Tables.{HubTables}
use Rattle.mq_tables.specs.Calls.{ServesAt}
use Rattle.mq_tables.specs.Subscriptions.{with_rows}
use Rattle.mq_tables.specs.Rules.{rules_of}
use Rattle.mq_hub.specs.Inside.Placement.{placed_all, Settles}
use Rattle.mq_hub.specs.Inside.Invariant.{HubInvariant}

-- a packet is not PUBLISH, SUBSCRIBE or UNSUBSCRIBE, so that a connected end reports no request of
-- it
abbrev pub RequestsNothing : Packet → Type 0
RequestsNothing (packets.Publish packet) = ⊥
RequestsNothing (packets.Subscribe identifier requests) = ⊥
RequestsNothing (packets.Unsubscribe identifier filters) = ⊥
RequestsNothing packet = Unit {0}

-- The tables are the same, except for the room of their sessions.
pub record AreAlike (old new : HubTables) : Type 0 where
  pub rows : new.rows ≡ old.rows
  pub retained : new.retained ≡ old.retained
  pub sessions : AreSameButRoom old.sessions.list new.sessions.list
  pub connections : new.connections ≡ old.connections

-- The tables with these rows, after room was made in the sessions and one session's end served a
-- call.
pub record Answers (key : ℕ) (call : Call) (set : List Row) (old new : HubTables) : Type 0 where
  pub ready : List BrokerSession
  pub same : AreSameButRoom old.sessions.list ready
  pub outcome : PacketOutcome
  pub serves : ServesAt key call (Ok outcome) ready new.sessions.list
  pub rows : new.rows ≡ set
  pub retained : new.retained ≡ old.retained
  pub connections : new.connections ≡ old.connections

-- The tables after a SUBSCRIBE: its rows are set, SUBACK is queued, and then the retained messages
-- are settled, as the rules say. These messages are placed, and these acts report all.
pub record Subscribes (key : ℕ) (id : ℕ) (requests : List Request) (rules : CopyRules) (old new : HubTables) (says : List Act) : Type 0 where
  pub between : HubTables
  pub answers : Answers key (Grants id (granted requests)) (with_rows key requests old.rows) old between
  pub messages : List Message
  pub settles : (config : HubConfig) (next_key : ℕ) → rules_of config ≡ rules → HubInvariant config next_key between
      → Settles config (λ other. 0) between.sessions.list (retained_copies key requests old.retained.messages) (for_key key messages) says
  pub ready : IsReadyAt key messages 0 between.sessions.list
  pub list : new.sessions.list ≡ placed_all (for_key key messages) between.sessions.list
  pub rows : new.rows ≡ between.rows
  pub retained : new.retained ≡ between.retained
  pub connections : new.connections ≡ between.connections
