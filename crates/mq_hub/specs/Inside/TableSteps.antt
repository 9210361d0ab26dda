-- A part of a step on the tables, with the room that was made in them.
use Rattle.std.specs.Prelude.{ℕ, ◌≡◌, ◌≤◌, List, Bool}
use Rattle.mq_route.specs.declared.config.HubConfig.{HubConfig}
use Rattle.mq_route.specs.Hub.{key_of, stage_of}
use Rattle.mq_route.specs.declared.act.Act.{Act}
use Rattle.mq_route.specs.declared.conn.Conn.{Conn}
use Rattle.mq_route.specs.declared.connection_state.ConnectionState.TheVariants.{AwaitingConnect}
use Rattle.mq_route.specs.Work.{Work}
use Rattle.mq_tables.specs.declared.rules.CopyRules.{CopyRules}
use Rattle.mq_tables.specs.Tables.{HubTables}
use Rattle.mq_tables.specs.Sessions.{sessions_of}
use Rattle.mq_tables.specs.Rules.{rules_of}
use Rattle.mq_hub.specs.Inside.Invariant.{HubInvariant}
use Rattle.mq_hub.specs.Inside.Refinement.{Refines}
use Rattle.mq_hub.specs.Inside.View.{hub_of}

-- These are the tables of a broker.
pub record AreHubTables (tables : HubTables) : Type 0 where
  pub config : HubConfig
  pub next_key : ℕ
  pub keeps : HubInvariant config next_key tables

-- No connection changes, no client gets another session, and no reserved room for one is lost.
pub record Spares (old new : HubTables) : Type 0 where
  pub keeps : (config : HubConfig) (next_key : ℕ) → HubInvariant config next_key old → HubInvariant config next_key new
  pub connections : new.connections ≡ old.connections
  pub room : old.sessions.room ≤ new.sessions.room
  pub clients : (client : List ℕ) → key_of client (sessions_of new.sessions.list) ≡ key_of client (sessions_of old.sessions.list)

-- The step makes a change, with memory for a will or without, in a broker with these rules for
-- copies without room. A connection that waits for its CONNECT still does, and no reserved room for
-- a session or a connection is lost.
pub record Proceeds (rules : CopyRules) (change : Bool → Work → Work) (old : HubTables) (said : List Act) (new : HubTables) (says : List Act) : Type 0 where
  pub goes : (config : HubConfig) (clock next_key : ℕ) → HubInvariant config next_key old → rules_of config ≡ rules
      → (fits : Bool) × Refines (change fits) (hub_of config clock next_key old) said (hub_of config clock next_key new) says
  pub keeps : (config : HubConfig) (next_key : ℕ) → HubInvariant config next_key old → HubInvariant config next_key new
  pub room : old.sessions.room ≤ new.sessions.room
  pub up_room : old.connections.up_room ≤ new.connections.up_room
  pub fresh : (conn : Conn) → stage_of conn old.connections.connections ≡ AwaitingConnect → stage_of conn new.connections.connections ≡ AwaitingConnect
