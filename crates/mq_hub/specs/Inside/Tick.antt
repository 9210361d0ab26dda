-- A tick of a broker (3.1, 3.1.2.10).
use Rattle.std.specs.Prelude.{ℕ, Option, Some, None, if◌then◌else◌, ◌≡◌, List}
use Rattle.mq_end.specs.declared.reason.CloseReason.TheVariants as reasons
use Rattle.mq_route.specs.declared.close.HubClose.{HubClose}
use Rattle.mq_route.specs.declared.close.HubClose.TheVariants.{NoConnect, Own}
use Rattle.mq_route.specs.declared.connection_state.ConnectionState.{ConnectionState}
use Rattle.mq_route.specs.declared.connection_state.ConnectionState.TheVariants.{AwaitingConnect, ConnectedAs, Closed}
use Rattle.mq_route.specs.declared.conn.Conn.{Conn}
use Rattle.mq_route.specs.Hub.{HubConnection, HubState}
use Rattle.mq_route.specs.declared.act.Act.{Act}
use Rattle.mq_route.specs.Step.{OnTick}
use Rattle.mq_route.specs.Work.{Work}
use Rattle.mq_tables.specs.Alarms.{is_late_on}

-- why a tick closes a late connection in this state
abbrev pub why_late : ConnectionState → HubClose
why_late AwaitingConnect = NoConnect
why_late (ConnectedAs key terms last_activity) = Own reasons.KeepAlive
why_late Closed = Own reasons.KeepAlive

-- the name of a connection and why it is closed, if it is late at this time
abbrev pub late_of : Option ℕ → ℕ → Option HubConnection → Option (Conn × HubClose)
late_of within now None = None
late_of within now (Some connection) = if is_late_on within now connection.since connection.stage then Some (connection.conn, why_late connection.stage) else None

-- Closing the late connections leads from `start` to `new` with these acts.
pub record TicksFrom (within : Option ℕ) (now : ℕ) (start : Work) (new : HubState) (acts : List Act) : Type 0 where
  pub work : Work
  pub ticks : OnTick within now start.hub.connections start work
  pub hub : new ≡ work.hub
  pub did : acts ≡ work.did

-- If a step has led to the broker `old` and the acts `said`, then closing the late connections
-- leads to `new` and `says`.
abbrev pub TicksTo : ℕ → HubState → List Act → HubState → List Act → Type 0
TicksTo now old said new says = (start : Work) → start.hub ≡ old → start.did ≡ said → TicksFrom old.config.connect_within now start new says
