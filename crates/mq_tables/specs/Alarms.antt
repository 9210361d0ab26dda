-- When connections may be late (3.1, 3.1.2.10).
use Rattle.std.specs.Prelude.{ℕ, Bool, false, Option, List, ◌≡◌, ◌≤◌}
use Rattle.std.specs.declared.cmp.Reverse.{Reverse}
use Rattle.std.specs.Ordering.{nat_cmp, ordering_then}
use Rattle.std.specs.declared.cmp.Ordering.{Ordering}
use Rattle.std.specs.List.{All}
use Rattle.mq_end.specs.KeepAlive.{is_late}
use Rattle.mq_route.specs.declared.connection_state.ConnectionState.{ConnectionState}
use Rattle.mq_route.specs.declared.connection_state.ConnectionState.TheVariants.{AwaitingConnect, ConnectedAs, Closed}
use Rattle.mq_route.specs.Step.{has_passed}
use Rattle.mq_route.specs.declared.conn.Conn.{Conn}
use Rattle.mq_tables.specs.declared.alarms.Alarm.{Alarm}

-- a connection that was opened at this time is late: a tick closes it
abbrev pub is_late_on : Option ℕ → ℕ → ℕ → ConnectionState → Bool
is_late_on within now since AwaitingConnect = has_passed within since now
is_late_on within now since (ConnectedAs key terms last_activity) = is_late last_activity terms.keep_alive now
is_late_on within now since Closed = false

-- Alarms: each says up to which time the connection that it names is not late. After `until` any
-- connection may be late.
pub record AlarmTable : Type 0 where
  pub until : ℕ
  pub alarms : List (Reverse Alarm)

-- their order: the earliest first; at the same time, by connection
abbrev pub soonest_first : Reverse Alarm → Reverse Alarm → Ordering
soonest_first first second =
    ordering_then (nat_cmp second.0.until first.0.until) (ordering_then (nat_cmp second.0.conn.worker first.0.conn.worker) (nat_cmp second.0.conn.nth first.0.conn.nth))

-- no alarm of this connection rings before this time
abbrev pub IsQuiet : AlarmTable → Conn → ℕ → Type 0
IsQuiet table conn now = (now ≤ table.until) × All (λ alarm. alarm.0.conn ≡ conn → now ≤ alarm.0.until) table.alarms

-- before one of its alarms rings, a connection that was opened at this time is not late
abbrev pub IsAwaited : Option ℕ → AlarmTable → Conn → ℕ → ConnectionState → Type 0
IsAwaited within table conn since stage = (now : ℕ) → IsQuiet table conn now → is_late_on within now since stage ≡ false
