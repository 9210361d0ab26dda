-- The clocks of the two sides, and the effect of `tick` (3.1.2.10).
use Rattle.std.specs.Prelude.{ℕ, ◌+◌, ◌-◌, ◌^◌, min, ◌≡◌, ◌&&◌, if◌then◌else◌, Option, None, List, [], ◌∷◌}
use Rattle.mq_end.specs.declared.reason.CloseReason.{CloseReason}
use Rattle.mq_end.specs.End.{is_up}
use Rattle.mq_packet.specs.declared.packet.Packet.{Packet}
use Rattle.mq_end.specs.KeepAlive.{client_since, client_ticks, is_late, pings, server_ticks}
use Rattle.mq_end.specs.Receiving.{HearsAt}
use Rattle.mq_end.specs.State.{EndState}
use Rattle.mq_world.specs.declared.side.Side.{Side}
use Rattle.mq_world.specs.declared.side.Side.TheVariants.{Client, Server}
use Rattle.mq_world.specs.Half.{Drops, Pings}
use Rattle.mq_world.specs.Machine.{Move, By}
use Rattle.mq_world.specs.Carries.{Wired, WiredSide}

-- A time some milliseconds after another, at most the maximum of 64 bits.
abbrev pub later : ℕ → ℕ → ℕ
later clock more = min (clock + more) (2 ^ 64 - 1)

-- No time passes for a side, and its time of last activity stays.
pub record SameTime (old new : WiredSide) : Type 0 where
  pub clock : new.clock ≡ old.clock
  pub last_activity : new.state.last_activity ≡ old.state.last_activity

-- No time passes.
pub record SameTimes (old new : Wired) : Type 0 where
  pub client : SameTime old.client new.client
  pub server : SameTime old.server new.server

-- A side receives bytes: no time passes; if they complete a packet, that is the server's time of
-- last activity (3.1.2.10).
abbrev pub HearsIn : Side → List ℕ → Option CloseReason → WiredSide → WiredSide → Type 0
HearsIn Client bytes closed old new = SameTime old new
HearsIn Server bytes closed old new = (new.clock ≡ old.clock) × HearsAt old.clock bytes closed old.state new.state

-- A connection begins: no time passes, and both keep-alives start now (3.1.2.10).
pub record BeginsNow (old new : Wired) : Type 0 where
  pub client_clock : new.client.clock ≡ old.client.clock
  pub server_clock : new.server.clock ≡ old.server.clock
  pub client_moment : new.client.state.last_activity ≡ old.client.clock
  pub server_moment : new.server.state.last_activity ≡ old.server.clock

-- The reason if `tick` closes an end; the client's never does.
abbrev pub time_closes : Side → ℕ → EndState → Option CloseReason
time_closes Client now state = None
time_closes Server now state = (server_ticks state.last_activity now state.end).close

-- The machine's moves: a connected client sends PINGREQ if it is due; a connected server drops a
-- late client (3.1.2.10).
abbrev pub time_moves : Side → ℕ → EndState → List Move
time_moves Client now state = if pings state.last_activity now state.end then By Client Pings ∷ [] else []
time_moves Server now state = if is_up state.end.state && is_late state.last_activity state.end.keep_alive now then By Server Drops ∷ [] else []

-- The output of `tick`: PINGREQ if it is due; the server's is empty.
abbrev pub time_out : Side → ℕ → EndState → List Packet
time_out Client now state = (client_ticks state.last_activity now state.end).out
time_out Server now state = []

-- The time of last activity after `tick`.
abbrev pub time_moment : Side → ℕ → EndState → ℕ
time_moment Client now state = client_since state.last_activity now state.end
time_moment Server now state = state.last_activity
