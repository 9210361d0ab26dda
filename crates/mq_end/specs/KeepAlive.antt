-- Keep-alive (3.1.2.10). Times are in milliseconds, keep-alives in seconds.
use Rattle.std.specs.Prelude.{ℕ, ◌+◌, ◌*◌, ◌<◌, ◌≡◌, ◌↔◌, Bool, true, ◌&&◌, if◌then◌else◌, Some, [], ◌∷◌, nat_lt, nat_le}
use Rattle.mq_packet.specs.declared.packet.Packet.TheVariants as packets
use Rattle.mq_end.specs.declared.reason.CloseReason.TheVariants as reasons
use Rattle.mq_end.specs.End.{End, Reply, silent, sends_packets, closes, is_up}

-- Late: the keep-alive is not 0, and since the last whole packet more than one and a half times of
-- it has elapsed (3.1.2.10).
abbrev pub Late : ℕ → ℕ → ℕ → Type 0
Late last keep_alive now = (0 < keep_alive) × (last + 1500 * keep_alive < now)

-- the test of it (3.1.2.10)
abbrev pub is_late : ℕ → ℕ → ℕ → Bool
is_late last keep_alive now = nat_lt 0 keep_alive && nat_lt (last + 1500 * keep_alive) now

-- a keep-alive has elapsed since the CONNECT or the last PINGREQ (3.1.2.10)
abbrev pub is_due : ℕ → ℕ → ℕ → Bool
is_due since keep_alive now = nat_lt 0 keep_alive && nat_le (since + 1000 * keep_alive) now

-- The client is connected and a PINGREQ is due (3.12).
abbrev pub pings : ℕ → ℕ → End → Bool
pings since now end = is_up end.state && is_due since end.keep_alive now

-- The client's `tick`: it sends PINGREQ if one is due (3.12). It never closes.
abbrev pub client_ticks : ℕ → ℕ → End → Reply
client_ticks since now end = sends_packets (if pings since now end then packets.PingReq ∷ [] else []) end

-- The time of its CONNECT or last PINGREQ, after the call (3.1.2.10).
abbrev pub client_since : ℕ → ℕ → End → ℕ
client_since since now end = if pings since now end then now else since

-- The server's `tick`: it closes a connected end whose client is late (3.1.2.10).
abbrev pub server_ticks : ℕ → ℕ → End → Reply
server_ticks last now end = if is_up end.state && is_late last end.keep_alive now then closes reasons.KeepAlive end else silent end

-- The laws of keep-alive (3.1.2.10).
pub record KeepAliveLaws : Type 0 where
  pub late : (last keep_alive now : ℕ) → is_late last keep_alive now ≡ true ↔ Late last keep_alive now
  pub closes_late : (last now : ℕ) (end : End) → (server_ticks last now end).close ≡ Some reasons.KeepAlive ↔ ((is_up end.state ≡ true) × Late last end.keep_alive now)
