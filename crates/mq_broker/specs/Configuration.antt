-- The configuration of a broker.
use Rattle.std.specs.Prelude.{ℕ, ◌+◌, ◌*◌, ◌-◌, ◌^◌, Some, None, max, min}
use Rattle.mq_decode.specs.Limits.{strict}
use Rattle.mq_broker.specs.declared.options.BrokerOptions.{BrokerOptions}
use Rattle.mq_route.specs.declared.config.HubConfig.{HubConfig}

-- The configuration of these options. A length is encoded in the fewest bytes (2.2.3).
abbrev pub configuration : BrokerOptions → HubConfig
configuration options = record {
  limits = strict options.max_packet;
  capacity = max options.capacity 1;
  window = None;
  max_conns = options.max_connections;
  max_sessions = options.max_sessions;
  users = options.users;
  hashed_users = options.hashed_users;
  when_full = options.when_full;
  connect_within = options.connect_within;
  session_expiry = options.session_expiry;
  most_stored = Some options.max_stored;
  most_waiting = Some options.max_waiting;
  most_matches = Some options.max_matches;
}

-- The number of bytes that these options let wait for a connection: messages of QoS 0, the stored
-- messages, 16 bytes more for each identifier, and 1 MiB of answers.
abbrev pub most_owed : BrokerOptions → ℕ
most_owed options =
    min (options.max_waiting + options.max_stored + 16 * options.capacity + 1048576) (2 ^ 64 - 1)
