-- Numbers of a broker's sessions, for gauges and status pages.
use Rattle.std.specs.Prelude.{ℕ, List, length, sum_by}
use Rattle.mq_flow.specs.Sender.{is_full}
use Rattle.mq_route.specs.declared.config.HubConfig.{HubConfig}
use Rattle.mq_route.specs.Hub.{HubSession}
use Rattle.mq_hub.specs.declared.numbers.SessionCounts.{SessionCounts}

-- the number of messages of QoS 1 and 2 that a session stores: those not yet sent, and those sent
-- without a PUBACK or PUBREC yet (3.1.2.4, 4.3)
abbrev pub stored_by : HubSession → ℕ
stored_by session = length session.end.book.entries

abbrev pub stored_in : List HubSession → ℕ
stored_in sessions = sum_by stored_by sessions

-- the numbers of one session; it is full if no packet identifier is free (2.3.1)
abbrev pub counts_of : HubConfig → HubSession → SessionCounts
counts_of config session = record { key = session.key; stored = stored_by session; is_full = is_full config.capacity session.end.book }
