-- The length of a connection's pending output.
use Rattle.std.proofs.Common.{◌≡◌, ℕ, List, Some}
use Rattle.mq_route.specs.declared.conn.Conn.{Conn}
use Rattle.mq_route.specs.Hub.{HubConnection, key_on, stage_of, waiting_on}
use Rattle.mq_tables.specs.declared.sessions.session.BrokerSession.{BrokerSession}
use Rattle.mq_tables.specs.Output.{output_of}
use Rattle.mq_hub.specs.Inside.View.{all_seen}
use Rattle.mq_hub.proofs.ConnectionChange.{waiting_up}
use Rattle.mq_hub.proofs.TakenOutput.{is_up_for}

-- that of a connected client is its session's
pub key_waits : (k : Conn) (key : ℕ) (ts : List BrokerSession) (xs : List HubConnection) → key_on (stage_of k xs) ≡ Some key → waiting_on k (all_seen ts xs) ≡ output_of key ts
key_waits k key ts xs up = let at = is_up_for key (stage_of k xs) up in waiting_up k key at.terms at.last_activity ts xs at.is
