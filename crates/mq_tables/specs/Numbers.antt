-- The number of messages that the end of a session stores.
use Rattle.std.specs.Prelude.{ℕ, length, if◌then◌else◌, List, sum_by}
use Rattle.mq_end.specs.State.{EndState}
use Rattle.mq_tables.specs.declared.sessions.session.BrokerSession.{BrokerSession}

-- 0 if it has no session
abbrev pub stored_at : EndState → ℕ
stored_at state = if state.end.known then length state.end.book.entries else 0

abbrev pub all_stored : List BrokerSession → ℕ
all_stored sessions = sum_by (λ session. stored_at session.end) sessions
