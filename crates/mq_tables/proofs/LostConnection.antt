-- The end of a session that loses its connection.
use Rattle.std.proofs.Common.{◌≡◌, ℕ, true, List}
use Rattle.std.specs.Option.{is_some}
use Rattle.mq_tables.specs.declared.sessions.session.BrokerSession.{BrokerSession}
use Rattle.mq_tables.specs.Connecting.{parted}
use Rattle.mq_tables.specs.Sessions.{session_at}
use Rattle.mq_tables.proofs.RoomToConnect.{changed_there, IsChanged, IsChangedBy}

-- the session of a key whose end lost its connection, by this list of sessions
abbrev pub IsParted : ℕ → List BrokerSession → List BrokerSession → Type 0
IsParted key ts us = IsChanged parted key ts us

abbrev pub IsPartedBy : ℕ → List BrokerSession → List BrokerSession → Type 0
IsPartedBy key ts us = IsChangedBy parted key ts us

pub parted_there : (key : ℕ) (ts us : List BrokerSession) → is_some (session_at key ts) ≡ true → IsPartedBy key ts us → IsParted key ts us
parted_there key ts us stands says = changed_there parted key ts us stands says
