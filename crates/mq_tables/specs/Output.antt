-- Taking pending output (4.2).
use Rattle.std.specs.Prelude.{ℕ, ◌==◌, List, [], ◌∷◌, if◌then◌else◌, ◌≡◌, Result, Ok, Err, Some}
use Rattle.std.specs.declared.alloc.AllocError.{AllocError}
use Rattle.mq_end.specs.State.{EndState, Room}
use Rattle.mq_tables.specs.declared.sessions.session.BrokerSession.{BrokerSession}
use Rattle.mq_tables.specs.Sessions.{session_at, with_server}

-- the pending output of the end of the session of a key
abbrev pub output_of : ℕ → List BrokerSession → List ℕ
output_of key [] = []
output_of key (session ∷ rest) = if session.key == key then session.end.output else output_of key rest

-- an end after its pending output was taken
abbrev pub drained : Room → EndState → EndState
drained room state = record state { output = []; room = room }

-- Taking the pending output of an end: the bytes are returned, or memory runs out and they stay.
-- Nothing else of the end changes but its room.
abbrev pub Collects : Result (List ℕ) AllocError → EndState → EndState → Type 0
Collects (Ok bytes) old new = (bytes ≡ old.output) × (new ≡ drained new.room old)
Collects (Err fault) old new = new ≡ record old { room = new.room }

-- Taking the pending output of the end of a session.
pub record CollectsAt (key : ℕ) (answer : Result (List ℕ) AllocError) (old new : List BrokerSession) : Type 0 where
  pub session : BrokerSession
  pub there : session_at key old ≡ Some session
  pub end : EndState
  pub collects : Collects answer session.end end
  pub after : new ≡ with_server key end old
