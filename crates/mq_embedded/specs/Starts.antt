-- New clients.
use Rattle.std.specs.Prelude.{◌≡◌, ◌⊎◌, ℕ, List, [], ◌∷◌, Result, Ok, Err}
use Rattle.mq_flow.specs.SavedTwo.{IsSavedAs}
use Rattle.mq_flow.specs.declared.saved.Saved.{Saved}
use Rattle.mq_bytes.specs.Checks.{IsSavedSession}
use Rattle.mq_end.specs.declared.config.ClientConfig.{ClientConfig}
use Rattle.mq_end.specs.End.{blank_end, resumed}
use Rattle.mq_end.specs.Resuming.{FitsWithin, NamesAnother}
use Rattle.mq_embedded.specs.declared.fault.CallFault.{CallFault}
use Rattle.mq_embedded.specs.declared.fault.CallFault.TheVariants as faults
use Rattle.mq_embedded.specs.Calls.{WithEvents}

-- A client with these options, without a connection, pending output or events.
abbrev pub Waits : ClientConfig → WithEvents → Type 0
Waits config client =
    (client.end.config ≡ config) × (client.end.link.output ≡ []) × (client.events ≡ [])

-- It has no session.
abbrev pub IsBlank : ClientConfig → WithEvents → Type 0
IsBlank config client =
    (client.end.link.end ≡ blank_end config.window) × (client.end.link.capacity ≡ config.capacity)
    × Waits config client

-- It continues this saved session (4.1).
abbrev pub Resumes : ClientConfig → Saved → WithEvents → Type 0
Resumes config saved client =
    (client.end.link.end ≡ resumed config.window saved.established saved.session.sender.book saved.session.receiver saved.session.sender.last)
    × (client.end.link.capacity ≡ saved.session.sender.capacity) × Waits config client

-- It can't: the session belongs to another client, or has a message over the limit.
abbrev pub RefusesSaved : ClientConfig → Saved → CallFault → Type 0
RefusesSaved config saved why =
    ((why ≡ faults.AnotherClient) × NamesAnother saved.client config.id)
    ⊎ ((why ≡ faults.TooLarge) × (FitsWithin config.limits.most saved.session → ⊥))

-- The error for these bytes: they are not a saved session, or an allocation failed.
abbrev pub IsLoadFault : List ℕ → CallFault → Type 0
IsLoadFault bytes why = (why ≡ faults.Memory) ⊎ ((why ≡ faults.Session) × (IsSavedSession bytes → ⊥))

abbrev pub Loads : ClientConfig → Saved → Result WithEvents CallFault → Type 0
Loads config saved (Ok client) = Resumes config saved client
Loads config saved (Err why) = RefusesSaved config saved why

-- It continues the session whose saved form these bytes are, or there is none.
abbrev pub Continues : ClientConfig → List ℕ → Result WithEvents CallFault → Type 0
Continues config bytes (Ok client) = (saved : Saved) × IsSavedAs saved bytes × Resumes config saved client
Continues config bytes (Err why) =
    IsLoadFault bytes why ⊎ ((saved : Saved) × IsSavedAs saved bytes × RefusesSaved config saved why)

-- It has no session, or continues the saved one if there are bytes.
abbrev pub Starts : ClientConfig → List ℕ → Result WithEvents CallFault → Type 0
Starts config [] (Ok client) = IsBlank config client
Starts config [] (Err why) = ⊥
Starts config (byte ∷ bytes) result = Continues config (byte ∷ bytes) result
