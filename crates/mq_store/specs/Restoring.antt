-- A broker that is restored from a snapshot and the journal that follows it.
use Rattle.std.specs.Prelude.{◌≡◌, ◌≢◌, ◌⊎◌, ℕ, List, [], length}
use Rattle.mq_log.specs.Blocks.{gate, rest}
use Rattle.mq_durable.specs.declared.condition.Condition.TheVariants.{Sound}
use Rattle.mq_durable.specs.Recorded.{IsReadable, events_of}
use Rattle.mq_durable.specs.Recovering.{HasEnded}
use Rattle.mq_durable.specs.Replaying.{Replays}
use Rattle.mq_durable.specs.State.{DurableState}
use Rattle.mq_file.specs.declared.journal_file.JournalFile.{JournalFile}
use Rattle.mq_file.specs.History.{seen_after}
use Rattle.mq_route.specs.Begun.{MayBegin}
use Rattle.mq_route.specs.declared.config.HubConfig.{HubConfig}
use Rattle.mq_route.specs.Hub.{HubState, new_hub}
use Rattle.mq_route.specs.Snapshot.{IsKeptWhole, restored}
use Rattle.mq_store.specs.SnapshotFile.{snapshot_file}

-- A crash may leave this file of a journal: each entry is the encoding of events, and no open gate
-- is behind the entries.
abbrev pub MayBeLeft : List ℕ → Type 0
MayBeLeft file = IsReadable file × (gate (rest file) ≢ 1)

-- Exactly the events of a journal came to a broker, and then its connections ended.
pub record EndsAfter (begun : HubState) (journal : List ℕ) (new : HubState) : Type 0 where
  pub undamaged : MayBeLeft journal
  pub replayed : HubState
  pub replays : Replays begun (events_of journal) replayed
  pub ended : HasEnded replayed new
  pub none : new.connections ≡ []

-- The same for the broker of a snapshot, with the number of the events.
pub record IsEnded (file journal : List ℕ) (new : HubState) (events : ℕ) : Type 0 where
  pub nth : ℕ
  pub begun : HubState
  pub saved : file ≡ snapshot_file nth begun
  pub whole : IsKeptWhole begun
  pub events_are : events ≡ length (events_of journal)
  pub ends_after : EndsAfter begun journal new

-- A broker that was restored under a configuration, and the number of the events: what a snapshot
-- keeps of the ended one.
pub record IsRestored (config : HubConfig) (file journal : List ℕ) (new : HubState) (events : ℕ) : Type 0 where
  pub ended : HubState
  pub is_ended : IsEnded file journal ended events
  pub loaded : new ≡ restored config ended

-- The broker of a folder under a configuration, with the number of its recovered events: a new one,
-- or one that was restored.
abbrev pub IsFound : HubConfig → HubState → ℕ → Type 0
IsFound config hub events =
    ((hub ≡ new_hub config) × (events ≡ 0))
    ⊎ ((file : List ℕ) × ((journal : List ℕ) × IsRestored config file journal hub events))

-- A broker that was opened, with the number of its recovered events and its time. A run may begin
-- with it. Its journal has no event yet.
pub record IsOpened (config : HubConfig) (new : DurableState JournalFile) (events clock : ℕ) : Type 0 where
  pub found : IsFound config new.hub events
  pub may_begin : MayBegin new.hub
  pub base : new.base ≡ new.hub
  pub pending : new.pending ≡ []
  pub recorded : events_of (seen_after new.disk) ≡ []
  pub sound : new.condition ≡ Sound
  pub clock_is : clock ≡ new.hub.clock
