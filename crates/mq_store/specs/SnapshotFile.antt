-- The file `snapshot` of a folder.
use Rattle.std.specs.Prelude.{ℕ, List, [], ◌∷◌, ◌++◌}
use Rattle.sha2.specs.Sha256.{sha256}
use Rattle.mq_route.specs.Hub.{HubState}
use Rattle.mq_route.specs.Snapshot.{eight, snapshot}
use Rattle.mq_store.specs.Configuration.{config_bytes, text_bytes}

-- `MQD`, and the version
abbrev pub file_signature : List ℕ
file_signature = 0x4d ∷ 0x51 ∷ 0x44 ∷ 1 ∷ []

-- bytes, and their SHA-256
abbrev pub with_digest : List ℕ → List ℕ
with_digest bytes = bytes ++ sha256 bytes

-- The parts of the file: the number of the journal, the configuration, and the broker. The last two
-- follow the number of their bytes.
abbrev pub parts_of : ℕ → List ℕ → List ℕ → List ℕ
parts_of nth config hub =
    file_signature ++ (eight nth ++ (text_bytes config ++ text_bytes hub))

-- the file of a broker with a configuration, as bytes, and the number of the journal
abbrev pub saved_file : ℕ → List ℕ → HubState → List ℕ
saved_file nth config hub = with_digest (parts_of nth config (snapshot hub))

-- the file of a broker whose later events are in the journal of this number
abbrev pub snapshot_file : ℕ → HubState → List ℕ
snapshot_file nth hub = with_digest (parts_of nth (config_bytes hub.config) (snapshot hub))
