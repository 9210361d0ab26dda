-- Snapshots that a broker writes while it runs, and their lines in the log. Only proofs cite these
-- definitions.
use Rattle.std.specs.Prelude.{ℕ, Bool, true, false, List, [], ◌++◌, codes, decimal, flat_map, if◌then◌else◌}
use Rattle.std.specs.Io.KnownBytes.{Appends}
use Rattle.mq_loop.specs.declared.broker.SnapshotNote.{SnapshotNote}
use Rattle.mq_broker.specs.declared.log.LogLevel.{LogLevel}
use Rattle.mq_broker.specs.declared.log.LogLevel.TheVariants as levels
use Rattle.mq_broker.specs.Lines.{LogState}

-- the line about a snapshot, with its line end
unfoldable pub snapshot_line : SnapshotNote → List ℕ
snapshot_line note =
    codes "snapshot bytes="
    ++ (decimal note.bytes
    ++ (codes " sessions="
    ++ (decimal note.sessions ++ (codes " milliseconds=" ++ (decimal note.milliseconds ++ codes "\n")))))

abbrev pub is_verbose : LogLevel → Bool
is_verbose levels.Quiet = false
is_verbose levels.Normal = false
is_verbose levels.Verbose = true

-- a log with lines about snapshots got one for each of these notes
abbrev pub AreReported : List SnapshotNote → LogState → LogState → Type 0
AreReported notes old new =
    Appends old.written new.written (if is_verbose old.level then flat_map snapshot_line notes else [])
