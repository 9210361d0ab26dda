-- Journals at rest, and the files that a crash during a `put` may leave.
use Rattle.std.specs.Prelude.{◌≡◌, ◌≢◌, ◌⊎◌, ℕ, List, [], ◌∷◌, ◌++◌, length}
use Rattle.mq_log.specs.Blocks.{entries, rest, gate, blocks, at_rest, AreShort}
use Rattle.mq_log.specs.Disk.{Only}
use Rattle.mq_log.specs.declared.journal.Journal.{Journal}

-- the file is whole blocks and a closed gate, and all of it is synced
pub record IsSettled {D : Type 0} (seen : D → List ℕ) (may_leave : D → List ℕ → Type 0)
    (journal : Journal D) : Type 0 where
  pub file : seen journal.disk ≡ at_rest (entries (seen journal.disk))
  pub end : journal.end ≡ length (blocks (entries (seen journal.disk)))
  pub short : AreShort (entries (seen journal.disk))
  pub durable : Only (seen journal.disk) (may_leave journal.disk)

-- The file holds the entries from before the call, with the new one or without.
-- No open gate follows them, so that a reader never takes a torn rest for a damaged entry.
pub record IsBeforeOrAfter (before : List (List ℕ)) (entry file : List ℕ) : Type 0 where
  pub holds : (entries file ≡ before) ⊎ (entries file ≡ before ++ entry ∷ [])
  pub no_damage : gate (rest file) ≢ 1
