-- The effect of a disk's calls on its file, and the contents that a crash may leave.
use Rattle.std.specs.Prelude.{◌<◌, ◌≡◌, ◌⊎◌, ℕ, ◌+◌, ◌≤◌, max, List, ◌++◌, length, take, drop, Result, IsErrOf}
use Rattle.mq_log.specs.declared.disk.DiskError.{DiskError}
use Rattle.mq_log.specs.declared.disk.DiskError.TheVariants.{Failed, Full}

-- the new content is the old one with these bytes at this offset
abbrev pub Holds : List ℕ → ℕ → List ℕ → List ℕ → Type 0
Holds old at bytes new = new ≡ take at old ++ bytes ++ drop (at + length bytes) old

-- A crash during a write of `size` bytes, or before the next sync, leaves any bytes in the range.
-- The bytes before and behind it are unchanged. The file ends anywhere from the old end to the new
-- one.
pub record Torn (at size : ℕ) (old new : List ℕ) : Type 0 where
  pub before : take at new ≡ take at old
  pub after : drop (at + size) new ≡ drop (at + size) old
  pub no_shorter : length old ≤ length new
  pub no_longer : length new ≤ max (length old) (at + size)

-- each outcome of a crash after the call is an outcome before it, changed by this step
abbrev pub Follows : (List ℕ → List ℕ → Type 0)
    → (List ℕ → Type 0) → (List ℕ → Type 0) → Type 0
Follows step old new = (content : List ℕ) → new content → (earlier : List ℕ) × old earlier × step earlier content

-- a crash leaves exactly this content
abbrev pub Only : List ℕ → (List ℕ → Type 0) → Type 0
Only file outcomes = (content : List ℕ) → outcomes content → content ≡ file

-- Time advances: the outcomes of a crash since `time` are the earlier outcomes and the present
-- ones.
pub record Elapses (before now : ℕ) (past since : ℕ → List ℕ → Type 0)
    (may_leave : List ℕ → Type 0) : Type 0 where
  pub later : before ≤ now
  pub nothing_else : (time : ℕ) (content : List ℕ) → time ≤ before → since time content → past time content ⊎ may_leave content
  pub keeps : (time : ℕ) (content : List ℕ) → time ≤ before → past time content → since time content

-- A crash at any time from the old state to the new one leaves a content that has P.
pub record LeavesOnly {D : Type 0} (clock : D → ℕ) (left_since : D → ℕ → List ℕ → Type 0)
    (old new : D) (P : List ℕ → Type 0) : Type 0 where
  pub later : clock old ≤ clock new
  pub each : (content : List ℕ) → left_since new (clock old) content → P content
  -- for a caller that began earlier
  pub before : (time : ℕ) (content : List ℕ) → time ≤ clock old → left_since new time content → left_since old time content ⊎ P content

-- `Failed` is returned only if the disk has failed during the call, and `Full` never
pub record HasCause {T : Type 0} (before now : ℕ) (result : Result T DiskError) : Type 0 where
  pub later : before ≤ now
  pub failed : IsErrOf result Failed → before < now
  pub not_full : IsErrOf result Full → ⊥
