-- A file as the record of its calls.
use Rattle.std.specs.Prelude.{◌≡◌, ◌⊎◌, ℕ, ◌+◌, ◌≤◌, List, [], ◌∷◌, ◌++◌, length, take, drop}
use Rattle.mq_log.specs.Disk.{Torn}

-- A call on a file: a write of bytes at an offset that succeeded, or that failed; a sync that
-- succeeded; and any other call that failed.
pub data FileCall : Type 0 where
  Wrote : (at : ℕ) → (bytes : List ℕ) → FileCall
  Stumbled : (at : ℕ) → (bytes : List ℕ) → FileCall
  Synced : FileCall
  Failed : FileCall

-- the content after calls on a new file, the newest call first
abbrev pub seen_after : List FileCall → List ℕ
seen_after [] = []
seen_after (Wrote at bytes ∷ before) =
    take at (seen_after before) ++ bytes ++ drop (at + length bytes) (seen_after before)
seen_after (Stumbled at bytes ∷ before) = seen_after before
seen_after (Synced ∷ before) = seen_after before
seen_after (Failed ∷ before) = seen_after before

-- the number of bytes of the content
abbrev pub file_size : List FileCall → ℕ
file_size calls = length (seen_after calls)

-- A crash after calls may leave this content: that of the calls, or one in which writes since the
-- last sync changed their ranges in any way.
abbrev pub MayLeave : List FileCall → List ℕ → Type 0
MayLeave [] content = content ≡ []
MayLeave (Wrote at bytes ∷ before) content =
    (content ≡ seen_after (Wrote at bytes ∷ before))
    ⊎ ((earlier : List ℕ) × MayLeave before earlier × Torn at (length bytes) earlier content)
MayLeave (Stumbled at bytes ∷ before) content =
    (earlier : List ℕ) × MayLeave before earlier × Torn at (length bytes) earlier content
MayLeave (Synced ∷ before) content = content ≡ seen_after before
MayLeave (Failed ∷ before) content = MayLeave before content

-- A crash at some time since a number of calls could have left this content.
abbrev pub LeftSince : List FileCall → ℕ → List ℕ → Type 0
LeftSince [] time content = (time ≤ 0) × MayLeave [] content
LeftSince (call ∷ before) time content =
    ((time ≤ length (call ∷ before)) × MayLeave (call ∷ before) content) ⊎ LeftSince before time content

-- the number of calls that failed
abbrev pub failures : List FileCall → ℕ
failures [] = 0
failures (Wrote at bytes ∷ before) = failures before
failures (Stumbled at bytes ∷ before) = failures before + 1
failures (Synced ∷ before) = failures before
failures (Failed ∷ before) = failures before + 1
