-- Output that a connection did not take yet.
use Rattle.std.specs.Prelude.{◌≡◌, ◌⊎◌, ℕ, Bool, true, List, [], ◌++◌, length, take, drop, Option}
use Rattle.std.specs.Io.KnownBytes.{Appends}

-- The bytes that are written next, and those behind them.
pub record Pending : Type 0 where
  pub front : List ℕ
  pub later : List ℕ

-- all pending bytes, in order
abbrev pub bytes_of : Pending → List ℕ
bytes_of pending = pending.front ++ pending.later

-- Some bytes from the front were written, and exactly these are not pending any more.
pub record WritesFront (pending rest : List ℕ) (old new : Option (List ℕ)) : Type 0 where
  pub count : ℕ
  pub written : Appends old new (take count pending)
  pub left : rest ≡ drop count pending

-- Some of these bytes were written from their front, and the rest is pending behind the bytes that
-- were pending before. If there were any, nothing was written.
pub record Sends (bytes pending rest : List ℕ) (old new : Option (List ℕ)) : Type 0 where
  pub count : ℕ
  pub written : Appends old new (take count bytes)
  pub left : rest ≡ pending ++ drop count bytes
  pub waits : (pending ≡ []) ⊎ (count ≡ 0)

-- All of these bytes were written, or bytes of the peer are there.
abbrev pub IsWhole : ℕ → List ℕ → Bool → Type 0
IsWhole count bytes heard = (count ≡ length bytes) ⊎ (heard ≡ true)

-- If nothing was pending before, nothing is, or bytes of the peer are there.
abbrev pub IsSent : List ℕ → List ℕ → Bool → Type 0
IsSent pending rest heard = pending ≡ [] → (rest ≡ []) ⊎ (heard ≡ true)
