-- Files of a journal.
use Rattle.std.specs.Prelude.{◌≡◌, ◌⊎◌, ◌≤◌, ℕ, List, length, slice_index}

-- A file that a broker may have begun: it is empty, or its first byte is a gate, 0 or 1.
abbrev pub IsBegun : List ℕ → Type 0
IsBegun bytes = (length bytes ≡ 0) ⊎ (slice_index bytes 0 ≤ 1)
