-- Packet identifiers (2.3.1).
use Rattle.std.specs.Prelude.{ℕ, ◌<◌}

abbrev pub IsIdentifier : ℕ → Type 0
IsIdentifier id = (0 < id) × (id < 65536)
