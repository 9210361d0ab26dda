-- Why bytes are not read on.
use Rattle.std.specs.Prelude.{◌≡◌, ◌⊎◌, ◌≤◌, ◌^◌, ⊤, ℕ, Bool, true, List, length, Option, IfSome}
use Rattle.mq_cli.specs.declared.front.Stop.{Stop}
use Rattle.mq_cli.specs.declared.front.Stop.TheVariants.{Io, Memory}

-- A fact that holds if an allocation failed.
abbrev pub OnMemory : Stop → Type 0 → Type 0
OnMemory (Io error) P = ⊤
OnMemory Memory P = P

-- there are more bytes than 64 bits count
abbrev pub IsTooLong : Option (List ℕ) → Type 0
IsTooLong left = IfSome left (λ bytes. 2 ^ 64 ≤ length bytes)

-- a read may fail, or there are more bytes than 64 bits count
abbrev pub IsUnread : Option (List ℕ) → Bool → Type 0
IsUnread left fails = (fails ≡ true) ⊎ IsTooLong left
