-- The numbers of copies that clients missed.
use Rattle.std.specs.Prelude.{ℕ, List}
use Rattle.std.specs.BTreeMap.{is_at}
use Rattle.std.specs.Map.{lookup, remove_entry}
use Rattle.std.specs.Option.{unwrap_or}
use Rattle.std.specs.Ordering.{is_eq, nat_cmp}

-- The numbers of the sessions that exist, and those that the log doesn't have yet, by session.
pub record Numbers : Type 0 where
  pub totals : List (ℕ × ℕ)
  pub unlogged : List (ℕ × ℕ)

-- the number of a session, or 0
abbrev pub amount : ℕ → List (ℕ × ℕ) → ℕ
amount key numbers = unwrap_or (lookup (λ other. is_eq (nat_cmp key other)) numbers) 0

-- this session has no number
abbrev pub without : ℕ → List (ℕ × ℕ) → List (ℕ × ℕ)
without key numbers = remove_entry (is_at (nat_cmp key)) numbers
