-- The numbers of copies that clients missed. Only proofs cite these definitions.
use Rattle.std.specs.Prelude.{◌≡◌, ◌⊎◌, ℕ, ◌+◌, ◌^◌, ◌-◌, min, List}
use Rattle.std.specs.BTreeMap.{insert_entry}
use Rattle.std.specs.Ordering.{nat_cmp}
use Rattle.mq_route.specs.declared.act.Act.{Act}
use Rattle.mq_route.specs.declared.act.Act.TheVariants as acts
use Rattle.mq_broker.specs.Missed.{Numbers, amount, without}

-- the number of this session is this one
abbrev pub with_amount : ℕ → ℕ → List (ℕ × ℕ) → List (ℕ × ℕ)
with_amount key number numbers = insert_entry nat_cmp numbers key number

-- One more for this session, up to the greatest `u64`. Nothing changes if an allocation fails for a
-- session without a number.
abbrev pub CountsOne : ℕ → List (ℕ × ℕ) → List (ℕ × ℕ) → Type 0
CountsOne key old new =
    (new ≡ with_amount key (min (amount key old + 1) (2 ^ 64 - 1)) old)
    ⊎ ((amount key old ≡ 0) × (new ≡ old))

-- An act is counted: one more for a client that misses a copy, and no number any more for a session
-- that is removed, except in the log.
abbrev pub CountsAct : Act → Numbers → Numbers → Type 0
CountsAct (acts.Missed key message) old new =
    CountsOne key old.totals new.totals × CountsOne key old.unlogged new.unlogged
CountsAct (acts.Removed key) old new = new ≡ record old { totals = without key old.totals }
CountsAct act old new = new ≡ old
