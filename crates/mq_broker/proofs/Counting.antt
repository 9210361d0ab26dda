-- The numbers of copies that clients missed.
use Rattle.std.proofs.Common.{◌≡◌, ℕ, ◌+◌, ◌-◌, ◌^◌, min, List, None, Result, Ok, Err, OnOk, ap, inl, inr, ◌∙◌}
use Rattle.std.specs.BTreeMap.{insert_entry}
use Rattle.std.specs.Map.{lookup}
use Rattle.std.specs.Option.{unwrap_or}
use Rattle.std.specs.Ordering.{is_eq, nat_cmp}
use Rattle.std.specs.Prelude.{OnErr}
use Rattle.mq_broker.specs.Missed.{amount}
use Rattle.mq_broker.specs.Inside.Missed.{CountsOne}

-- one more is inserted, unless an allocation fails
pub counted : {A B : Type 0} (r : Result A B) (key number more : ℕ) (old new : List (ℕ × ℕ)) → number ≡ amount key old → more ≡ min (number + 1) (2 ^ 64 - 1) → OnOk r (new ≡ insert_entry nat_cmp old key more)
    → OnErr r (lookup (λ other. is_eq (nat_cmp key other)) old ≡ None) → OnErr r (new ≡ old) → CountsOne key old new
counted (Ok x) key number more old new own size put absent same = inl (put ∙ ap (λ n. insert_entry nat_cmp old key n) (size ∙ ap (λ n. min (n + 1) (2 ^ 64 - 1)) own))
counted (Err e) key number more old new own size put absent same = inr (ap (λ o. unwrap_or o 0) absent, same)
