-- A table as the list of its pairs.
use Rattle.std.proofs.Common.{◌≡◌, ℕ, ◌+◌, List, [], ◌∷◌, length, refl, ap, arith}
use Rattle.std.specs.Map.Iter.{TakesFirst, ShowsInOrder, GivesInOrder}
use Rattle.std.proofs.iter.runs.Sources.{from_front, as_is}
use Rattle.mq_flow.specs.declared.table.Held.{Held}
use Rattle.mq_flow.specs.declared.table.Held.TheVariants.{Waiting, Released}
use Rattle.mq_flow.specs.Held.{messages, releases}

-- ---- An iterator, viewed as the remaining items

module _ {A X : Type 0} (shows : A → X) where
  pub shown_in_order : ShowsInOrder shows
  shown_in_order = from_front (TakesFirst shows) shows (λ s. s) (λ s t h. ap length h.0) (λ s x t h. h)

pub given_in_order : {X : Type 0} → GivesInOrder X
given_in_order p s = as_is p p.from (shown_in_order (λ x. x) p s)

-- ---- messages and released identifiers

-- each pair is of the one or of the other kind
pub both_kinds : (ps : List (ℕ × Held)) → length ps ≡ length (messages ps) + length (releases ps)
both_kinds [] = refl
both_kinds ((i, Waiting e) ∷ ps) = let h = both_kinds ps in omega arith
both_kinds ((i, Released j) ∷ ps) = let h = both_kinds ps in omega arith
