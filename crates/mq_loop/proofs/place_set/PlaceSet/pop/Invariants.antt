use Rattle.std.proofs.Common.{◌≡◌, false, true, ◌<◌, ℕ, deque_len}
use Rattle.mq_loop.specs.Places.{is_in, AreListed}
use Rattle.mq_loop.proofs.place_set.PlaceSet.pop.Given as goal

abbrev pub invariant-loop-place : goal.invariant-loop-place
invariant-loop-place l = record {
  flags : l.self-inside.flags ≡ l.initial.self-inside.flags;
  has_unlisted : l.self-inside.has_unlisted ≡ l.initial.self-inside.has_unlisted;
  listed : l.self-inside.has_unlisted ≡ false → AreListed l.self-inside.flags.items l.self-inside.listed.items;
}

abbrev pub decreases-loop-place : goal.decreases-loop-place
decreases-loop-place l = deque_len l.self-inside.listed

abbrev pub invariant-loop-at : goal.invariant-loop-at
invariant-loop-at l = record {
  flags : l.self-inside.flags ≡ l.initial.self-inside.flags;
  unlisted : l.self-inside.has_unlisted ≡ true;
  passed : (place : ℕ) → place < l.at → is_in place l.self-inside.flags.items ≡ false;
}
