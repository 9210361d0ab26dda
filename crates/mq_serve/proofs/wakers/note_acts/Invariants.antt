use Rattle.std.proofs.Common.{◌≡◌, ◌<◌, ◌≤◌, ℕ, get_or}
use Rattle.mq_serve.specs.Inside.Wakers.{after_acts, uncalled, vacant}
use Rattle.mq_serve.proofs.wakers.note_acts.Given as goal

abbrev pub invariant-loop-number : goal.invariant-loop-number
invariant-loop-number l =
    ((k : ℕ) → k < l.number → get_or l.seats k vacant ≡ after_acts k l.acts (uncalled (get_or l.initial.seats k vacant)))
    × ((k : ℕ) → l.number ≤ k → get_or l.seats k vacant ≡ get_or l.initial.seats k vacant)
