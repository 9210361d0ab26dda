-- Which words are steps.
use Rattle.std.proofs.Common.{◌≡◌, ◌≢◌, ℕ, Bool, true, false, List, [], ◌∷◌, codes, subst}
use Rattle.mq_world.specs.declared.event.Event.TheVariants as events
use Rattle.mq_schedule.specs.Schedule.{IsAmount, Writes, publish_word}
use Rattle.mq_schedule.specs.declared.schedule.Step.{Step}
use Rattle.mq_schedule.specs.declared.schedule.Step.TheVariants.{Event, Settle}

-- `to` is no word for a publication
to_publishes : (retain : Bool) → codes "to" ≢ publish_word retain
to_publishes false e = absurd (cc e)
to_publishes true e = absurd (cc e)

-- A word that is not an amount is not the amount of a delivery.
pub no_amount : (words : List (List ℕ)) (to count : List ℕ) → words ≡ to ∷ count ∷ [] → ((n : ℕ) → ¬ IsAmount n count) → (step : Step) → ¬ Writes step (codes "to" ∷ words)
no_amount words to count e none (Event (events.Publish side m)) h = let same : codes "to" ≡ publish_word m.retain = cc (h.words_are) in to_publishes m.retain same
no_amount words to count e none (Event (events.Deliver side n)) h = let same : h.0 ≡ count = cc (h.2, e) in none n (subst (IsAmount n) same h.1)
no_amount words to count e none (Event (events.Drop side)) h = absurd (cc h)
no_amount words to count e none (Event events.Restart) h = absurd (cc h)
no_amount words to count e none (Event events.Leave) h = absurd (cc h)
no_amount words to count e none (Event events.Open) h = absurd (cc h)
no_amount words to count e none (Event (events.Tick side n)) h = absurd (cc h.2)
no_amount words to count e none Settle h = absurd (cc h)
