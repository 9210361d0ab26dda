-- The rows of a store of subscriptions: a map from client and filter to QoS, as the ordered list of
-- its rows. Only proofs cite these definitions.
use Rattle.std.specs.Prelude.{ℕ, ◌≤◌, List, [], ◌∷◌}
use Rattle.mq_topic.specs.declared.qos.Qos.{Qos}

-- No entry belongs to a client above this one.
abbrev pub UpTo : ℕ → List (ℕ × Qos) → Type 0
UpTo client [] = Unit {0}
UpTo client (entry ∷ found) = (entry.0 ≤ client) × UpTo client found
