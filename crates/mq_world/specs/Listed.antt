-- The lists of a side as contracts see them.
use Rattle.std.specs.Prelude.{ℕ, ◌≡◌, List, ◌++◌, length}
use Rattle.mq_topic.specs.declared.qos.Qos.{Qos}
use Rattle.mq_topic.specs.declared.qos.Qos.TheVariants.{Q0, Q1, Q2}
use Rattle.mq_packet.specs.declared.message.Message.{Message}
use Rattle.mq_world.specs.declared.account.Account.{Account}
use Rattle.mq_world.specs.Half.{Accepted, HandedOn}

-- The messages that a side accepted.
abbrev pub accepted_in : Account → Accepted
accepted_in account =
    record { at_most_once = account.accepted_at_most_once.items; at_least_once = account.accepted_at_least_once.items; exactly_once = account.accepted_exactly_once.items }

-- The messages that it delivered.
abbrev pub handed_in : Account → HandedOn
handed_in account = record { at_most_once = account.handed_at_most_once.items; at_least_once = account.handed_at_least_once.items; exactly_once = account.handed_exactly_once.items }

-- how many messages of a quality of service were accepted
abbrev pub accepted_count : Qos → Accepted → ℕ
accepted_count Q0 accepted = length accepted.at_most_once
accepted_count Q1 accepted = length accepted.at_least_once
accepted_count Q2 accepted = length accepted.exactly_once

-- The number of delivered messages of one QoS.
abbrev pub handed_count : Qos → HandedOn → ℕ
handed_count Q0 handed = length handed.at_most_once
handed_count Q1 handed = length handed.at_least_once
handed_count Q2 handed = length handed.exactly_once

-- Each list of accepted messages is as it was, perhaps with more messages behind.
pub record AcceptedGrows (old new : Accepted) : Type 0 where
  pub at_most_once : (more : List Message) × (new.at_most_once ≡ old.at_most_once ++ more)
  pub at_least_once : (more : List (ℕ × Message)) × (new.at_least_once ≡ old.at_least_once ++ more)
  pub exactly_once : (more : List Message) × (new.exactly_once ≡ old.exactly_once ++ more)

-- Each list of delivered messages is as it was, perhaps with more messages behind.
pub record HandedGrows (old new : HandedOn) : Type 0 where
  pub at_most_once : (more : List Message) × (new.at_most_once ≡ old.at_most_once ++ more)
  pub at_least_once : (more : List Message) × (new.at_least_once ≡ old.at_least_once ++ more)
  pub exactly_once : (more : List Message) × (new.exactly_once ≡ old.exactly_once ++ more)

-- The list of freed places is as it was, perhaps with more places behind.
abbrev pub FreedGrows : List ℕ → List ℕ → Type 0
FreedGrows old new = (more : List ℕ) × (new ≡ old ++ more)
