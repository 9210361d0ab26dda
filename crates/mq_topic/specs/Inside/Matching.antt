-- Matching as a function (4.7). Only proofs cite these definitions.
use Rattle.std.specs.Prelude.{ℕ, List, [], Option, Some, None}
use Rattle.std.specs.Borrow.{Bor}
use Rattle.mq_topic.specs.Topic.{levels}

-- The remaining levels of a text.
abbrev pub levels_left : Option (Bor (List ℕ)) → List (List ℕ)
levels_left None = []
levels_left (Some text) = levels text.now
