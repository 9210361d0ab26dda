-- The calls of a loop on its broker: which steps were made, in which order, and when they were
-- committed. Only proofs cite these definitions.
use Rattle.std.specs.Prelude.{◌≡◌, ℕ, false, List, [], Option}
use Rattle.mq_loop.specs.Calls.{Call, with_calls, IsCovered, places_read, Each, Ages, ages_read}

-- A part of a round that handles no bytes.
pub record Quietly (old new : Option (List Call)) : Type 0 where
  pub made : List Call
  pub calls : new ≡ with_calls old made
  pub covered : IsCovered false made
  pub nothing : places_read made ≡ []

-- Bytes of connections of one age are handled.
pub record ReadsOf (ages : Ages) (age : ℕ) (old new : Option (List Call)) : Type 0 where
  pub made : List Call
  pub calls : new ≡ with_calls old made
  pub covered : IsCovered false made
  pub aged : Each (λ other. other ≡ age) (ages_read ages made)
