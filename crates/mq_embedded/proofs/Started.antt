-- New clients with a saved session.
use Rattle.std.proofs.Common.{ℕ, ◌<◌, List, [], ◌∷◌, length, Result, Ok, Err, inl, inr, arith}
use Rattle.mq_flow.specs.SavedTwo.{IsSavedAs}
use Rattle.mq_flow.specs.declared.saved.Saved.{Saved}
use Rattle.mq_end.specs.declared.config.ClientConfig.{ClientConfig}
use Rattle.mq_embedded.specs.declared.fault.CallFault.{CallFault}
use Rattle.mq_embedded.specs.Calls.{WithEvents}
use Rattle.mq_embedded.specs.Starts.{IsLoadFault, Loads, Starts}

pub continued : (config : ClientConfig) (bytes : List ℕ) (saved : Saved) (r : Result WithEvents CallFault) → 0 < length bytes → IsSavedAs saved bytes → Loads config saved r → Starts config bytes r
continued config [] saved r some is loads = absurd (omega arith)
continued config (b ∷ bs) saved (Ok client) some is loads = (saved, is, loads)
continued config (b ∷ bs) saved (Err why) some is loads = inr (saved, is, loads)

pub not_loaded : (config : ClientConfig) (bytes : List ℕ) (why : CallFault) → 0 < length bytes → IsLoadFault bytes why → Starts config bytes (Err why)
not_loaded config [] why some fault = absurd (omega arith)
not_loaded config (b ∷ bs) why some fault = inl fault
