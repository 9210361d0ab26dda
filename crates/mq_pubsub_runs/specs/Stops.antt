-- Why the work over a connection ends early.
use Rattle.std.specs.Prelude.{⊤, Result, Ok, Err}
use Rattle.mq_pubsub_runs.specs.declared.stop.Stop.{Stop}
use Rattle.mq_pubsub_runs.specs.declared.stop.Stop.TheVariants.{Connection, Application}

-- not the source or the printer failed
abbrev pub IsConnection : Stop → Type 0
IsConnection (Connection error) = ⊤
IsConnection (Application error) = ⊥

-- the connection or a request over it failed
abbrev pub IsBroken : Result ⊤ Stop → Type 0
IsBroken (Ok done) = ⊥
IsBroken (Err stop) = IsConnection stop

abbrev pub IsOk : {E : Type 0} → Result ⊤ E → Type 0
IsOk (Ok done) = ⊤
IsOk (Err error) = ⊥

abbrev pub IsErr : {E : Type 0} → Result ⊤ E → Type 0
IsErr (Ok done) = ⊥
IsErr (Err error) = ⊤
