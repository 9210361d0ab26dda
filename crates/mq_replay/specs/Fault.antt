-- Why a replay stops before its end.
use Rattle.std.specs.Prelude.{⊤}
use Rattle.mq_replay.specs.declared.run.ReplayFault.{ReplayFault}
use Rattle.mq_replay.specs.declared.run.ReplayFault.TheVariants.{Io, Memory}

-- A fact that holds if an allocation failed.
abbrev pub OnMemory : ReplayFault → Type 0 → Type 0
OnMemory (Io error) P = ⊤
OnMemory Memory P = P
