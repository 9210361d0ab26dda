-- The parts of a `FreezingDisk`.
use Rattle.std.specs.Prelude.{ℕ}
use Rattle.mq_log.specs.declared.freezing.FreezingDisk.{FreezingDisk}

-- the wrapped disk
abbrev pub disk_of : {D : Type 0} → FreezingDisk D → D
disk_of freezing = freezing.disk

-- the number of calls that it still passes on
abbrev pub calls_left : {D : Type 0} → FreezingDisk D → ℕ
calls_left freezing = freezing.calls_left
