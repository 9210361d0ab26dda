-- The contents of a `MemoryDisk`.
use Rattle.std.specs.Prelude.{ℕ, List, Vec}
use Rattle.std.specs.declared.alloc.Global.{Global}
use Rattle.mq_log.specs.declared.memory.MemoryDisk.{MemoryDisk}

-- the content of the file
abbrev pub memory_bytes : MemoryDisk → List ℕ
memory_bytes disk = disk.bytes.items

-- its earlier contents, oldest first
abbrev pub past_contents : MemoryDisk → List (Vec ℕ Global)
past_contents disk = disk.past.items
