-- The memory that a handle owns.
use Rattle.std.specs.Prelude.{Option, None, Some}
use base.Fml.{Fml, ftrue}
use denote.RattleType.{RattleType}
use denote.RawPtr.{Ptr}
use Rattle.libc.specs.Heap.{chunk}
use Rattle.std_alloc.specs.Box.Ownership.{box_owns}

-- The value at this address, with the right to free its block, if there is a value.
abbrev pub boxed : (R : RattleType) → Ptr → Option R.Denot → Fml
boxed R pointer None = ftrue
boxed R pointer (Some value) = box_owns chunk R pointer value
