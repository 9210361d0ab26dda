-- Why a picture is not written to its end.
use Rattle.std.specs.Prelude.{⊤}
use Rattle.mq_picture.specs.declared.picture.PictureFault.{PictureFault}
use Rattle.mq_picture.specs.declared.picture.PictureFault.TheVariants.{Io, Memory}

-- A fact that holds if an allocation failed.
abbrev pub OnMemory : PictureFault → Type 0 → Type 0
OnMemory (Io error) P = ⊤
OnMemory Memory P = P
