-- Why bytes are not read on. Only proofs cite these definitions.
use Rattle.std.specs.Prelude.{⊤}
use Rattle.mq_cli.specs.declared.front.Stop.{Stop}
use Rattle.mq_cli.specs.declared.front.Stop.TheVariants.{Io, Memory}

-- A fact that holds if a read failed.
abbrev pub OnIo : Stop → Type 0 → Type 0
OnIo (Io error) P = P
OnIo Memory P = ⊤
