-- Counting the packets of a reader. Only proofs cite these definitions.
use Rattle.std.specs.Prelude.{ℕ, ◌==◌, if◌then◌else◌}
use Rattle.mq_cli.specs.declared.count.CountEnd.{CountEnd}
use Rattle.mq_cli.specs.declared.count.CountEnd.TheVariants.{Whole, Cut}

-- The end if this many bytes without a fault follow the packets.
abbrev pub count_rest : ℕ → CountEnd
count_rest held = if held == 0 then Whole else Cut
