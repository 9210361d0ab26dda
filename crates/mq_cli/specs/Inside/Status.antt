-- The exit status of each command, and its output. Only proofs cite these definitions.
use Rattle.std.specs.Prelude.{ℕ, ◌==◌, if◌then◌else◌}
use Rattle.mq_cli.specs.declared.stream.StreamEnd.{StreamEnd}
use Rattle.mq_cli.specs.declared.stream.StreamEnd.TheVariants.{Whole, Held}

-- The end if this many bytes follow the packets.
abbrev pub end_of_rest : ℕ → StreamEnd
end_of_rest held = if held == 0 then Whole else Held held
