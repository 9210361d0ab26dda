-- The command `serve`.
use Rattle.std.specs.Prelude.{ℕ, List, Option, None}
use Rattle.mq_cli.specs.declared.jobs.Serve.{Serve}
use Rattle.mq_serve.specs.Printed.{IsServeRun}
use Rattle.mq_serve.specs.declared.serve_end.ServeEnd.{ServeEnd}

-- `serve` for the number of connections of the arguments, which reports some end or none
abbrev pub IsServeCommand : Serve → ℕ → List ℕ → Type 0
IsServeCommand words status text =
    (end : Option ServeEnd) × IsServeRun words.connections None end status text
