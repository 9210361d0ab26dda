-- The end of a broker over sockets. Only proofs cite these definitions.
use Rattle.std.specs.Prelude.{ℕ, zero, suc, Option, Some, None}
use Rattle.std.specs.declared.io.ErrorKind.{ErrorKind}
use Rattle.mq_book.specs.declared.work_end.WorkEnd.{WorkEnd}
use Rattle.mq_serve.specs.declared.serve_end.ServeEnd.{ServeEnd}
use Rattle.mq_serve.specs.declared.serve_end.ServeEnd.TheVariants.{Net}
use Rattle.mq_serve.specs.Ends.{end_of_work}

-- why a server is not finished: a worker stopped early, or connections were not accepted
abbrev pub stop_of : Option WorkEnd → ℕ → ErrorKind → Option ServeEnd
stop_of (Some why) left failure = Some (end_of_work why)
stop_of None zero failure = None
stop_of None (suc left) failure = Some (Net failure)
