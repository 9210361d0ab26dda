-- The end of a broker over sockets.
use Rattle.std.specs.Prelude.{◌≡◌, ◌⊎◌, ℕ, List, [], ◌∷◌, Option, Some, None, Result, Ok, Err}
use Rattle.mq_book.specs.declared.work_end.WorkEnd.{WorkEnd}
use Rattle.mq_book.specs.declared.work_end.WorkEnd.TheVariants as works
use Rattle.mq_serve.specs.declared.serve_end.ServeEnd.{ServeEnd}
use Rattle.mq_serve.specs.declared.serve_end.ServeEnd.TheVariants.{Listen, Net, JournalFull, Refused, Memory}
use Rattle.mq_serve.specs.declared.server.Retention.{Retention}
use Rattle.mq_serve.specs.declared.server.Retention.TheVariants.{Passing, Kept}

-- the maximum number of entries of the journal
abbrev pub retention_limit : Retention → ℕ
retention_limit (Passing limit) = limit
retention_limit (Kept limit) = limit

-- the exit status of a program that ends early
abbrev pub end_status : ServeEnd → ℕ
end_status (Listen kind) = 1
end_status (Net kind) = 1
end_status JournalFull = 1
end_status Refused = 1
end_status Memory = 3

-- the end of a server, of which a worker stopped early
abbrev pub end_of_work : WorkEnd → ServeEnd
end_of_work works.JournalFull = JournalFull
end_of_work works.Memory = Memory
end_of_work (works.Hub why) = Refused

-- the reason of the first worker that stopped early
abbrev pub first_stop : List (Result ℕ WorkEnd) → Option WorkEnd
first_stop [] = None
first_stop (Ok count ∷ ends) = first_stop ends
first_stop (Err why ∷ ends) = Some why

-- The exit status of a program is 0, and it reports no end; or it is that of the end which it
-- reports.
abbrev pub IsReported : ℕ → Option ServeEnd → Option ServeEnd → Type 0
IsReported status old new =
    ((status ≡ 0) × (new ≡ old)) ⊎ ((why : ServeEnd) × (new ≡ Some why) × (status ≡ end_status why))
