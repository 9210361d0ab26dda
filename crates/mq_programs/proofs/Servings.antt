-- The command `serve`.
use Rattle.std.proofs.Common.{◌≡◌, ◌⊎◌, ◌<◌, ◌≤◌, ℕ, List, Option, None, inl, inr, subst, arith}
use Rattle.mq_cli.specs.declared.jobs.Serve.{Serve}
use Rattle.mq_packet.specs.Lines.{Prints}
use Rattle.mq_serve.specs.Printed.{IsServeRun}
use Rattle.mq_serve.specs.declared.serve_end.ServeEnd.{ServeEnd}
use Rattle.mq_programs.specs.Serving.{IsServeCommand}

pub no_workers : (workers : ℕ) → (workers ≡ 0) ⊎ (64 < workers) → 0 < workers → workers ≤ 64 → ⊥
no_workers workers (inl none) some few = absurd (omega arith)
no_workers workers (inr many) some few = absurd (omega arith)

pub ran : (words : Serve) (count status : ℕ) (end : Option ServeEnd) (old new : Option (List ℕ)) → count ≡ words.connections → Prints old new (IsServeRun count None end status)
    → Prints old new (IsServeCommand words status)
ran words count status end old new same run =
    (run.0, run.1, (end, subst (λ (n : ℕ). IsServeRun n None end status run.0) same run.2))
