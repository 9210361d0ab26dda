use Rattle.std.proofs.Common.{subst, sym}
use Rattle.mq_serve.specs.Working.{AreReceipts}
use Rattle.mq_serve.specs.declared.server.Retention.{Retention}
use Rattle.mq_serve.proofs.server.ServerWorkers.run_one.Goals as goal

pub returns : goal.returns
returns g c = (
  c.serve_keeping.ensures.worked,
  subst (λ (r : Retention). AreReceipts r c.args.part.share c.serve_keeping.result.share c.serve_keeping.result.receipts.items) (sym c.in-Kept.is) (c.serve_keeping.ensures.receipts c.in-Kept.field-0),
)
