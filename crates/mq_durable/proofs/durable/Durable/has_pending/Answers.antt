use Rattle.mq_durable.proofs.Kept.{pending_test}
use Rattle.mq_durable.proofs.durable.Durable.has_pending.Goals as goal

pub returns : goal.returns
returns g c =
    let d = c.self.inside in
    pending_test c.has_bytes.result d.base.value d.hub d.journal.disk c.as_slice.result.now d.entry.items d.condition c.args.self.now c.self.view_is c.self.invariant.encoded c.as_slice.ensures.value
    c.has_bytes.ensures.yes c.has_bytes.ensures.no
