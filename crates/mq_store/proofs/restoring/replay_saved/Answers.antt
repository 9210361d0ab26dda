use Rattle.mq_store.proofs.Restores.{ended_from}
use Rattle.mq_store.proofs.restoring.replay_saved.Goals as goal

pub returns : goal.returns
returns c = (
  c.in_ok-ended.ended,
  c.in_ok-bytes.ensures.bytes,
  c.in_ok-bytes.ensures.storable,
  ended_from c.args.parts.nth c.args.parts.config.now c.args.parts.hub.now c.args.journal.now c.in_ok-begun.begun c.in_ok-ended.ended c.in_ok-events.events
      c.in_ok-begun.ensures.config c.in_ok-begun.ensures.hub c.in_ok-begun.ensures.whole c.in_ok-events.ensures c.in_ok-ended.ensures,
)
