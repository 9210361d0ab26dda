use Rattle.mq_pubsub_programs.proofs.Deliveries.{on_delivers}
use Rattle.mq_pubsub_programs.proofs.publishing.publish_from.Goals as goal

pub returns : goal.returns
returns g c =
    let feed = c.feed_of-feed.ensures in (
      c.in_ok-outcome.outcome.end,
      c.report.ensures,
      on_delivers _ _ _ _ _ _ _ _ _ _ _ c.requires feed.topic feed.qos feed.retain feed.supply c.in_ok-outcome.ensures.done c.in_ok-outcome.ensures.ended,
    )
