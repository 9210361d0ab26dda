-- Setting and removing subscriptions of a client (3.8.4, 3.10.4).
use Rattle.std.specs.Prelude.{ℕ, List, [], ◌∷◌, map}
use Rattle.mq_topic.specs.Rows.{Row, without_row}
use Rattle.mq_packet.specs.declared.packet.Request.{Request}
use Rattle.mq_route.specs.declared.act.Act.{Act}
use Rattle.mq_route.specs.declared.act.Act.TheVariants as acts
use Rattle.mq_route.specs.declared.act.Act.TheVariants as acts

-- the rows after it unsubscribes, filter by filter (3.10.4)
abbrev pub without_rows : ℕ → List (List ℕ) → List Row → List Row
without_rows key [] rows = rows
without_rows key (topic_filter ∷ rest) rows = without_rows key rest (without_row key topic_filter rows)

-- the acts that report it
abbrev pub subscribed_acts : ℕ → List Request → List Act
subscribed_acts key requests = map (λ request. acts.Subscribed key request.filter request.qos) requests

abbrev pub unsubscribed_acts : ℕ → List (List ℕ) → List Act
unsubscribed_acts key filters = map (λ topic_filter. acts.Unsubscribed key topic_filter) filters
