-- Setting the subscriptions of a client, and putting them back (3.8.4).
use Rattle.std.specs.Prelude.{ℕ, List, [], ◌∷◌}
use Rattle.mq_topic.specs.Rows.{Row, with_row}
use Rattle.mq_packet.specs.declared.packet.Request.{Request}

-- the rows after a client subscribes, request by request (3.8.4)
abbrev pub with_rows : ℕ → List Request → List Row → List Row
with_rows key [] rows = rows
with_rows key (request ∷ rest) rows = with_rows key rest (with_row key request.filter request.qos rows)

-- ---- rows that are put back
