-- The broker that is recovered from a journal. Only proofs cite these definitions.
use Rattle.std.specs.Prelude.{List, [], ◌∷◌, ◌++◌}
use Rattle.mq_route.specs.declared.conn.Conn.{Conn}
use Rattle.mq_route.specs.declared.event.HubEvent.{HubEvent}
use Rattle.mq_route.specs.declared.event.HubEvent.TheVariants.{Opened, Bytes, Ended, Tick, Collect}

-- the connections that events opened, with the one that an event opens
abbrev pub opened_by : HubEvent → List Conn → List Conn
opened_by (Opened conn) conns = conns ++ conn ∷ []
opened_by (Bytes conn piece) conns = conns
opened_by (Ended conn) conns = conns
opened_by (Tick now) conns = conns
opened_by (Collect conn) conns = conns
