-- The connections that a list of acts closes for one reason.
use Rattle.std.specs.Prelude.{List, []}
use Rattle.std.specs.List.{flat_map}
use Rattle.mq_route.specs.declared.act.Act.{Act}
use Rattle.mq_route.specs.declared.act.Act.TheVariants as acts
use Rattle.mq_route.specs.declared.close.HubClose.{HubClose}
use Rattle.mq_route.specs.declared.conn.Conn.{Conn}

-- the connection that an act closes, if its reason is picked
unfoldable pub closed_by : (HubClose → Conn → List Conn) → Act → List Conn
closed_by picks (acts.Closed conn why) = picks why conn
closed_by picks (acts.Up conn client present) = []
closed_by picks (acts.Took client message) = []
closed_by picks (acts.Placed client message) = []
closed_by picks (acts.Missed client message) = []
closed_by picks (acts.Subscribed client topic_filter qos) = []
closed_by picks (acts.Unsubscribed client topic_filter) = []
closed_by picks (acts.Will client message) = []
closed_by picks (acts.WillDropped client) = []
closed_by picks (acts.Removed client) = []

-- the connections that close for a picked reason
abbrev pub closes_for : (HubClose → Conn → List Conn) → List Act → List Conn
closes_for picks log = flat_map (closed_by picks) log
