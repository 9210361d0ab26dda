-- Closing a connection on which a client is connected (3.1.2.4, 4.8).
use Rattle.std.specs.Prelude.{ℕ, Bool, Option, None}
use Rattle.mq_packet.specs.declared.connect.Will.{Will}
use Rattle.mq_end.specs.End.{over}
use Rattle.mq_route.specs.declared.act.Act.TheVariants as acts
use Rattle.mq_route.specs.declared.close.HubClose.{HubClose}
use Rattle.mq_route.specs.declared.conn.Conn.{Conn}
use Rattle.mq_route.specs.declared.connection_state.ConnectionState.TheVariants.{Closed, AwaitingConnect, ConnectedAs}
use Rattle.mq_route.specs.Hub.{end_of, with_end, key_on, stage_of, with_left}
use Rattle.mq_route.specs.Work.{Work, remove_if, said, shut, with_sessions, shut_down, will_after}
use Rattle.mq_route.specs.declared.connection_state.ConnectionState.{ConnectionState}

-- A close up to the publication of the client's will: the connection is closed, the session's end
-- loses it, and the session ends with it if asked (3.1.2.4).
unfoldable pub parts : Conn → HubClose → ℕ → Bool → Work → Work
parts conn why key clean work = remove_if clean key (with_sessions (with_end key (over (end_of key work.hub.sessions))) (said (acts.Closed conn why) (shut conn work)))

-- a connection is closed, and its client's session stores this time as that of the disconnect
abbrev pub close_at : ℕ → Conn → HubClose → Bool → Work → Work
close_at now conn why fits work = with_sessions (with_left (key_on (stage_of conn work.hub.connections)) now) (shut_down conn why fits work)

-- the will to publish after that, if any (3.1.2.5, 3.14.4)
abbrev pub will_left : HubClose → ConnectionState → Option Will
will_left why AwaitingConnect = None
will_left why (ConnectedAs key terms last_activity) = will_after why terms.will
will_left why Closed = None
