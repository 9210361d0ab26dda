-- The end of a session gets a connection, or loses it (3.1.2.4, 3.1.4, 3.2).
use Rattle.std.specs.Prelude.{ℕ, [], ◌≡◌, List, Some}
use Rattle.mq_packet.specs.declared.connect.Connect.{Connect}
use Rattle.mq_packet.specs.Encoding.{encodings}
use Rattle.mq_packet.specs.declared.message.Message.{Message}
use Rattle.mq_end.specs.State.{EndState, Room, no_bytes}
use Rattle.mq_end.specs.Ready.{HasConnectRoom}
use Rattle.mq_end.specs.End.{over}
use Rattle.mq_end.specs.declared.state.State.TheVariants.{Connected}
use Rattle.mq_route.specs.Arrives.{greeting}
use Rattle.mq_route.specs.declared.connection_state.ConnectionTerms.{ConnectionTerms}
use Rattle.mq_tables.specs.declared.sessions.session.BrokerSession.{BrokerSession}
use Rattle.mq_tables.specs.Sessions.{session_at, with_server}

-- an end after it processed a CONNECT on a new connection, now: CONNACK and the packets to send
-- again are queued (4.4)
abbrev pub connected_end : Connect → ℕ → EndState → EndState
connected_end connect now state = record state { end = (greeting connect state.end).end; output = encodings (greeting connect state.end).out; held = []; last_activity = now }

-- an end with other room
abbrev pub roomed : Room → EndState → EndState
roomed room state = record state { room = room }

-- the end of the session of a key processed a CONNECT, for which room was made
pub record HasConnected (connect : Connect) (now key : ℕ) (old new : List BrokerSession) : Type 0 where
  pub session : BrokerSession
  pub there : session_at key old ≡ Some session
  pub room : Room
  pub after : new ≡ with_server key (connected_end connect now (roomed room session.end)) old

-- the end of the session of a key has other room
pub record IsRoomed (key : ℕ) (old new : List BrokerSession) : Type 0 where
  pub session : BrokerSession
  pub there : session_at key old ≡ Some session
  pub room : Room
  pub after : new ≡ with_server key (roomed room session.end) old

-- the session of a key has room to process this CONNECT on a new connection, then to send these
-- messages and `more` bytes besides
pub record HasConnectRoomAt (connect : Connect) (key : ℕ) (messages : List Message) (more : ℕ) (sessions : List BrokerSession) : Type 0 where
  pub session : BrokerSession
  pub there : session_at key sessions ≡ Some session
  pub connect_end : HasConnectRoom connect messages more session.end

-- an end without connection and pending output, which keeps its room
abbrev pub left : EndState → EndState
left state = record state { end = over state.end; held = []; output = [] }

-- an end without connection and pending output
abbrev pub parted : EndState → EndState
parted state = record state { end = over state.end; held = []; output = []; room = no_bytes state.room }

-- an end that continues a connection with these terms, whose last packet arrived at this time
abbrev pub continued : ConnectionTerms → ℕ → EndState → EndState
continued terms last_activity state = record state {
  end = record state.end { state = Connected; clean = terms.clean_session; keep_alive = terms.keep_alive };
  last_activity = last_activity;
}

-- the end of the session of a key continues a connection
pub record HasContinued (terms : ConnectionTerms) (last_activity key : ℕ) (old new : List BrokerSession) : Type 0 where
  pub session : BrokerSession
  pub there : session_at key old ≡ Some session
  pub after : new ≡ with_server key (continued terms last_activity session.end) old
