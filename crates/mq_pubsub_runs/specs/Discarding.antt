-- How a client discards the session that a server has.
use Rattle.std.specs.Prelude.{◌≡◌, true, List, [], ◌∷◌}
use Rattle.mq_end.specs.declared.happening.Happening.{Happening}
use Rattle.mq_end.specs.declared.reason.CloseReason.{CloseReason}
use Rattle.mq_end.specs.End.{is_up}
use Rattle.mq_client.specs.Course.{Leaves, Moment, Opening, Went}

-- packets were received, and answered
pub record Hears (start end : Moment) : Type 0 where
  pub told : List Happening
  pub reasons : List CloseReason
  pub went : Went start end [] told reasons

-- A client connected with a clean session, so that the server has no session of it any more
-- (3.1.2.4). The server accepted the connection (3.2), and then the client left (3.14).
pub record Discards (start end : Moment) : Type 0 where
  pub opened : Moment
  pub last : Moment
  pub opens : Went start opened (Opening true ∷ []) [] []
  pub hears : Hears opened last
  pub up : is_up last.client.link.end.state ≡ true
  pub leaves : Leaves last end
