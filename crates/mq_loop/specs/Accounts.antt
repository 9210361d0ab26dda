-- The bytes of each connection in the steps of a broker (4.2).
use Rattle.std.specs.Prelude.{◌≡◌, ℕ, Bool, true, false, List, [], ◌∷◌, ◌++◌, Option, Some, None, IfSome, if◌then◌else◌, slice_index_or}
use Rattle.mq_route.specs.declared.conn.Conn.{Conn}
use Rattle.mq_route.specs.declared.event.HubEvent.{HubEvent}
use Rattle.mq_route.specs.declared.event.HubEvent.TheVariants.{Opened, Bytes, Ended, Tick, Collect}
use Rattle.mq_route.specs.declared.reply.HubReply.{HubReply}
use Rattle.mq_route.specs.Hub.{HubState}
use Rattle.mq_route.specs.Routed.{same_conn}
use Rattle.mq_route.specs.Runs.{Episode, Follows}
use Rattle.mq_loop.specs.declared.broker.SnapshotNote.{SnapshotNote}
use Rattle.mq_loop.specs.Calls.{Call}

-- The account of a connection in steps: whether it was opened and has not ended; and since it was
-- opened, the bytes that its steps took, and those that its `Collect`s returned.
pub record ConnectionAccount : Type 0 where
  pub is_open : Bool
  pub took : List ℕ
  pub collected : List ℕ

abbrev pub unopened : ConnectionAccount
unopened = record { is_open = false; took = []; collected = [] }

abbrev pub opened : ConnectionAccount
opened = record { is_open = true; took = []; collected = [] }

-- a step continues the account of a connection
abbrev pub account_step : Conn → HubEvent → HubReply → ConnectionAccount → ConnectionAccount
account_step conn (Opened other) reply account = if same_conn other conn then opened else account
account_step conn (Bytes other piece) reply account =
    if same_conn other conn then record account { took = account.took ++ piece } else account
account_step conn (Ended other) reply account = if same_conn other conn then unopened else account
account_step conn (Tick now) reply account = account
account_step conn (Collect other) reply account =
    if same_conn other conn then record account { collected = account.collected ++ reply.output } else account

-- the account of a connection after further steps
abbrev pub account_from : Conn → List Episode → ConnectionAccount → ConnectionAccount
account_from conn [] account = account
account_from conn (episode ∷ episodes) account =
    account_from conn episodes (account_step conn episode.event episode.reply account)

abbrev pub account_of : Conn → List Episode → ConnectionAccount
account_of conn made = account_from conn made unopened

-- A connection, for contracts: the bytes read from its socket and those that the socket took, if
-- they are known; the bytes that were read and wait for a step; the output that is kept for it;
-- whether bytes that were read are lost, because an allocation failed; whether its socket takes no
-- byte now, or it is not known; and whether nothing more comes from its socket, or it failed.
pub record Line : Type 0 where
  pub came : Option (List ℕ)
  pub went : Option (List ℕ)
  pub unread : List ℕ
  pub kept : List ℕ
  pub broken : Bool
  pub full : Bool
  pub finished : Bool

-- A connection carries the bytes of its account, in order: those that were read are those that its
-- steps took, followed by those that wait for a step, unless some are lost; those that its socket
-- took, followed by those that are kept, are those that its `Collect`s returned.
pub record Carries (account : ConnectionAccount) (line : Line) : Type 0 where
  pub is_open : account.is_open ≡ true
  pub came : line.broken ≡ false → IfSome line.came (λ bytes. bytes ≡ account.took ++ line.unread)
  pub went : IfSome line.went (λ bytes. bytes ++ line.kept ≡ account.collected)

-- a place has a connection that carries its bytes, or none that is open
abbrev pub CarriesAt : ConnectionAccount → Option Line → Type 0
CarriesAt account None = account.is_open ≡ false
CarriesAt account (Some line) = Carries account line

-- the name of the connection at a place
abbrev pub name_at : ℕ → Conn
name_at place = record { worker = 0; nth = place }

-- the connection at a place
abbrev pub line_at : ℕ → List (Option Line) → Option Line
line_at place lines = slice_index_or lines place None

-- A broker and the connections that it serves, for contracts: the broker at the beginning, the
-- broker now, the connection at each place, whether all steps of the broker are committed, the
-- calls on the broker, if they are known, and its notes about snapshots that no log has yet.
pub record ServedState : Type 0 where
  pub base : HubState
  pub hub : HubState
  pub lines : List (Option Line)
  pub committed : Bool
  pub calls : Option (List Call)
  pub notes : List SnapshotNote

abbrev pub served_state : HubState → HubState → List (Option Line) → Bool → Option (List Call) → List SnapshotNote → ServedState
served_state base hub lines committed calls notes =
    record { base = base; hub = hub; lines = lines; committed = committed; calls = calls; notes = notes }

-- the same without notes
abbrev pub without_notes : ServedState → ServedState
without_notes served = record served { notes = [] }

-- All steps form one chain of one broker. In these steps each connection carries its bytes, and
-- those connections are open that exist.
pub record AreCarried (base hub : HubState) (lines : List (Option Line)) : Type 0 where
  pub made : List Episode
  pub follows : Follows base made hub
  pub carries : (place : ℕ) → CarriesAt (account_of (name_at place) made) (line_at place lines)

abbrev pub IsServed : ServedState → Type 0
IsServed served = AreCarried served.base served.hub served.lines
