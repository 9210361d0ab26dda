-- The effect of a list of acts on subscriptions (3.8.4, 3.10.4), connections and retained messages
-- (3.3.1.3), by the last act that matters.
use Rattle.std.specs.Prelude.{◌≡◌, ◌⊎◌, ◌↔◌, ℕ, Bool, true, false, not, ◌&&◌, ◌||◌, ◌==◌, List, [], ◌∷◌, ◌++◌, length, Option, Some, None}
use Rattle.std.specs.List.{list_any}
use Rattle.std.specs.Str.{bytes_eq}
use Rattle.mq_topic.specs.declared.qos.Qos.{Qos}
use Rattle.mq_topic.specs.Rows.{row_qos}
use Rattle.mq_packet.specs.declared.message.Message.{Message}
use Rattle.mq_route.specs.declared.conn.Conn.{Conn}
use Rattle.mq_route.specs.declared.act.Act.{Act}
use Rattle.mq_route.specs.declared.act.Act.TheVariants as acts
use Rattle.mq_route.specs.Copies.{is_hidden_name, is_of}
use Rattle.mq_route.specs.Routed.{same_conn, seen}

-- An act in the list sets something, and no later act ends it.
pub record Since (Sets : Act → Type 0) (ends : Act → Bool) (log : List Act) : Type 0 where
  pub before : List Act
  pub act : Act
  pub after : List Act
  pub is : log ≡ before ++ act ∷ after
  pub sets : Sets act
  pub lasts : list_any ends after ≡ false

-- ---- subscriptions

-- the act changes the client's subscription with this filter
unfoldable pub changes_row : ℕ → List ℕ → Act → Bool
changes_row client topic_filter (acts.Subscribed other other_filter qos) = client == other && bytes_eq topic_filter other_filter
changes_row client topic_filter (acts.Unsubscribed other other_filter) = client == other && bytes_eq topic_filter other_filter
changes_row client topic_filter (acts.Removed other) = client == other
changes_row client topic_filter (acts.Up conn other present) = false
changes_row client topic_filter (acts.Took other message) = false
changes_row client topic_filter (acts.Placed other message) = false
changes_row client topic_filter (acts.Missed other message) = false
changes_row client topic_filter (acts.Will other message) = false
changes_row client topic_filter (acts.WillDropped other) = false
changes_row client topic_filter (acts.Closed conn why) = false

-- the act gives the subscription this QoS
abbrev pub Subscribes : ℕ → List ℕ → Qos → Act → Type 0
Subscribes client topic_filter qos (acts.Subscribed other other_filter other_qos) = (client ≡ other) × (topic_filter ≡ other_filter) × (qos ≡ other_qos)
Subscribes client topic_filter qos act = ⊥

-- ---- connections

-- the client connects on this connection
abbrev pub Connects : ℕ → Conn → Act → Type 0
Connects client conn (acts.Up other_conn other present) = (client ≡ other) × (conn ≡ other_conn)
Connects client conn act = ⊥

-- the client connects, or the connection closes
unfoldable pub ends_connection : ℕ → Conn → Act → Bool
ends_connection client conn (acts.Up other_conn other present) = other == client
ends_connection client conn (acts.Closed other_conn why) = same_conn conn other_conn
ends_connection client conn (acts.Took other message) = false
ends_connection client conn (acts.Placed other message) = false
ends_connection client conn (acts.Missed other message) = false
ends_connection client conn (acts.Subscribed other topic_filter qos) = false
ends_connection client conn (acts.Unsubscribed other topic_filter) = false
ends_connection client conn (acts.Will other message) = false
ends_connection client conn (acts.WillDropped other) = false
ends_connection client conn (acts.Removed other) = false

-- ---- retained messages

-- the message that the act publishes
unfoldable pub published : Act → Option Message
published (acts.Took client message) = Some message
published (acts.Will client message) = Some message
published (acts.Up conn client present) = None
published (acts.Placed client message) = None
published (acts.Missed client message) = None
published (acts.Subscribed client topic_filter qos) = None
published (acts.Unsubscribed client topic_filter) = None
published (acts.WillDropped client) = None
published (acts.Closed conn why) = None
published (acts.Removed client) = None

-- the message has RETAIN, and its topic name doesn't begin with `$` (3.3.1.3, 4.7.2)
abbrev pub may_retain : Message → Bool
may_retain message = message.retain && not (is_hidden_name message.topic)

abbrev pub is_empty : Message → Bool
is_empty message = length message.payload == 0

-- the broker retains the message when it publishes this one
abbrev pub IsRetained : Message → Option Message → Type 0
IsRetained message None = ⊥
IsRetained message (Some other) = (message ≡ other) × (may_retain other ≡ true) × (is_empty other ≡ false)

abbrev pub Retains : Message → Act → Type 0
Retains message act = IsRetained message (published act)

-- the message replaces or removes the retained message of this topic name
abbrev pub is_newer : List ℕ → Option Message → Bool
is_newer name None = false
is_newer name (Some message) = may_retain message && is_of name message

abbrev pub replaces : List ℕ → Act → Bool
replaces name act = is_newer name (published act)

-- the message has an empty payload and removes the retained message of this topic name
abbrev pub is_clearing : List ℕ → Option Message → Bool
is_clearing name None = false
is_clearing name (Some message) = may_retain message && (is_empty message && is_of name message)

abbrev pub clears : List ℕ → Act → Bool
clears name act = is_clearing name (published act)

abbrev pub IsIn : Message → List Message → Type 0
IsIn message [] = ⊥
IsIn message (first ∷ rest) = (message ≡ first) ⊎ IsIn message rest

abbrev pub has_name : List ℕ → List Message → Bool
has_name name messages = list_any (is_of name) messages

-- no two of these messages have the same topic name
abbrev pub AreApart : List Message → Type 0
AreApart [] = Unit {0}
AreApart (message ∷ messages) = (has_name message.topic messages ≡ false) × AreApart messages

-- a message of the first topic name is before one of the second
abbrev pub precedes : List ℕ → List ℕ → List Message → Bool
precedes first second [] = false
precedes first second (message ∷ messages) = (is_of first message && has_name second messages) || precedes first second messages

-- At some time in the list, the first topic name has a retained message and the second has none. No
-- later act removes the first.
pub record IsOlder (viewer : ℕ) (first second : List ℕ) (log : List Act) : Type 0 where
  pub before : List Act
  pub after : List Act
  pub is : log ≡ before ++ after
  pub there : has_name first (seen viewer before).retained ≡ true
  pub absent : has_name second (seen viewer before).retained ≡ false
  pub lasts : list_any (clears first) after ≡ false

pub record HistoryLaws : Type 0 where
  -- a subscription has this QoS exactly if the last act on it gave it this QoS
  pub rows : (viewer client : ℕ) (topic_filter : List ℕ) (qos : Qos) (log : List Act)
      → (row_qos client topic_filter (seen viewer log).rows ≡ Some qos) ↔ Since (Subscribes client topic_filter qos) (changes_row client topic_filter) log
  -- a client is connected on a connection exactly if its last `Up` was on it, and it has not closed
  -- since
  pub connection : (client : ℕ) (conn : Conn) (log : List Act)
      → ((seen client log).up ≡ Some conn) ↔ Since (Connects client conn) (ends_connection client conn) log
  -- a message is retained exactly if an act published it with RETAIN and a payload, and no later
  -- act published to its topic name with RETAIN
  pub retained : (viewer : ℕ) (message : Message) (log : List Act) → IsIn message (seen viewer log).retained ↔ Since (Retains message) (replaces message.topic) log
  -- a topic name has at most one retained message
  pub once : (viewer : ℕ) (log : List Act) → AreApart (seen viewer log).retained
  -- retained messages are in the order in which their topic names got a message, since the act that
  -- last removed it
  pub order : (viewer : ℕ) (first second : List ℕ) (log : List Act) → precedes first second (seen viewer log).retained ≡ true → IsOlder viewer first second log
