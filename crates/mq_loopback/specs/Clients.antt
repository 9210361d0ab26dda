-- The runs of the clients of a loopback file over their connections.
use Rattle.std.specs.Prelude.{◌≡◌, ◌≤◌, ℕ, None, false, true, List, [], ◌∷◌, ◌++◌, length, map}
use Rattle.std.specs.List.{flat_map}
use Rattle.mq_decode.specs.Limits.{strict}
use Rattle.mq_packet.specs.declared.message.Message.{Message}
use Rattle.mq_packet.specs.declared.packet.Request.{Request}
use Rattle.mq_end.specs.declared.config.ClientConfig.{ClientConfig}
use Rattle.mq_end.specs.declared.happening.Happening.{Happening}
use Rattle.mq_end.specs.End.{blank_end}
use Rattle.mq_end.specs.Publishing.{ClientState}
use Rattle.mq_client.specs.Collecting.{IsAnswered, handed}
use Rattle.mq_client.specs.Course.{Ask, Leaves, Moment, Opening, Publication, Subscription, Went}
use Rattle.mq_client.specs.Publishing.{AskedAll}
use Rattle.mq_loopback.specs.declared.client.Client.{Client}
use Rattle.mq_loopback.specs.declared.client.Collector.{Collector}
use Rattle.mq_loopback.specs.declared.client.Publisher.{Publisher}
use Rattle.mq_loopback.specs.declared.client.Role.{Role}
use Rattle.mq_loopback.specs.declared.client.Role.TheVariants as roles

-- the configuration of a client with this identifier (3.1.3.1): no keep-alive, no will, no user
-- name, no window
abbrev pub client_config : List ℕ → ClientConfig
client_config name =
    record { id = name; keep_alive = 0; will = None; login = None; limits = strict 1048576; capacity = 100; window = None }

-- a client without a session
pub record IsNewClient (name : List ℕ) (client : ClientState) : Type 0 where
  pub config : client.config ≡ client_config name
  pub end : client.link.end ≡ blank_end None
  pub capacity : client.link.capacity ≡ 100

-- ---- collectors

-- The end received packets, and the messages that it delivered were appended, in their order.
pub record Receives (before after : Moment) (old new : List Message) : Type 0 where
  pub told : List Happening
  pub went : Went before after [] told []
  pub kept : new ≡ old ++ flat_map handed told

-- the subscription that a collector requests (3.8.3)
abbrev pub request_of : Collector → Request
request_of collector = record { filter = collector.filter; qos = collector.qos }

-- A connection with a clean session began, and the subscription was requested once and granted. The
-- messages that were delivered before were appended.
pub record Subscribed (before after : Moment) (collector : Collector) (old new : List Message) : Type 0 where
  pub told : List Happening
  pub went : Went before after (Opening true ∷ Subscription (request_of collector ∷ []) ∷ []) told []
  pub answered : IsAnswered true told
  pub kept : new ≡ old ++ flat_map handed told

-- The client received messages and then left.
pub record Collected (before after : Moment) (old new : List Message) : Type 0 where
  pub last : Moment
  pub receives : Receives before last old new
  pub leaves : Leaves last after

-- ---- publishers

-- the message of a payload
abbrev pub message_of : Publisher → List ℕ → Message
message_of publisher payload = record { topic = publisher.topic; payload = payload; qos = publisher.qos; retain = false }

-- the messages of all payloads, in their order
abbrev pub asks_of : Publisher → List Ask
asks_of publisher = map (λ payload. Publication (message_of publisher payload)) publisher.payloads

-- A connection with a clean session began, and all payloads were published, in their order, and
-- acknowledged. Then the client left.
pub record Published (before after : Moment) (publisher : Publisher) : Type 0 where
  pub last : Moment
  pub asked : AskedAll before last (Opening true ∷ asks_of publisher)
  pub leaves : Leaves last after

-- ---- clients

-- A client did what its role says, and these messages were delivered to it.
abbrev pub IsRoleDone : Role → Moment → Moment → List Message → Type 0
IsRoleDone (roles.Collector collector) before after messages =
    (subscribed : Moment) × (first : List Message) × Subscribed before subscribed collector [] first
    × Collected subscribed after first messages × (collector.count ≤ length messages)
IsRoleDone (roles.Publisher publisher) before after messages = (messages ≡ []) × Published before after publisher

-- A new client with the identifier of this one did what its role says, and these messages were
-- delivered to it.
abbrev pub IsClientRun : Client → List Message → Type 0
IsClientRun client messages =
    (before : Moment) × (after : Moment) × IsNewClient client.name before.client
    × IsRoleDone client.role before after messages
