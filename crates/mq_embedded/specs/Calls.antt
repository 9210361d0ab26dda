-- The calls of a client, by those of its end.
use Rattle.std.specs.Prelude.{◌≡◌, ◌⊎◌, ℕ, ◌+◌, ◌<◌, Bool, true, false, List, [], ◌∷◌, ◌++◌, length, min, take, drop, Option, None, Some, Result, Ok, Err}
use Rattle.std.specs.List.{flat_map}
use Rattle.mq_topic.specs.Qos.{qos_number}
use Rattle.mq_topic.specs.Topic.{IsTopicFilter}
use Rattle.mq_packet.specs.declared.message.Message.{Message}
use Rattle.mq_packet.specs.declared.packet.Packet.TheVariants as packets
use Rattle.mq_packet.specs.declared.packet.Request.{Request}
use Rattle.mq_packet.specs.Encoding.{code_fields}
use Rattle.mq_flow.specs.SavedTwo.{saved_form_two}
use Rattle.mq_bytes.specs.Arguments.{IsMessageOf}
use Rattle.mq_end.specs.declared.happening.Happening.{Happening}
use Rattle.mq_end.specs.declared.happening.Happening.TheVariants as happens
use Rattle.mq_end.specs.declared.reason.CloseReason.{CloseReason}
use Rattle.mq_end.specs.Both.{publish_refusal}
use Rattle.mq_end.specs.Client.{connects, leaves, leave_refusal, subscribes, subscribe_refusal, unsubscribes, unsubscribe_refusal}
use Rattle.mq_end.specs.End.{is_live, over}
use Rattle.mq_end.specs.Publishing.{Accepts, ClientState, connect_of}
use Rattle.mq_end.specs.Receiving.{Acts, ClientReceives}
use Rattle.mq_end.specs.Requests.{Requests, Ticks}
use Rattle.mq_end.specs.Resuming.{kept_session}
use Rattle.mq_end.specs.State.{PutsOut, bytes_less}
use Rattle.mq_embedded.specs.declared.event.Event.{Event}
use Rattle.mq_embedded.specs.declared.fault.CallFault.{CallFault}
use Rattle.mq_embedded.specs.declared.fault.CallFault.TheVariants as faults
use Rattle.mq_embedded.specs.Arguments.{AreMessageParts, AreRequestParts, IsArgumentFault, IsRequestOf}
use Rattle.mq_embedded.specs.Faults.{IsRefusedFor}

-- A client end, and the events that its user has not taken yet.
pub record WithEvents : Type 0 where
  pub end : ClientState
  pub events : List Happening

-- The options of an end stay.
abbrev pub KeepsOptions : ClientState → ClientState → Type 0
KeepsOptions old new =
    (new.link.limit ≡ old.link.limit) × (new.link.capacity ≡ old.link.capacity)
    × (new.config ≡ old.config)

-- A connection begins at time `now`: CONNECT is queued (3.1).
abbrev pub Begins : ℕ → Bool → WithEvents → WithEvents → Type 0
Begins now clean old new =
    (new.end.link.end ≡ (connects (connect_of old.end.config clean) old.end.link.end).end)
    × PutsOut (packets.Connect (connect_of old.end.config clean) ∷ []) [] new.end.link.output
    × (new.end.link.held ≡ []) × (new.end.link.last_activity ≡ now)
    × KeepsOptions old.end new.end × (new.events ≡ old.events)

abbrev pub Connects : ℕ → Bool → WithEvents → WithEvents → Result (Unit {0}) CallFault → Type 0
Connects now clean old new (Ok done) = Begins now clean old new
Connects now clean old new (Err why) = (why ≡ faults.Memory) × (new ≡ old)

-- Bytes arrive (4.2, 4.6, 4.8). The new events are those that the end reports. Without a connection
-- nothing changes.
abbrev pub Hears : List ℕ → WithEvents → WithEvents → Option CloseReason → Type 0
Hears bytes old new closed =
    (is_live old.end.link.end.state ≡ true
    → (acknowledged : List ℕ) × ClientReceives bytes old.end.link new.end.link new.events acknowledged closed)
    × (is_live old.end.link.end.state ≡ false
    → (new.end ≡ old.end) × (new.events ≡ []) × (closed ≡ None))
    × KeepsOptions old.end new.end

-- Bytes are refused exactly while events are pending.
abbrev pub Receives : List ℕ → WithEvents → WithEvents → Result (Option CloseReason) CallFault → Type 0
Receives bytes old new (Ok closed) = (old.events ≡ []) × Hears bytes old new closed
Receives bytes old new (Err why) = (why ≡ faults.Events) × (old.events ≡ [] → ⊥) × (new ≡ old)

-- The first pending bytes are moved to the front of a buffer: all, or the number that fits.
abbrev pub TakesOutput : ℕ → WithEvents → WithEvents → List ℕ → List ℕ → Type 0
TakesOutput count old new room filled =
    (count ≡ min (length old.end.link.output) (length room))
    × (filled ≡ take count old.end.link.output ++ drop count room)
    × (new ≡ record old {
      end = record old.end {
        link = record old.end.link {
          output = drop count old.end.link.output;
          room = bytes_less count old.end.link.room;
        };
      };
    })

-- The number of an identifier, 0 if there is none.
abbrev pub number_of : Option ℕ → ℕ
number_of None = 0
number_of (Some id) = id

-- The end accepts the message with these parts.
abbrev pub AcceptsParts : List ℕ → List ℕ → ℕ → Bool → ℕ → WithEvents → WithEvents → Type 0
AcceptsParts topic payload qos retain id old new =
    (message : Message) × IsMessageOf topic payload qos retain message
    × (answer : Option ℕ) × Accepts answer message old.end.link new.end.link × (id ≡ number_of answer)
    × (new.end.config ≡ old.end.config) × (new.events ≡ old.events)

-- Why an end refuses the message with these parts.
abbrev pub RefusesParts : List ℕ → List ℕ → ℕ → Bool → ClientState → CallFault → Type 0
RefusesParts topic payload qos retain end why =
    (message : Message) × IsMessageOf topic payload qos retain message
    × IsRefusedFor (publish_refusal end.link.limit.most end.link.capacity message end.link.end) why

abbrev pub Publishes : List ℕ → List ℕ → ℕ → Bool → WithEvents → WithEvents → Result ℕ CallFault → Type 0
Publishes topic payload qos retain old new (Ok id) =
    AcceptsParts topic payload qos retain id old new
Publishes topic payload qos retain old new (Err why) =
    (new ≡ old) × (IsArgumentFault (AreMessageParts topic payload qos) why
    ⊎ RefusesParts topic payload qos retain old.end why)

-- The end sends SUBSCRIBE of this filter.
abbrev pub SubscribesTo : List ℕ → ℕ → ℕ → WithEvents → WithEvents → Type 0
SubscribesTo filter qos id old new =
    (requests : List Request) × IsRequestOf filter qos requests
    × Requests id (subscribes id requests old.end.link.end) old.end.link new.end.link
    × (new.end.config ≡ old.end.config) × (new.events ≡ old.events)

-- Why an end refuses it.
abbrev pub RefusesRequest : List ℕ → ℕ → ClientState → CallFault → Type 0
RefusesRequest filter qos end why =
    (requests : List Request) × IsRequestOf filter qos requests
    × IsRefusedFor (subscribe_refusal end.link.limit.most end.link.capacity requests end.link.end) why

abbrev pub Subscribes : List ℕ → ℕ → WithEvents → WithEvents → Result ℕ CallFault → Type 0
Subscribes filter qos old new (Ok id) = SubscribesTo filter qos id old new
Subscribes filter qos old new (Err why) =
    (new ≡ old) × (IsArgumentFault (AreRequestParts filter qos) why
    ⊎ RefusesRequest filter qos old.end why)

-- The end sends UNSUBSCRIBE of this filter.
abbrev pub UnsubscribesFrom : List ℕ → ℕ → WithEvents → WithEvents → Type 0
UnsubscribesFrom filter id old new =
    Requests id (unsubscribes id (filter ∷ []) old.end.link.end) old.end.link new.end.link
    × (new.end.config ≡ old.end.config) × (new.events ≡ old.events)

-- Why an end refuses it.
abbrev pub RefusesFilter : List ℕ → ClientState → CallFault → Type 0
RefusesFilter filter end why =
    IsRefusedFor (unsubscribe_refusal end.link.limit.most end.link.capacity (filter ∷ []) end.link.end) why

abbrev pub Unsubscribes : List ℕ → WithEvents → WithEvents → Result ℕ CallFault → Type 0
Unsubscribes filter old new (Ok id) = UnsubscribesFrom filter id old new
Unsubscribes filter old new (Err why) =
    (new ≡ old) × (IsArgumentFault (IsTopicFilter filter) why ⊎ RefusesFilter filter old.end why)

-- PINGREQ is queued if it is due at this time (3.1.2.10).
abbrev pub Pings : ℕ → WithEvents → WithEvents → Result (Unit {0}) CallFault → Type 0
Pings now old new (Ok done) =
    Ticks now old.end.link new.end.link × (new.end.config ≡ old.end.config)
    × (new.events ≡ old.events)
Pings now old new (Err why) = (why ≡ faults.Memory) × (new ≡ old)

-- The connection is lost (4.2).
abbrev pub Drops : WithEvents → WithEvents → Type 0
Drops old new =
    (new.end.link.end ≡ over old.end.link.end) × (new.end.link.output ≡ [])
    × (new.end.link.held ≡ []) × KeepsOptions old.end new.end × (new.events ≡ old.events)

-- DISCONNECT is queued, and the end closes (3.14).
abbrev pub Leaves : WithEvents → WithEvents → Result (Unit {0}) CallFault → Type 0
Leaves old new (Ok done) =
    Acts (leaves old.end.link.end) old.end.link new.end.link × (new.end.config ≡ old.end.config)
    × (new.events ≡ old.events)
Leaves old new (Err why) = (new ≡ old) × IsRefusedFor (leave_refusal old.end.link.end) why

-- The saved form of the session is written to the front of a buffer (4.1).
abbrev pub saved_of : WithEvents → List ℕ
saved_of client =
    saved_form_two client.end.config.id client.end.link.end.known (kept_session client.end.link)

abbrev pub Saves : WithEvents → List ℕ → List ℕ → Result ℕ CallFault → Type 0
Saves client room filled (Ok count) =
    (count ≡ length (saved_of client)) × (filled ≡ saved_of client ++ drop count room)
Saves client room filled (Err faults.Room) =
    (length room < length (saved_of client)) × (filled ≡ room)
Saves client room filled (Err why) = (why ≡ faults.Memory) × (filled ≡ room)

-- No sent message waits for an acknowledgement (4.3).
abbrev pub IsIdle : WithEvents → Type 0
IsIdle client =
    (client.end.link.end.book.entries ≡ []) × (client.end.link.end.book.released ≡ [])

-- The numbers of an event.
abbrev pub ShowsMessage : Event → Message → Type 0
ShowsMessage event message =
    (event.kind ≡ 2) × (event.qos ≡ qos_number message.qos) × (event.retain ≡ message.retain)
    × (event.topic_size ≡ length message.topic) × (event.size ≡ length message.topic + length message.payload)

abbrev pub ShowsEvent : Event → Happening → Type 0
ShowsEvent event (happens.Up present) = (event.kind ≡ 1) × (event.session_present ≡ present) × (event.size ≡ 0)
ShowsEvent event (happens.Handed message) = ShowsMessage event message
ShowsEvent event (happens.Subscribe id requests) = event.size ≡ 0
ShowsEvent event (happens.Unsubscribe id filters) = event.size ≡ 0
ShowsEvent event (happens.SubAck id codes) = (event.kind ≡ 3) × (event.id ≡ id) × (event.size ≡ length codes)
ShowsEvent event (happens.UnsubAck id) = (event.kind ≡ 4) × (event.id ≡ id) × (event.size ≡ 0)
ShowsEvent event happens.Pong = (event.kind ≡ 5) × (event.size ≡ 0)

-- The bytes of an event.
abbrev pub event_bytes : Happening → List ℕ
event_bytes (happens.Handed message) = message.topic ++ message.payload
event_bytes (happens.SubAck id codes) = flat_map code_fields codes
event_bytes happening = []

-- The first event is taken, and its bytes are at the front of the buffer; or there is none.
-- An event whose bytes do not fit stays.
abbrev pub TakesEvent : List Happening → List Happening → Event → List ℕ → List ℕ → Result (Unit {0}) CallFault → Type 0
TakesEvent [] left event room filled (Ok done) = (left ≡ []) × (event.kind ≡ 0) × (filled ≡ room)
TakesEvent [] left event room filled (Err why) = ⊥
TakesEvent (happening ∷ more) left event room filled (Ok done) =
    (left ≡ more) × ShowsEvent event happening
    × (filled ≡ event_bytes happening ++ drop (length (event_bytes happening)) room)
TakesEvent (happening ∷ more) left event room filled (Err why) =
    (why ≡ faults.Room) × (length room < length (event_bytes happening))
    × (left ≡ happening ∷ more) × ShowsEvent event happening × (filled ≡ room)
