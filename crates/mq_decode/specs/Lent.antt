-- The meaning of validated bytes.
use Rattle.std.specs.Prelude.{◌≡◌, ℕ, ◌+◌, ◌<◌, ◌≤◌, ◌^◌, true, false, List, [], length, slice_range, Option, Some, None, Result, Ok, Err, IsOk}
use Rattle.mq_topic.specs.declared.qos.Qos.{Qos}
use Rattle.mq_topic.specs.Topic.{is_topic_name}
use Rattle.mq_packet.specs.declared.connect.Connect.{Connect}
use Rattle.mq_packet.specs.declared.publish.Delivery.{Delivery}
use Rattle.mq_packet.specs.Publication.{Publication, fits_delivery}
use Rattle.mq_decode.specs.declared.fault.BadField.{BadField}
use Rattle.mq_decode.specs.Lists.{items_at}

-- the items of a list that was read
abbrev pub items_of : {A : Type 0} → Result (List A) BadField → List A
items_of (Ok items) = items
items_of (Err bad) = []

-- the remaining items at the end of a list, and that they were tested
abbrev pub left_in : {A : Type 0} → (List ℕ → Result (A × List ℕ) BadField) → List ℕ → List A
left_in item rest = items_of (items_at item (length rest) rest)

abbrev pub IsLeft : {A : Type 0} → (List ℕ → Result (A × List ℕ) BadField) → List ℕ → Type 0
IsLeft item rest = IsOk (items_at item (length rest) rest)

-- the CONNECT that was read
abbrev pub connect_in : Result Connect BadField → Connect
connect_in (Ok connect) = connect
connect_in (Err bad) = record { client_id = []; clean_session = false; keep_alive = 0; will = None; login = None }

-- how many bytes an identifier takes (3.3.2.2)
abbrev pub delivery_len : Option Delivery → ℕ
delivery_len None = 0
delivery_len (Some delivery) = 2

-- The number of bytes of a PUBLISH before its payload (3.3.3): the topic name with its length, and
-- the identifier.
abbrev pub payload_start : List ℕ → Option Delivery → ℕ
payload_start topic delivery = 2 + length topic + delivery_len delivery

-- The fields of a PUBLISH begin with its topic name, and the delivery fits the QoS.
pub record LiesIn (fields topic : List ℕ) (qos : Qos) (delivery : Option Delivery) : Type 0 where
  pub within : payload_start topic delivery ≤ length fields
  pub stands : slice_range fields 2 (2 + length topic) ≡ topic
  pub name : is_topic_name topic ≡ true
  pub fits : fits_delivery qos delivery ≡ true
  pub small : length fields < 2 ^ 28

-- A PUBLISH in a buffer: all its fields, and their meaning.
pub record LentPublish : Type 0 where
  pub fields : List ℕ
  pub publish : Publication
