-- The lists of SUBSCRIBE, SUBACK and UNSUBSCRIBE, as they are encoded (3.8.3, 3.9.3, 3.10.3).
use Rattle.std.specs.Prelude.{◌≡◌, ℕ, List, ◌++◌}
use Rattle.std.specs.List.{AllByRecursion, flat_map}
use Rattle.mq_wire.specs.Text.{counted}
use Rattle.mq_topic.specs.Topic.{IsTopicFilter}
use Rattle.mq_packet.specs.declared.packet.Request.{Request}
use Rattle.mq_packet.specs.declared.packet.SubAckCode.{SubAckCode}
use Rattle.mq_packet.specs.Encoding.{code_fields, request_fields}
use Rattle.mq_packet.specs.Values.{IsRequest}
use Rattle.mq_bytes.specs.declared.items.ItemKind.{ItemKind}
use Rattle.mq_bytes.specs.declared.items.ItemKind.TheVariants as kinds

-- An encoded item.
abbrev pub IsItem : ItemKind → List ℕ → Type 0
IsItem kinds.Request bytes = (request : Request) × IsRequest request × (bytes ≡ request_fields request)
IsItem kinds.Code bytes = (code : SubAckCode) × (bytes ≡ code_fields code)
IsItem kinds.Filter bytes = (filter : List ℕ) × IsTopicFilter filter × (bytes ≡ counted filter)

-- Encoded items, one behind the other.
abbrev pub AreItems : ItemKind → List ℕ → Type 0
AreItems kind bytes =
    (items : List (List ℕ)) × AllByRecursion (IsItem kind) items × (flat_map (λ item. item) items ≡ bytes)

-- The packet type and the first byte of the packet with such a list (2.2.1, 2.2.2).
abbrev pub kind_number : ItemKind → ℕ
kind_number kinds.Request = 8
kind_number kinds.Code = 9
kind_number kinds.Filter = 10

abbrev pub first_of : ItemKind → ℕ
first_of kinds.Request = 0x82
first_of kinds.Code = 0x90
first_of kinds.Filter = 0xa2
