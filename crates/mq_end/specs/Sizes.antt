-- The remaining length of packets that calls send (2.2.3).
use Rattle.std.specs.Prelude.{ℕ, ◌+◌, List, [], ◌∷◌, length}
use Rattle.mq_topic.specs.declared.qos.Qos.{Qos}
use Rattle.mq_topic.specs.declared.qos.Qos.TheVariants.{Q0, Q1, Q2}
use Rattle.mq_packet.specs.declared.message.Message.{Message}
use Rattle.mq_packet.specs.declared.packet.Request.{Request}
use Rattle.mq_packet.specs.declared.packet.SubAckCode.{SubAckCode}

-- the packet identifier's two bytes are there with quality of service 1 and 2 (3.3.2.2)
abbrev pub identifier_size : Qos → ℕ
identifier_size Q0 = 0
identifier_size Q1 = 2
identifier_size Q2 = 2

-- PUBLISH (3.3.2, 3.3.3): topic name, identifier, payload
abbrev pub publish_size : Message → ℕ
publish_size message = (2 + length message.topic) + (identifier_size message.qos + length message.payload)

-- for each request of SUBSCRIBE its filter and a byte (3.8.3)
abbrev pub requests_size : List Request → ℕ
requests_size [] = 0
requests_size (request ∷ rest) = (2 + length request.filter) + (1 + requests_size rest)

-- SUBSCRIBE (3.8.2, 3.8.3): identifier, requests
abbrev pub subscribe_size : List Request → ℕ
subscribe_size requests = 2 + requests_size requests

-- the filters of UNSUBSCRIBE (3.10.3)
abbrev pub filters_size : List (List ℕ) → ℕ
filters_size [] = 0
filters_size (filter ∷ rest) = (2 + length filter) + filters_size rest

-- UNSUBSCRIBE (3.10.2, 3.10.3): identifier, filters
abbrev pub unsubscribe_size : List (List ℕ) → ℕ
unsubscribe_size filters = 2 + filters_size filters

-- SUBACK (3.9.2, 3.9.3): identifier, a byte for each code
abbrev pub suback_size : List SubAckCode → ℕ
suback_size codes = 2 + length codes

-- UNSUBACK (3.11.2)
abbrev pub unsuback_size : ℕ
unsuback_size = 2
