-- How long the fields of packets are.
use Rattle.std.proofs.Common.{◌≡◌, ℕ, ◌+◌, true, List, [], ◌∷◌, ◌++◌, length, Option, Some, None, refl, arith}
use Rattle.std.specs.List.{flat_map}
use Rattle.std.proofs.lemmas.List.{length-append}
use Rattle.mq_wire.specs.Text.{counted}
use Rattle.mq_topic.specs.declared.qos.Qos.{Qos}
use Rattle.mq_topic.specs.declared.qos.Qos.TheVariants.{Q0, Q1, Q2}
use Rattle.mq_topic.specs.Qos.{qos_number}
use Rattle.mq_packet.specs.declared.message.Message.{Message}
use Rattle.mq_packet.specs.declared.publish.Delivery.{Delivery}
use Rattle.mq_packet.specs.declared.packet.Request.{Request}
use Rattle.mq_packet.specs.declared.packet.SubAckCode.{SubAckCode}
use Rattle.mq_packet.specs.declared.packet.Packet.TheVariants as packets
use Rattle.mq_packet.specs.Publication.{fits_delivery}
use Rattle.mq_packet.specs.Encoding.{fields, delivery_fields, request_fields, code_fields}
use Rattle.mq_end.specs.Sizes.{identifier_size, publish_size, requests_size, filters_size, subscribe_size, unsubscribe_size, suback_size}
use Rattle.mq_end.specs.SizeLaws.{SizeLaws}

counted_size : (t : List ℕ) → length (counted t) ≡ 2 + length t
counted_size t = omega arith

identified : (q : Qos) (d : Option Delivery) → fits_delivery q d ≡ true → length (delivery_fields d) ≡ identifier_size q
identified Q0 None h = refl
identified Q0 (Some d) h = absurd cc
identified Q1 None h = absurd cc
identified Q1 (Some d) h = refl
identified Q2 None h = absurd cc
identified Q2 (Some d) h = refl

publish : (m : Message) (d : Option Delivery) → fits_delivery m.qos d ≡ true → length (fields (packets.Publish (record { message = m; delivery = d }))) ≡ publish_size m
publish m d h =
    let all = length-append (counted m.topic) (delivery_fields d ++ m.payload) in
    let rest = length-append (delivery_fields d) m.payload in
    let topic = counted_size m.topic in
    let id = identified m.qos d h in
    omega arith

requested : (rs : List Request) → length (flat_map request_fields rs) ≡ requests_size rs
requested [] = refl
requested (r ∷ rs) =
    let all = length-append (request_fields r) (flat_map request_fields rs) in
    let one = length-append (counted r.filter) (qos_number r.qos ∷ []) in
    let filter = counted_size r.filter in
    let rest = requested rs in
    omega arith

filtered : (fs : List (List ℕ)) → length (flat_map counted fs) ≡ filters_size fs
filtered [] = refl
filtered (f ∷ fs) =
    let all = length-append (counted f) (flat_map counted fs) in
    let one = counted_size f in
    let rest = filtered fs in
    omega arith

coded : (cs : List SubAckCode) → length (flat_map code_fields cs) ≡ length cs
coded [] = refl
coded (c ∷ cs) =
    let rest = coded cs in
    omega arith

subscribe : (i : ℕ) (requests : List Request) → length (fields (packets.Subscribe i requests)) ≡ subscribe_size requests
subscribe i requests = let rest = requested requests in omega arith

unsubscribe : (i : ℕ) (filters : List (List ℕ)) → length (fields (packets.Unsubscribe i filters)) ≡ unsubscribe_size filters
unsubscribe i filters = let rest = filtered filters in omega arith

suback : (i : ℕ) (codes : List SubAckCode) → length (fields (packets.SubAck i codes)) ≡ suback_size codes
suback i codes = let rest = coded codes in omega arith

pub laws : SizeLaws
laws = record { publish = publish; subscribe = subscribe; unsubscribe = unsubscribe; suback = suback; unsuback = λ i. refl }
