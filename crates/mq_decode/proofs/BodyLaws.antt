-- The laws of whole bodies: decoding and encoding are inverse to each other.
use Rattle.std.proofs.Common.{◌≡◌, ℕ, ◌^◌, ◌<◌, Bool, true, false, cond, eqb, List, [], ◌∷◌, ◌++◌, length, Option, Some, None, Ok, Err, refl, ap, subst, ◌∙◌, arith, inl, inr}
use Rattle.std.specs.Prelude.{IfSome}
use Rattle.std.proofs.lemmas.Bool.{eqb-true}
use Rattle.std.proofs.lemmas.List.{append-nil, length-append}
use Rattle.mq_wire.specs.Bytes.{AreBytes}
use Rattle.mq_wire.specs.Number.{number}
use Rattle.mq_wire.specs.Text.{counted}
use Rattle.mq_topic.specs.declared.qos.Qos.{Qos}
use Rattle.mq_topic.specs.declared.qos.Qos.TheVariants.{Q0, Q1, Q2}
use Rattle.mq_topic.specs.Topic.{IsTopicFilter}
use Rattle.mq_packet.specs.declared.connack.ConnAck.{ConnAck}
use Rattle.mq_packet.specs.declared.connack.ConnAck.TheVariants.{Accepted, Refused}
use Rattle.mq_packet.specs.declared.connack.RefusalCode.{RefusalCode}
use Rattle.mq_packet.specs.declared.connack.RefusalCode.TheVariants.{UnacceptableProtocolVersion, IdentifierRejected, ServerUnavailable, BadUserNameOrPassword, NotAuthorized}
use Rattle.mq_packet.specs.declared.packet.Packet.{Packet}
use Rattle.mq_packet.specs.declared.packet.Packet.TheVariants as packets
use Rattle.mq_packet.specs.declared.publish.Delivery.{Delivery}
use Rattle.mq_packet.specs.Codes.{refusal_number, refusal_from}
use Rattle.mq_packet.specs.Identifier.{IsIdentifier}
use Rattle.mq_packet.specs.Publication.{Publication, fits_delivery}
use Rattle.mq_packet.specs.Encoding.{bit, connack_fields, delivery_fields, publish_fields, request_fields, code_fields, fields}
use Rattle.mq_packet.specs.Values.{IsPublication, IsRequest, Always, IsPacket}
use Rattle.mq_decode.specs.declared.fault.FaultKind.TheVariants.{ForbiddenCode, ForbiddenFlags}
use Rattle.mq_decode.specs.declared.kind.Kind.{Kind}
use Rattle.mq_decode.specs.declared.kind.Kind.TheVariants as kinds
use Rattle.mq_decode.specs.declared.kind.PublishFlags.{PublishFlags}
use Rattle.mq_decode.specs.Gives.{◌>>=◌}
use Rattle.mq_decode.specs.Kind.{dup_fits}
use Rattle.mq_decode.specs.Fields.{bad_at, identifier_at, name_at, filter_at, end_at}
use Rattle.mq_decode.specs.Lists.{list_with, request_at, suback_code_at}
use Rattle.mq_decode.specs.Connects.{connect_at}
use Rattle.mq_decode.specs.Bodies.{refusal_or_fault, answer_at, present_at, connack_at, identified_at, delivery_of, delivery_at, publish_at, only_identifier_at, body_at}
use Rattle.mq_decode.proofs.FieldLaws.{Wire, bind_ok, test_ok, ok_is, Takes, takes, identifier_found, identifier_again, name_found, name_again, end_found}
use Rattle.mq_decode.proofs.ListLaws.{chosen, some_is, filter_laws, request_laws, suback_code_laws, list_with_found, list_with_again}
use Rattle.mq_decode.proofs.ConnectLaws.{connect_found, connect_again}
use Rattle.mq_decode.proofs.KindLaws.{IsKind, dup_of, kind_of}

-- ---- CONNACK

nothing_some : {A : Type 0} {a : A} → None ≡ Some a → ⊥
nothing_some e = cc

pub refusal_exact : (n : ℕ) (c : RefusalCode) → refusal_from n ≡ Some c → n ≡ refusal_number c
refusal_exact n c e =
    elim (chosen (eqb n 1) (Some UnacceptableProtocolVersion) (cond (eqb n 2) (Some IdentifierRejected) (cond (eqb n 3) (Some ServerUnavailable) (cond (eqb n 4) (Some BadUserNameOrPassword) (cond (eqb n 5) (Some NotAuthorized) (None))))) (Some c) e) [
      | inl h0 ↦ eqb-true n 1 h0.0 ∙ ap refusal_number (some_is h0.1)
      | inr h0 ↦
          elim (chosen (eqb n 2) (Some IdentifierRejected) (cond (eqb n 3) (Some ServerUnavailable) (cond (eqb n 4) (Some BadUserNameOrPassword) (cond (eqb n 5) (Some NotAuthorized) (None)))) (Some c) h0.1) [
            | inl h1 ↦ eqb-true n 2 h1.0 ∙ ap refusal_number (some_is h1.1)
            | inr h1 ↦
                elim (chosen (eqb n 3) (Some ServerUnavailable) (cond (eqb n 4) (Some BadUserNameOrPassword) (cond (eqb n 5) (Some NotAuthorized) (None))) (Some c) h1.1) [
                  | inl h2 ↦ eqb-true n 3 h2.0 ∙ ap refusal_number (some_is h2.1)
                  | inr h2 ↦
                      elim (chosen (eqb n 4) (Some BadUserNameOrPassword) (cond (eqb n 5) (Some NotAuthorized) (None)) (Some c) h2.1) [
                        | inl h3 ↦ eqb-true n 4 h3.0 ∙ ap refusal_number (some_is h3.1)
                        | inr h3 ↦
                            elim (chosen (eqb n 5) (Some NotAuthorized) (None) (Some c) h3.1) [
                              | inl h4 ↦ eqb-true n 5 h4.0 ∙ ap refusal_number (some_is h4.1)
                              | inr h4 ↦
                                  absurd (nothing_some h4.1)
                            ]
                      ]
                ]
          ]
    ]

pub refusal_back : (c : RefusalCode) → refusal_from (refusal_number c) ≡ Some c
refusal_back UnacceptableProtocolVersion = refl
refusal_back IdentifierRejected = refl
refusal_back ServerUnavailable = refl
refusal_back BadUserNameOrPassword = refl
refusal_back NotAuthorized = refl

pub some_code : (c : RefusalCode) → eqb (refusal_number c) 0 ≡ false
some_code UnacceptableProtocolVersion = refl
some_code IdentifierRejected = refl
some_code ServerUnavailable = refl
some_code BadUserNameOrPassword = refl
some_code NotAuthorized = refl

abbrev AnswerFound : Bool → List ℕ → ConnAck × List ℕ → Type 0
AnswerFound present bytes x = bit present ∷ bytes ≡ connack_fields x.0 ++ x.1

pub answer_found : (present : Bool) (bytes : List ℕ) (c : ConnAck) (rest : List ℕ) → answer_at present bytes ≡ Ok (c, rest) → AnswerFound present bytes (c, rest)
answer_found present [] c rest e = absurd cc
answer_found false (b ∷ bytes) c rest e =
    elim (chosen (eqb b 0) (Ok (Accepted false, bytes)) (refusal_or_fault (refusal_from b) b bytes) (Ok (c, rest)) e) [
      | inl h ↦
          let made : ConnAck × List ℕ = (Accepted false, bytes) in
          subst (AnswerFound false (b ∷ bytes)) {x = made} (ok_is made (c, rest) h.1) (rw (eqb-true b 0 h.0) refl)
      | inr h ↦ refused (refusal_from b) refl h.1
    ]
  where
    refused : (o : Option RefusalCode) → refusal_from b ≡ o → refusal_or_fault o b bytes ≡ Ok (c, rest) → AnswerFound false (b ∷ bytes) (c, rest)
    refused None is e = absurd cc
    refused (Some code) is e =
        let made : ConnAck × List ℕ = (Refused code, bytes) in
        subst (AnswerFound false (b ∷ bytes)) {x = made} (ok_is made (c, rest) e) (rw (refusal_exact b code is) refl)
answer_found true (b ∷ bytes) c rest e =
    let g = test_ok (eqb b 0) (bad_at ForbiddenCode (b ∷ bytes)) (Accepted true, bytes) (c, rest) e in
    let made : ConnAck × List ℕ = (Accepted true, bytes) in
    subst (AnswerFound true (b ∷ bytes)) {x = made} g.1 (rw (eqb-true b 0 g.0) refl)

pub present_found : (bytes : List ℕ) (present : Bool) (rest : List ℕ) → present_at bytes ≡ Ok (present, rest) → bytes ≡ bit present ∷ rest
present_found [] present rest e = absurd cc
present_found (b ∷ bytes) present rest e =
    elim (chosen (eqb b 0) (Ok (false, bytes)) (cond (eqb b 1) (Ok (true, bytes)) (Err (bad_at ForbiddenFlags (b ∷ bytes)))) (Ok (present, rest)) e) [
      | inl h ↦
          let made : Bool × List ℕ = (false, bytes) in
          subst PresentFound {x = made} (ok_is made (present, rest) h.1) (rw (eqb-true b 0 h.0) refl)
      | inr h ↦
          let g = test_ok (eqb b 1) (bad_at ForbiddenFlags (b ∷ bytes)) (true, bytes) (present, rest) h.1 in
          let made : Bool × List ℕ = (true, bytes) in
          subst PresentFound {x = made} g.1 (rw (eqb-true b 1 g.0) refl)
    ]
  where
    PresentFound : Bool × List ℕ → Type 0
    PresentFound x = b ∷ bytes ≡ bit x.0 ∷ x.1

connack_found : (bytes : List ℕ) (c : ConnAck) → connack_at bytes ≡ Ok c → bytes ≡ connack_fields c
unfolding connack_at
connack_found bytes c e =
    let p = bind_ok (present_at bytes) (λ present. answer_at present.0 present.1 >>= λ answer. end_at answer.1 >>= λ end. Ok answer.0) c e in
    let a = bind_ok (answer_at p.0.0 p.0.1) (λ answer. end_at answer.1 >>= λ end. Ok answer.0) c p.2 in
    let z = bind_ok (end_at a.0.1) (λ end. Ok a.0.0) c a.2 in
    let whole = present_found bytes p.0.0 p.0.1 p.1 ∙ answer_found p.0.0 p.0.1 a.0.0 a.0.1 a.1 in
    whole ∙ (ap (λ (r : List ℕ). connack_fields a.0.0 ++ r) (end_found a.0.1 z.0 z.1) ∙ (append-nil (connack_fields a.0.0) ∙ ap connack_fields (ok_is a.0.0 c z.2)))

connack_again : (c : ConnAck) → connack_at (connack_fields c) ≡ Ok c
unfolding connack_at
connack_again (Accepted false) = refl
connack_again (Accepted true) = refl
connack_again (Refused code) = rw (some_code code, refusal_back code) refl

-- ---- PUBLISH

abbrev IfDelivery : Option Delivery → Type 0
IfDelivery o = IfSome o (λ d. IsIdentifier d.id)

abbrev DeliveryFound : PublishFlags → List ℕ → Option Delivery × List ℕ → Type 0
DeliveryFound flags bytes x = Takes bytes (delivery_fields x.0) x.1 × IfDelivery x.0 × (fits_delivery flags.qos x.0 ≡ true) × (dup_of x.0 ≡ flags.dup)

abbrev IdentifiedFound : Bool → List ℕ → Option Delivery × List ℕ → Type 0
IdentifiedFound dup bytes x = Takes bytes (delivery_fields x.0) x.1 × IfDelivery x.0 × (fits_delivery Q1 x.0 ≡ true) × (fits_delivery Q2 x.0 ≡ true) × (dup_of x.0 ≡ dup)

identified_found : (w : Wire) (dup : Bool) (bytes : List ℕ) (o : Option Delivery) (rest : List ℕ) → AreBytes bytes → identified_at dup bytes ≡ Ok (o, rest) → IdentifiedFound dup bytes (o, rest)
identified_found w dup bytes o rest h e =
    let a = bind_ok (identifier_at bytes) (λ id. Ok (Some (record { id = id.0; dup = dup }), id.1)) (o, rest) e in
    let l = identifier_found w bytes a.0.0 a.0.1 h a.1 in
    let made : Option Delivery × List ℕ = (Some (record { id = a.0.0; dup = dup }), a.0.1) in
    subst (IdentifiedFound dup bytes) {x = made} (ok_is made (o, rest) a.2) (l.0, l.1, refl, refl, refl)

delivery_found : (w : Wire) (qos : Qos) (dup retain : Bool) (bytes : List ℕ) (o : Option Delivery) (rest : List ℕ) → dup_fits dup qos ≡ true → AreBytes bytes
    → delivery_of qos dup bytes ≡ Ok (o, rest) → DeliveryFound (record { dup = dup; qos = qos; retain = retain }) bytes (o, rest)
delivery_found w Q0 false retain bytes o rest fits h e =
    let made : Option Delivery × List ℕ = (None, bytes) in
    subst (DeliveryFound (record { dup = false; qos = Q0; retain = retain }) bytes) {x = made} (ok_is made (o, rest) e) (takes bytes [] bytes h refl, tt, refl, refl)
delivery_found w Q0 true retain bytes o rest fits h e = absurd cc
delivery_found w Q1 dup retain bytes o rest fits h e = let f = identified_found w dup bytes o rest h e in (f.0, f.1, f.2, f.4)
delivery_found w Q2 dup retain bytes o rest fits h e = let f = identified_found w dup bytes o rest h e in (f.0, f.1, f.3, f.4)

abbrev PublishFound : PublishFlags → List ℕ → Publication → Type 0
PublishFound flags bytes p = (bytes ≡ publish_fields p) × IsPublication p × (dup_of p.delivery ≡ flags.dup) × (p.message.qos ≡ flags.qos) × (p.message.retain ≡ flags.retain)

publish_found : (w : Wire) (flags : PublishFlags) (bytes : List ℕ) (p : Publication) → dup_fits flags.dup flags.qos ≡ true → length bytes < 2 ^ 28 → AreBytes bytes → publish_at flags bytes ≡ Ok p → PublishFound flags bytes p
unfolding publish_at delivery_at
publish_found w flags bytes p fits small h e =
    let a = bind_ok (name_at bytes) (λ topic. delivery_at flags topic.1 >>= λ delivery.
    Ok (record { message = record { topic = topic.0; payload = delivery.1; qos = flags.qos; retain = flags.retain }; delivery = delivery.0 })) p e in
    let b = bind_ok (delivery_at flags a.0.1) (λ delivery.
    Ok (record { message = record { topic = a.0.0; payload = delivery.1; qos = flags.qos; retain = flags.retain }; delivery = delivery.0 })) p a.2 in
    let l = name_found w bytes a.0.0 a.0.1 h a.1 in
    let m = delivery_found w flags.qos flags.dup flags.retain a.0.1 b.0.0 b.0.1 fits l.0.rest_bytes b.1 in
    let made : Publication = record { message = record { topic = a.0.0; payload = b.0.1; qos = flags.qos; retain = flags.retain }; delivery = b.0.0 } in
    let whole : bytes ≡ counted a.0.0 ++ (delivery_fields b.0.0 ++ b.0.1) = l.0.parts ∙ ap (λ (t : List ℕ). counted a.0.0 ++ t) m.0.parts in
    let shorter : length b.0.1 < 2 ^ 28 = shorter_payload (counted a.0.0) (delivery_fields b.0.0) b.0.1 bytes whole small in
    subst (PublishFound flags bytes) {x = made} (ok_is made p b.2) (whole, record { message = record { topic = l.1; payload = shorter }; fits = m.2; identifier = m.1 }, m.3, refl, refl)
  where
    shorter_payload : (x y z b : List ℕ) → b ≡ x ++ (y ++ z) → length b < 2 ^ 28 → length z < 2 ^ 28
    shorter_payload x y z b e lt = omega (arith, ap length e, length-append x (y ++ z), length-append y z)

delivery_again : (w : Wire) (qos : Qos) (o : Option Delivery) (rest : List ℕ) → fits_delivery qos o ≡ true → IfDelivery o → delivery_of qos (dup_of o) (delivery_fields o ++ rest) ≡ Ok (o, rest)
delivery_again w Q0 None rest fits is = refl
delivery_again w Q0 (Some d) rest fits is = absurd cc
delivery_again w Q1 None rest fits is = absurd cc
delivery_again w Q1 (Some d) rest fits is = rw (identifier_again w d.id rest is) refl
delivery_again w Q2 None rest fits is = absurd cc
delivery_again w Q2 (Some d) rest fits is = rw (identifier_again w d.id rest is) refl

publish_again : (w : Wire) (p : Publication) → IsPublication p → publish_at (record { dup = dup_of p.delivery; qos = p.message.qos; retain = p.message.retain }) (publish_fields p) ≡ Ok p
unfolding publish_at delivery_at
publish_again w p is =
    rw (name_again w p.message.topic (delivery_fields p.delivery ++ p.message.payload) is.message.topic, delivery_again w p.message.qos p.delivery p.message.payload is.fits is.identifier) refl

-- ---- only an identifier

only_found : (w : Wire) (bytes : List ℕ) (id : ℕ) → AreBytes bytes → only_identifier_at bytes ≡ Ok id → (bytes ≡ number id) × IsIdentifier id
unfolding only_identifier_at
only_found w bytes id h e =
    let a = bind_ok (identifier_at bytes) (λ i. end_at i.1 >>= λ end. Ok i.0) id e in
    let z = bind_ok (end_at a.0.1) (λ end. Ok a.0.0) id a.2 in
    let l = identifier_found w bytes a.0.0 a.0.1 h a.1 in
    let id_is : a.0.0 ≡ id = ok_is a.0.0 id z.2 in
    let whole : bytes ≡ number a.0.0 = l.0.parts ∙ ap (λ (r : List ℕ). number a.0.0 ++ r) (end_found a.0.1 z.0 z.1) in
    (whole ∙ ap number id_is, subst IsIdentifier id_is l.1)

only_again : (w : Wire) (id : ℕ) → IsIdentifier id → only_identifier_at (number id) ≡ Ok id
unfolding only_identifier_at
only_again w id is = rw (identifier_again w id [] is) refl

-- ---- all kinds

pub record BodyFound (kind : Kind) (bytes : List ℕ) (p : Packet) : Type 0 where
  pub kind_is : kind_of p ≡ kind
  pub parts : bytes ≡ fields p
  pub packet : IsPacket p

pub body_found : (w : Wire) (kind : Kind) (bytes : List ℕ) (p : Packet) → IsKind kind → length bytes < 2 ^ 28 → AreBytes bytes → body_at kind bytes ≡ Ok p → BodyFound kind bytes p
body_found w kinds.Connect bytes p good small h e =
    let a = bind_ok (connect_at bytes) (λ c. Ok (packets.Connect c)) p e in
    let l = connect_found w bytes a.0 h a.1 in
    subst (BodyFound kinds.Connect bytes) {x = packets.Connect a.0} (ok_is (packets.Connect a.0) p a.2) (record { kind_is = refl; parts = l.0; packet = l.1 })
body_found w kinds.ConnAck bytes p good small h e =
    let a = bind_ok (connack_at bytes) (λ c. Ok (packets.ConnAck c)) p e in
    subst (BodyFound kinds.ConnAck bytes) {x = packets.ConnAck a.0} (ok_is (packets.ConnAck a.0) p a.2) (record { kind_is = refl; parts = connack_found bytes a.0 a.1; packet = tt })
body_found w (kinds.Publish flags) bytes p good small h e =
    let a = bind_ok (publish_at flags bytes) (λ q. Ok (packets.Publish q)) p e in
    let l = publish_found w flags bytes a.0 good small h a.1 in
    subst (BodyFound (kinds.Publish flags) bytes) {x = packets.Publish a.0} (ok_is (packets.Publish a.0) p a.2) (record { kind_is = rw (l.2, l.3, l.4) refl; parts = l.0; packet = l.1 })
body_found w kinds.PubAck bytes p good small h e =
    let a = bind_ok (only_identifier_at bytes) (λ id. Ok (packets.PubAck id)) p e in
    let l = only_found w bytes a.0 h a.1 in
    subst (BodyFound kinds.PubAck bytes) {x = packets.PubAck a.0} (ok_is (packets.PubAck a.0) p a.2) (record { kind_is = refl; parts = l.0; packet = l.1 })
body_found w kinds.PubRec bytes p good small h e =
    let a = bind_ok (only_identifier_at bytes) (λ id. Ok (packets.PubRec id)) p e in
    let l = only_found w bytes a.0 h a.1 in
    subst (BodyFound kinds.PubRec bytes) {x = packets.PubRec a.0} (ok_is (packets.PubRec a.0) p a.2) (record { kind_is = refl; parts = l.0; packet = l.1 })
body_found w kinds.PubRel bytes p good small h e =
    let a = bind_ok (only_identifier_at bytes) (λ id. Ok (packets.PubRel id)) p e in
    let l = only_found w bytes a.0 h a.1 in
    subst (BodyFound kinds.PubRel bytes) {x = packets.PubRel a.0} (ok_is (packets.PubRel a.0) p a.2) (record { kind_is = refl; parts = l.0; packet = l.1 })
body_found w kinds.PubComp bytes p good small h e =
    let a = bind_ok (only_identifier_at bytes) (λ id. Ok (packets.PubComp id)) p e in
    let l = only_found w bytes a.0 h a.1 in
    subst (BodyFound kinds.PubComp bytes) {x = packets.PubComp a.0} (ok_is (packets.PubComp a.0) p a.2) (record { kind_is = refl; parts = l.0; packet = l.1 })
body_found w kinds.UnsubAck bytes p good small h e =
    let a = bind_ok (only_identifier_at bytes) (λ id. Ok (packets.UnsubAck id)) p e in
    let l = only_found w bytes a.0 h a.1 in
    subst (BodyFound kinds.UnsubAck bytes) {x = packets.UnsubAck a.0} (ok_is (packets.UnsubAck a.0) p a.2) (record { kind_is = refl; parts = l.0; packet = l.1 })
body_found w kinds.Subscribe bytes p good small h e =
    let a = bind_ok (list_with request_at bytes) (λ l. Ok (packets.Subscribe l.0 l.1)) p e in
    let l = list_with_found w request_at request_fields IsRequest (request_laws w) bytes a.0.0 a.0.1 h a.1 in
    subst (BodyFound kinds.Subscribe bytes) {x = packets.Subscribe a.0.0 a.0.1} (ok_is (packets.Subscribe a.0.0 a.0.1) p a.2) (record { kind_is = refl; parts = l.0; packet = l.1 })
body_found w kinds.SubAck bytes p good small h e =
    let a = bind_ok (list_with suback_code_at bytes) (λ l. Ok (packets.SubAck l.0 l.1)) p e in
    let l = list_with_found w suback_code_at code_fields Always suback_code_laws bytes a.0.0 a.0.1 h a.1 in
    subst (BodyFound kinds.SubAck bytes) {x = packets.SubAck a.0.0 a.0.1} (ok_is (packets.SubAck a.0.0 a.0.1) p a.2) (record { kind_is = refl; parts = l.0; packet = l.1 })
body_found w kinds.Unsubscribe bytes p good small h e =
    let a = bind_ok (list_with filter_at bytes) (λ l. Ok (packets.Unsubscribe l.0 l.1)) p e in
    let l = list_with_found w filter_at counted IsTopicFilter (filter_laws w) bytes a.0.0 a.0.1 h a.1 in
    subst (BodyFound kinds.Unsubscribe bytes) {x = packets.Unsubscribe a.0.0 a.0.1} (ok_is (packets.Unsubscribe a.0.0 a.0.1) p a.2) (record { kind_is = refl; parts = l.0; packet = l.1 })
body_found w kinds.PingReq bytes p good small h e =
    let a = bind_ok (end_at bytes) (λ end. Ok packets.PingReq) p e in
    subst (BodyFound kinds.PingReq bytes) {x = packets.PingReq} (ok_is packets.PingReq p a.2) (record { kind_is = refl; parts = end_found bytes a.0 a.1; packet = tt })
body_found w kinds.PingResp bytes p good small h e =
    let a = bind_ok (end_at bytes) (λ end. Ok packets.PingResp) p e in
    subst (BodyFound kinds.PingResp bytes) {x = packets.PingResp} (ok_is packets.PingResp p a.2) (record { kind_is = refl; parts = end_found bytes a.0 a.1; packet = tt })
body_found w kinds.Disconnect bytes p good small h e =
    let a = bind_ok (end_at bytes) (λ end. Ok packets.Disconnect) p e in
    subst (BodyFound kinds.Disconnect bytes) {x = packets.Disconnect} (ok_is packets.Disconnect p a.2) (record { kind_is = refl; parts = end_found bytes a.0 a.1; packet = tt })

pub body_again : (w : Wire) (p : Packet) → IsPacket p → body_at (kind_of p) (fields p) ≡ Ok p
body_again w (packets.Connect c) is = rw (connect_again w c is) refl
body_again w (packets.ConnAck c) is = rw (connack_again c) refl
body_again w (packets.Publish p) is = rw (publish_again w p is) refl
body_again w (packets.PubAck id) is = rw (only_again w id is) refl
body_again w (packets.PubRec id) is = rw (only_again w id is) refl
body_again w (packets.PubRel id) is = rw (only_again w id is) refl
body_again w (packets.PubComp id) is = rw (only_again w id is) refl
body_again w (packets.UnsubAck id) is = rw (only_again w id is) refl
body_again w (packets.Subscribe id items) is = rw (list_with_again w request_at request_fields IsRequest (request_laws w) id items is) refl
body_again w (packets.SubAck id items) is = rw (list_with_again w suback_code_at code_fields Always suback_code_laws id items is) refl
body_again w (packets.Unsubscribe id items) is = rw (list_with_again w filter_at counted IsTopicFilter (filter_laws w) id items is) refl
body_again w packets.PingReq is = refl
body_again w packets.PingResp is = refl
body_again w packets.Disconnect is = refl
