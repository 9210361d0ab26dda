-- PUBLISH and CONNACK (3.2, 3.3).
use Rattle.std.proofs.Common.{◌≡◌, ℕ, ◌+◌, ◌*◌, ◌≤◌, ◌<◌, ◌^◌, Bool, true, false, true≢false, List, [], ◌∷◌, ◌++◌, length, Result, refl, sym, ap, subst, ◌∙◌, append_assoc, arith}
use Rattle.std.specs.Prelude.{Option, None, Some, IfSome}
use Rattle.std.proofs.lemmas.List.{length-append}
use Rattle.mq_wire.specs.Number.{number}
use Rattle.mq_wire.specs.Reading.{LengthLaws}
use Rattle.mq_wire.specs.Text.{counted}
use Rattle.mq_topic.specs.Qos.{qos_from, qos_number}
use Rattle.mq_topic.specs.Topic.{IsTopicName}
use Rattle.mq_topic.specs.declared.qos.Qos.{Qos}
use Rattle.mq_topic.specs.declared.qos.Qos.TheVariants.{Q0, Q1, Q2}
use Rattle.mq_packet.specs.declared.connack.ConnAck.{ConnAck}
use Rattle.mq_packet.specs.declared.connack.ConnAck.TheVariants.{Accepted, Refused}
use Rattle.mq_packet.specs.declared.connack.RefusalCode.{RefusalCode}
use Rattle.mq_packet.specs.declared.packet.Packet.{Packet}
use Rattle.mq_packet.specs.declared.packet.Packet.TheVariants as packets
use Rattle.mq_packet.specs.declared.publish.Delivery.{Delivery}
use Rattle.mq_packet.specs.Codes.{refusal_from, refusal_number}
use Rattle.mq_packet.specs.Encoding.{bit, delivery_fields, dup_bit, fields, first_byte, publish_fields}
use Rattle.mq_packet.specs.Identifier.{IsIdentifier}
use Rattle.mq_packet.specs.Publication.{Publication, fits_delivery}
use Rattle.mq_packet.specs.Values.{IsPacket, IsPublication}
use Rattle.mq_decode.proofs.BodyLaws.{refusal_back, refusal_exact}
use Rattle.mq_decode.proofs.ListLaws.{qos_back, qos_exact}
use Rattle.mq_bytes.specs.declared.fault.EncodeFault.{EncodeFault}
use Rattle.mq_bytes.specs.declared.fault.EncodeFault.TheVariants.{TooLarge}
use Rattle.mq_bytes.specs.Arguments.{IsAnswerOf, IsConnAckOf, IsPublishOf}
use Rattle.mq_bytes.specs.Inside.Arguments.{MayDeliver}
use Rattle.mq_bytes.specs.Buffers.{Gives}
use Rattle.mq_bytes.specs.Inside.Buffers.{EncodesParts}
use Rattle.mq_bytes.specs.Places.{dup_of, identifier_of}
use Rattle.mq_bytes.proofs.Encoded.{parts_give}

-- ---- DUP and the identifier

-- The publication with these parts.
abbrev publication_of : List ℕ → List ℕ → Qos → Bool → Option Delivery → Publication
publication_of topic payload q retain d = record { message = record { topic = topic; payload = payload; qos = q; retain = retain }; delivery = d }

-- A delivery with this quality of service, DUP and identifier.
record Delivers (q : Qos) (dup : Bool) (id : ℕ) : Type 0 where
  pub delivery : Option Delivery
  pub fits : fits_delivery q delivery ≡ true
  pub identifier : IfSome delivery (λ d. IsIdentifier d.id)
  pub is_dup : dup_of delivery ≡ dup
  pub is_id : identifier_of delivery ≡ id
  pub none : id ≡ 0 → [] ≡ delivery_fields delivery
  pub some : (id ≡ 0 → ⊥) → number id ≡ delivery_fields delivery

not_zero : (id : ℕ) → IsIdentifier id → id ≡ 0 → ⊥
not_zero id is e = absurd (omega (arith, is.0, e))

delivered : (q : Qos) (dup : Bool) (id : ℕ) → IsIdentifier id → fits_delivery q (Some (record { id = id; dup = dup })) ≡ true → Delivers q dup id
delivered q dup id is fits = record {
  delivery = Some (record { id = id; dup = dup });
  fits = fits;
  identifier = is;
  is_dup = refl;
  is_id = refl;
  none = λ e. absurd (not_zero id is e);
  some = λ fails. refl;
}

delivers : (q : Qos) (dup : Bool) (id : ℕ) → MayDeliver q dup id → Delivers q dup id
delivers Q0 dup id may = record {
  delivery = None;
  fits = refl;
  identifier = tt;
  is_dup = sym may.0;
  is_id = sym may.1;
  none = λ e. refl;
  some = λ fails. absurd (fails may.1);
}
delivers Q1 dup id may = delivered Q1 dup id may refl
delivers Q2 dup id may = delivered Q2 dup id may refl

-- And the other way round.
may_of : (q : Qos) (d : Option Delivery) → fits_delivery q d ≡ true → IfSome d (λ x. IsIdentifier x.id) → MayDeliver q (dup_of d) (identifier_of d)
may_of Q0 None fits is = (refl, refl)
may_of Q0 (Some d) fits is = absurd (true≢false (sym fits))
may_of Q1 None fits is = absurd (true≢false (sym fits))
may_of Q1 (Some d) fits is = is
may_of Q2 None fits is = absurd (true≢false (sym fits))
may_of Q2 (Some d) fits is = is

dup_bit_of : (d : Option Delivery) → dup_bit d ≡ bit (dup_of d)
dup_bit_of None = refl
dup_bit_of (Some d) = refl

-- ---- PUBLISH

abbrev first_of : Qos → Bool → Bool → ℕ
first_of q retain dup = 0x30 + 8 * bit dup + 2 * qos_number q + bit retain

publish_gives : LengthLaws → (topic payload : List ℕ) (q : Qos) (retain dup : Bool) (id first : ℕ) (size middle old new : List ℕ) (r : Result ℕ EncodeFault) (v : Delivers q dup id) → IsTopicName topic → length payload < 2 ^ 28 → first ≡ first_of q retain dup → size ≡ number (length topic) → middle ≡ delivery_fields v.delivery → EncodesParts first (size ++ (topic ++ (middle ++ payload))) old new r → Gives (IsPublishOf topic payload (qos_number q) retain dup id) old new r
publish_gives laws topic payload q retain dup id first size middle old new r v name small is_first is_size is_middle parts =
    let p : Publication = publication_of topic payload q retain v.delivery in
    let valid : IsPublication p = record { message = record { topic = name; payload = small }; fits = v.fits; identifier = v.identifier } in
    let dup_is : bit dup ≡ dup_bit v.delivery = sym (dup_bit_of v.delivery ∙ ap bit v.is_dup) in
    let one : first ≡ first_byte (packets.Publish p) = is_first ∙ ap (λ (k : ℕ). 0x30 + 8 * k + 2 * qos_number q + bit retain) dup_is in
    let body : size ++ (topic ++ (middle ++ payload)) ≡ publish_fields p =
    ap (λ (s : List ℕ). s ++ (topic ++ (middle ++ payload))) is_size
    ∙ (ap (λ (m : List ℕ). number (length topic) ++ (topic ++ (m ++ payload))) is_middle
    ∙ sym (append_assoc (number (length topic)) topic (delivery_fields v.delivery ++ payload))) in
    parts_give laws (IsPublishOf topic payload (qos_number q) retain dup id) (packets.Publish p) first (size ++ (topic ++ (middle ++ payload))) old new r ((refl, refl, refl, refl), v.is_dup, v.is_id) valid one body parts

pub once_gives : LengthLaws → (topic payload : List ℕ) (q : Qos) (retain dup : Bool) (id first : ℕ) (size old new : List ℕ) (r : Result ℕ EncodeFault) → MayDeliver q dup id → id ≡ 0 → IsTopicName topic → length payload < 2 ^ 28 → first ≡ first_of q retain dup → size ≡ number (length topic) → EncodesParts first (size ++ (topic ++ ([] ++ payload))) old new r → Gives (IsPublishOf topic payload (qos_number q) retain dup id) old new r
once_gives laws topic payload q retain dup id first size old new r may e name small is_first is_size parts =
    let v = delivers q dup id may in
    publish_gives laws topic payload q retain dup id first size [] old new r v name small is_first is_size (v.none e) parts

pub more_gives : LengthLaws → (topic payload : List ℕ) (q : Qos) (retain dup : Bool) (id first : ℕ) (size middle old new : List ℕ) (r : Result ℕ EncodeFault) → MayDeliver q dup id → (id ≡ 0 → ⊥) → IsTopicName topic → length payload < 2 ^ 28 → first ≡ first_of q retain dup → size ≡ number (length topic) → middle ≡ number id → EncodesParts first (size ++ (topic ++ (middle ++ payload))) old new r → Gives (IsPublishOf topic payload (qos_number q) retain dup id) old new r
more_gives laws topic payload q retain dup id first size middle old new r may e name small is_first is_size is_middle parts =
    let v = delivers q dup id may in
    publish_gives laws topic payload q retain dup id first size middle old new r v name small is_first is_size (is_middle ∙ v.some e) parts

-- The number of the quality of service.
pub publish_named : (topic payload : List ℕ) (q : Qos) (qos : ℕ) (retain dup : Bool) (id : ℕ) (old new : List ℕ) (r : Result ℕ EncodeFault) → Some q ≡ qos_from qos → Gives (IsPublishOf topic payload (qos_number q) retain dup id) old new r → Gives (IsPublishOf topic payload qos retain dup id) old new r
publish_named topic payload q qos retain dup id old new r read h =
    subst (λ (k : ℕ). Gives (IsPublishOf topic payload k retain dup id) old new r) (sym (qos_exact qos q (sym read))) h

pub publish_too_large : (topic payload : List ℕ) (q : Qos) (qos : ℕ) (retain dup : Bool) (id : ℕ) (old : List ℕ) → Some q ≡ qos_from qos → MayDeliver q dup id → 2 ^ 28 ≤ length payload → Gives (IsPublishOf topic payload qos retain dup id) old old (Result.Err TooLarge)
publish_too_large topic payload q qos retain dup id old read may large =
    let v = delivers q dup id may in
    let p : Publication = publication_of topic payload q retain v.delivery in
    let size : 2 ^ 28 ≤ length (publish_fields p) = omega (arith, large, length-append (counted topic) (delivery_fields v.delivery ++ payload), length-append (delivery_fields v.delivery) payload) in
    (packets.Publish p, ((refl, refl, sym (qos_exact qos q (sym read)), refl), v.is_dup, v.is_id), size, refl)

-- What a valid PUBLISH says of its parts.
record Valid (topic : List ℕ) (qos : ℕ) (dup : Bool) (id : ℕ) : Type 0 where
  pub q : Qos
  pub number : qos_number q ≡ qos
  pub name : IsTopicName topic
  pub may : MayDeliver q dup id

valid : (topic payload : List ℕ) (qos : ℕ) (retain dup : Bool) (id : ℕ) (p : Packet) → IsPacket p → IsPublishOf topic payload qos retain dup id p → Valid topic qos dup id
valid topic payload qos retain dup id (packets.Connect x) q h = absurd h
valid topic payload qos retain dup id (packets.ConnAck x) q h = absurd h
valid topic payload qos retain dup id (packets.Publish x) q h = record {
  q = x.message.qos;
  number = h.0.2;
  name = subst IsTopicName h.0.0 q.message.topic;
  may = subst (λ (i : ℕ). MayDeliver x.message.qos dup i) h.2 (subst (λ (d : Bool). MayDeliver x.message.qos d (identifier_of x.delivery)) h.1 (may_of x.message.qos x.delivery q.fits q.identifier));
}
valid topic payload qos retain dup id (packets.PubAck x) q h = absurd h
valid topic payload qos retain dup id (packets.PubRec x) q h = absurd h
valid topic payload qos retain dup id (packets.PubRel x) q h = absurd h
valid topic payload qos retain dup id (packets.PubComp x) q h = absurd h
valid topic payload qos retain dup id (packets.Subscribe x y) q h = absurd h
valid topic payload qos retain dup id (packets.SubAck x y) q h = absurd h
valid topic payload qos retain dup id (packets.Unsubscribe x y) q h = absurd h
valid topic payload qos retain dup id (packets.UnsubAck x) q h = absurd h
valid topic payload qos retain dup id packets.PingReq q h = absurd h
valid topic payload qos retain dup id packets.PingResp q h = absurd h
valid topic payload qos retain dup id packets.Disconnect q h = absurd h

none_is_some : {A : Type 0} (a : A) → None ≡ Some a → ⊥
none_is_some a e = absurd cc

some_is : {A : Type 0} (a b : A) → Some a ≡ Some b → a ≡ b
some_is a b e = cc

pub no_qos : (topic payload : List ℕ) (qos : ℕ) (retain dup : Bool) (id : ℕ) → None ≡ qos_from qos → (p : Packet) → IsPacket p → IsPublishOf topic payload qos retain dup id p → ⊥
no_qos topic payload qos retain dup id read p q h =
    let v = valid topic payload qos retain dup id p q h in
    none_is_some v.q (read ∙ (ap qos_from (sym v.number) ∙ qos_back v.q))

pub no_name : (topic payload : List ℕ) (qos : ℕ) (retain dup : Bool) (id : ℕ) → (IsTopicName topic → ⊥) → (p : Packet) → IsPacket p → IsPublishOf topic payload qos retain dup id p → ⊥
no_name topic payload qos retain dup id fails p q h = fails (valid topic payload qos retain dup id p q h).name

pub no_delivery : (topic payload : List ℕ) (s : Qos) (qos : ℕ) (retain dup : Bool) (id : ℕ) → Some s ≡ qos_from qos → (MayDeliver s dup id → ⊥) → (p : Packet) → IsPacket p → IsPublishOf topic payload qos retain dup id p → ⊥
no_delivery topic payload s qos retain dup id read fails p q h =
    let v = valid topic payload qos retain dup id p q h in
    let same : v.q ≡ s = some_is v.q s (sym (read ∙ (ap qos_from (sym v.number) ∙ qos_back v.q))) in
    fails (subst (λ (k : Qos). MayDeliver k dup id) same v.may)

-- ---- CONNACK

pub accepted : LengthLaws → (present : Bool) (code n : ℕ) (old new : List ℕ) (r : Result ℕ EncodeFault) → code ≡ 0 → n ≡ bit present → EncodesParts 0x20 ((n ∷ 0 ∷ []) ++ ([] ++ ([] ++ []))) old new r → Gives (IsConnAckOf present code) old new r
accepted laws present code n old new r e is h =
    parts_give laws (IsConnAckOf present code) (packets.ConnAck (Accepted present)) 0x20 (n ∷ 0 ∷ []) old new r (refl, e) tt refl (ap (λ (k : ℕ). k ∷ 0 ∷ []) is) h

pub refused : LengthLaws → (present : Bool) (code : ℕ) (c : RefusalCode) (old new : List ℕ) (r : Result ℕ EncodeFault) → present ≡ false → Some c ≡ refusal_from code → EncodesParts 0x20 ((0 ∷ code ∷ []) ++ ([] ++ ([] ++ []))) old new r → Gives (IsConnAckOf present code) old new r
refused laws present code c old new r e read h =
    let same : code ≡ refusal_number c = refusal_exact code c (sym read) in
    parts_give laws (IsConnAckOf present code) (packets.ConnAck (Refused c)) 0x20 (0 ∷ code ∷ []) old new r (e, sym same) tt refl (ap (λ (k : ℕ). 0 ∷ k ∷ []) same) h

-- What a CONNACK says of its parts, unless it accepts.
record Refusal (present : Bool) (code : ℕ) : Type 0 where
  pub reason : RefusalCode
  pub number : refusal_number reason ≡ code
  pub absent : present ≡ false

refusal_in : (present : Bool) (code : ℕ) (answer : ConnAck) → (code ≡ 0 → ⊥) → IsAnswerOf present code answer → Refusal present code
refusal_in present code (Accepted x) fails h = absurd (fails h.1)
refusal_in present code (Refused c) fails h = record { reason = c; number = h.1; absent = h.0 }

refusal : (present : Bool) (code : ℕ) → (code ≡ 0 → ⊥) → (p : Packet) → IsPacket p → IsConnAckOf present code p → Refusal present code
refusal present code fails (packets.Connect x) q h = absurd h
refusal present code fails (packets.ConnAck answer) q h = refusal_in present code answer fails h
refusal present code fails (packets.Publish x) q h = absurd h
refusal present code fails (packets.PubAck x) q h = absurd h
refusal present code fails (packets.PubRec x) q h = absurd h
refusal present code fails (packets.PubRel x) q h = absurd h
refusal present code fails (packets.PubComp x) q h = absurd h
refusal present code fails (packets.Subscribe x y) q h = absurd h
refusal present code fails (packets.SubAck x y) q h = absurd h
refusal present code fails (packets.Unsubscribe x y) q h = absurd h
refusal present code fails (packets.UnsubAck x) q h = absurd h
refusal present code fails packets.PingReq q h = absurd h
refusal present code fails packets.PingResp q h = absurd h
refusal present code fails packets.Disconnect q h = absurd h

pub no_presence : (present : Bool) (code : ℕ) → (code ≡ 0 → ⊥) → present ≡ true → (p : Packet) → IsPacket p → IsConnAckOf present code p → ⊥
no_presence present code fails e p q h = absurd (true≢false (sym e ∙ (refusal present code fails p q h).absent))

pub no_refusal : (present : Bool) (code : ℕ) → (code ≡ 0 → ⊥) → None ≡ refusal_from code → (p : Packet) → IsPacket p → IsConnAckOf present code p → ⊥
no_refusal present code fails read p q h =
    let v = refusal present code fails p q h in
    none_is_some v.reason (read ∙ (ap refusal_from (sym v.number) ∙ refusal_back v.reason))
